-- What a caller learns from the station's law.
use Rattle.std.specs.Prelude.{◌≡◌, true, Ok, Err, Result, ◌≢◌}
use Rattle.block.specs.Maps.{same}
use Rattle.cipher.specs.declared.Identity.{Identity}
use Rattle.masking.specs.declared.Idle.{Idle}
use Rattle.mode.specs.declared.pair.Pair.{Pair}
use Rattle.mode.specs.Pairs.{maps_of}
use Rattle.mode.specs.Sealing.{Maps}
use Rattle.station.specs.declared.fault.StationFault.{StationFault}
use Rattle.replay.specs.declared.Openings.{Openings}

-- of two openings of one frame, at most one is accepted
abbrev pub AtMostOne : Result Openings StationFault → Type 0
AtMostOne (Ok o) = o.first ≡ true → o.second ≢ true
AtMostOne (Err fault) = Unit {0}

-- the identity cipher with the idle masking, and what they mean: nothing is altered
abbrev pub plain : Pair Identity Idle
plain = record { cipher = record {}; masking = record {} }

abbrev pub plain_maps : Pair Identity Idle → Maps
plain_maps = maps_of (λ _. same) (λ _. same) (λ _. same) (λ _. same)
