-- What becomes of a number that was out.
use Rattle.std.specs.Prelude.{Bool, true, false}
use Rattle.station.specs.declared.state.End.{End}
use Rattle.station.specs.declared.state.End.TheVariants.{Sealed, WrittenOff}

abbrev pub is_sealed : End → Bool
is_sealed Sealed = true
is_sealed WrittenOff = false
