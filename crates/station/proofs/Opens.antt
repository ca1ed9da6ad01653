-- Opening over the parts that were checked.
use Rattle.std.proofs.Common.{ℕ, List, Ok, Err}
use Rattle.mode.specs.declared.fault.ModeFault.TheVariants.{OutputLength, NotSealed}
use Rattle.mode.specs.Sealing.{Maps}
use Rattle.frame.specs.declared.fault.FrameFault.{FrameFault}
use Rattle.frame.specs.declared.fault.FrameFault.TheVariants.{UnknownMode, ClearTooLong, MessageTooLong, OutputShort, FrameShort, BadField, FrameLength, Sealing}
use Rattle.frame.specs.declared.pieces.FrameParts.{FrameParts}
use Rattle.frame.specs.Gives.{PartsOf, PartsOpen, Opened}
use Rattle.frame.proofs.Opening.{frame_opens}
use Rattle.station.specs.declared.fault.StationFault.TheVariants.{Frame}
use Rattle.station.specs.declared.state.Station.{Station}
use Rattle.station.specs.Steps.{Fit, OpenRefused}

module _ {C M : Type 0} (w : Maps) (s : Station C M) (f was out : List ℕ) (p : FrameParts) (o : PartsOf f p) (fit : Fit s f) where
  pub refused : (fault : FrameFault) → PartsOpen w p was out (Err fault) → OpenRefused w s f was out (Frame fault)
  refused UnknownMode h = absurd h
  refused ClearTooLong h = absurd h
  refused MessageTooLong h = absurd h
  refused OutputShort h = let k = frame_opens w f p o was out (Err OutputShort) h in (fit, k.1, k.2)
  refused FrameShort h = absurd h
  refused (BadField field) h = absurd h
  refused FrameLength h = absurd h
  refused (Sealing OutputLength) h = absurd h
  refused (Sealing NotSealed) h = let k = frame_opens w f p o was out (Err (Sealing NotSealed)) h in (fit, k.1, k.2, k.3)

  pub accepted : (n : ℕ) → PartsOpen w p was out (Ok n) → Opened w f was out n
  accepted n h = frame_opens w f p o was out (Ok n) h
