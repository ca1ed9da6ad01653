-- The calls on a station: what each was given, what it answered, and its output buffer before and after.
use Rattle.std.specs.Prelude.{ℕ, List, Result}
use Rattle.station.specs.declared.fault.StationFault.{StationFault}
use Rattle.station.specs.declared.state.Opened.{Opened}
use Rattle.station.specs.declared.state.Ticket.{Ticket}

pub data Event : Type 0 where
  Reserve : (answer : Result Ticket StationFault) → Event
  GiveUp : (ticket : Ticket) (answer : Result (Unit {0}) StationFault) → Event
  Seal : (ticket : Ticket) (mode : ℕ) (clear message was out : List ℕ) (answer : Result ℕ StationFault) → Event
  Open : (frame was out : List ℕ) (answer : Result Opened StationFault) → Event
