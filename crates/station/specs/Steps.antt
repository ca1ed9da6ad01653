-- What each call answers, writes and makes of a station, accepted or refused.
use Rattle.std.specs.Prelude.{◌≡◌, ℕ, ◌+◌, ◌<◌, ◌≤◌, Bool, cond, ◌⊎◌, List, ◌++◌, length, drop, replicate, Some, None, Ok, Err, Result, ◌≢◌}
use Rattle.mode.specs.declared.fault.ModeFault.TheVariants.{OutputLength, NotSealed}
use Rattle.mode.specs.declared.pair.Pair.{Pair}
use Rattle.mode.specs.Sealing.{Maps}
use Rattle.frame.specs.declared.fault.FrameFault.{FrameFault}
use Rattle.frame.specs.declared.fault.FrameFault.TheVariants.{UnknownMode, ClearTooLong, MessageTooLong, OutputShort, FrameShort, BadField, FrameLength, Sealing}
use Rattle.frame.specs.Fields.{sealed_length, sender_of, frame_number}
use Rattle.frame.specs.Form.{WellFormed, SealsTo}
use Rattle.frame.specs.declared.pieces.FrameParts.{FrameParts}
use Rattle.frame.specs.Gives.{PartsOf, Malformed, FrameSeals, Opened as FrameOpened}
use Rattle.station.specs.declared.fault.StationFault.{StationFault}
use Rattle.station.specs.declared.fault.StationFault.TheVariants.{SameId, BadNumber, Exhausted, NotOut, UnknownSender, NotAbove, Frame}
use Rattle.station.specs.declared.state.Opened.{Opened}
use Rattle.station.specs.declared.state.Station.{Station}
use Rattle.station.specs.declared.state.Ticket.{Ticket}
use Rattle.station.specs.Events.{Event, Reserve, GiveUp, Seal, Open}
use Rattle.station.specs.Numbers.{held, last_number}

-- a start of 0 or above the last number, or a floor above it
abbrev pub Outside : ℕ → ℕ → Type 0
Outside start floor = (start ≡ 0) ⊎ ((last_number < start) ⊎ (last_number < floor))

module _ {C M : Type 0} where
  -- a station that has done nothing yet
  pub record Fresh (pair : Pair C M) (own peer start floor : ℕ) (s : Station C M) : Type 0 where
    pub pair_is : s.pair ≡ pair
    pub own_is : s.own ≡ own
    pub peer_is : s.peer.id ≡ peer
    pub next_is : s.next ≡ start
    pub out_is : s.out ≡ None
    pub highest_is : s.peer.highest ≡ floor
    pub reserved_is : s.reserved ≡ 0
    pub sealed_is : s.sealed ≡ 0
    pub off_is : s.written_off ≡ 0

  abbrev pub Founds : Pair C M → (own peer start floor : ℕ) → Result (Station C M) StationFault → Type 0
  Founds pair own peer start floor (Ok s) = (own ≢ peer) × (1 ≤ start) × (start ≤ last_number) × (floor ≤ last_number) × Fresh pair own peer start floor s
  Founds pair own peer start floor (Err SameId) = own ≡ peer
  Founds pair own peer start floor (Err BadNumber) = (own ≢ peer) × Outside start floor
  Founds pair own peer start floor (Err Exhausted) = ⊥
  Founds pair own peer start floor (Err NotOut) = ⊥
  Founds pair own peer start floor (Err UnknownSender) = ⊥
  Founds pair own peer start floor (Err NotAbove) = ⊥
  Founds pair own peer start floor (Err (Frame fault)) = ⊥

  -- the ticket is this station's, and its number is the one that is out
  abbrev pub Held : Station C M → Ticket → Type 0
  Held s k = (k.id ≡ s.own) × (s.out ≡ Some k.number)

  -- a ticket that is spent: its number, if it is the one that is out
  abbrev pub Spends : Station C M → Ticket → Result ℕ StationFault → Type 0
  Spends s k (Ok number) = Held s k × (number ≡ k.number)
  Spends s k (Err fault) = (Held s k → ⊥) × (fault ≡ NotOut)

  -- what no call changes
  pub record Stays (s t : Station C M) : Type 0 where
    pub pair_is : t.pair ≡ s.pair
    pub own_is : t.own ≡ s.own
    pub peer_is : t.peer.id ≡ s.peer.id

  -- an accepted reserve; a number that is out is written off
  pub record Reserves (s : Station C M) (k : Ticket) (t : Station C M) : Type 0 where
    pub room : s.next ≤ last_number
    pub id_is : k.id ≡ s.own
    pub number_is : k.number ≡ s.next
    pub out_is : t.out ≡ Some s.next
    pub next_is : t.next ≡ s.next + 1
    pub highest_is : t.peer.highest ≡ s.peer.highest
    pub reserved_is : t.reserved ≡ s.reserved + 1
    pub sealed_is : t.sealed ≡ s.sealed
    pub off_is : t.written_off ≡ s.written_off + held s.out
    pub stays : Stays s t

  -- out is cleared, and its number counted as sealed or as written off
  pub record Settles (s : Station C M) (sealed : Bool) (t : Station C M) : Type 0 where
    pub out_is : t.out ≡ None
    pub next_is : t.next ≡ s.next
    pub highest_is : t.peer.highest ≡ s.peer.highest
    pub reserved_is : t.reserved ≡ s.reserved
    pub sealed_is : t.sealed ≡ s.sealed + cond sealed 1 0
    pub off_is : t.written_off ≡ s.written_off + cond sealed 0 1
    pub stays : Stays s t

  -- the number that was out is written off
  pub record WritesOff (s : Station C M) (k : Ticket) (t : Station C M) : Type 0 where
    pub was : Held s k
    pub out_is : t.out ≡ None
    pub next_is : t.next ≡ s.next
    pub highest_is : t.peer.highest ≡ s.peer.highest
    pub reserved_is : t.reserved ≡ s.reserved
    pub sealed_is : t.sealed ≡ s.sealed
    pub off_is : t.written_off ≡ s.written_off + 1
    pub stays : Stays s t

  -- an accepted seal: the frame bears the ticket's number
  pub record Seals (w : Maps) (s : Station C M) (k : Ticket) (mode : ℕ) (clear message was out : List ℕ) (n : ℕ) (t : Station C M) : Type 0 where
    pub held_was : Held s k
    pub framed : FrameSeals w s.own k.number mode clear message was out (Ok n)
    pub out_is : t.out ≡ None
    pub next_is : t.next ≡ s.next
    pub highest_is : t.peer.highest ≡ s.peer.highest
    pub reserved_is : t.reserved ≡ s.reserved
    pub sealed_is : t.sealed ≡ s.sealed + 1
    pub off_is : t.written_off ≡ s.written_off
    pub stays : Stays s t

  -- an accepted open: the frame is the peer's, and its number is above the highest before
  pub record Opens (w : Maps) (s : Station C M) (f was out : List ℕ) (a : Opened) (t : Station C M) : Type 0 where
    pub sender_is : sender_of f ≡ s.peer.id
    pub above : s.peer.highest < frame_number f
    pub opened : FrameOpened w f was out a.length
    pub number_is : a.number ≡ frame_number f
    pub out_is : t.out ≡ s.out
    pub next_is : t.next ≡ s.next
    pub highest_is : t.peer.highest ≡ frame_number f
    pub reserved_is : t.reserved ≡ s.reserved
    pub sealed_is : t.sealed ≡ s.sealed
    pub off_is : t.written_off ≡ s.written_off
    pub stays : Stays s t

  abbrev pub SealRefused : Maps → Station C M → Ticket → (mode : ℕ) (clear message was out : List ℕ) → StationFault → Station C M → Type 0
  SealRefused w s k mode clear message was out SameId t = ⊥
  SealRefused w s k mode clear message was out BadNumber t = ⊥
  SealRefused w s k mode clear message was out Exhausted t = ⊥
  SealRefused w s k mode clear message was out NotOut t = (Held s k → ⊥) × (out ≡ was) × (t ≡ s)
  SealRefused w s k mode clear message was out UnknownSender t = ⊥
  SealRefused w s k mode clear message was out NotAbove t = ⊥
  SealRefused w s k mode clear message was out (Frame fault) t = FrameSeals w s.own k.number mode clear message was out (Err fault) × WritesOff s k t

  -- a frame of the peer with a number above the highest
  abbrev pub Fit : Station C M → List ℕ → Type 0
  Fit s f = WellFormed f × (sender_of f ≡ s.peer.id) × (s.peer.highest < frame_number f)

  -- the parts of such a frame, or why it is not one
  abbrev pub FitGives : Station C M → List ℕ → Result FrameParts StationFault → Type 0
  FitGives s f (Ok p) = PartsOf f p × Fit s f
  FitGives s f (Err SameId) = ⊥
  FitGives s f (Err BadNumber) = ⊥
  FitGives s f (Err Exhausted) = ⊥
  FitGives s f (Err NotOut) = ⊥
  FitGives s f (Err UnknownSender) = WellFormed f × (sender_of f ≢ s.peer.id)
  FitGives s f (Err NotAbove) = WellFormed f × (sender_of f ≡ s.peer.id) × (frame_number f ≤ s.peer.highest)
  FitGives s f (Err (Frame fault)) = Malformed f fault

  abbrev pub OpenFrameRefused : Maps → Station C M → (f was out : List ℕ) → FrameFault → Type 0
  OpenFrameRefused w s f was out UnknownMode = Malformed f UnknownMode × (out ≡ was)
  OpenFrameRefused w s f was out ClearTooLong = ⊥
  OpenFrameRefused w s f was out MessageTooLong = ⊥
  OpenFrameRefused w s f was out OutputShort = Fit s f × (length was < sealed_length f) × (out ≡ was)
  OpenFrameRefused w s f was out FrameShort = Malformed f FrameShort × (out ≡ was)
  OpenFrameRefused w s f was out (BadField field) = Malformed f (BadField field) × (out ≡ was)
  OpenFrameRefused w s f was out FrameLength = Malformed f FrameLength × (out ≡ was)
  OpenFrameRefused w s f was out (Sealing OutputLength) = ⊥
  OpenFrameRefused w s f was out (Sealing NotSealed) =
      Fit s f × (sealed_length f ≤ length was) × ((message : List ℕ) → SealsTo w message f → ⊥) × (out ≡ replicate (sealed_length f) 0 ++ drop (sealed_length f) was)

  abbrev pub OpenRefused : Maps → Station C M → (f was out : List ℕ) → StationFault → Type 0
  OpenRefused w s f was out SameId = ⊥
  OpenRefused w s f was out BadNumber = ⊥
  OpenRefused w s f was out Exhausted = ⊥
  OpenRefused w s f was out NotOut = ⊥
  OpenRefused w s f was out UnknownSender = WellFormed f × (sender_of f ≢ s.peer.id) × (out ≡ was)
  OpenRefused w s f was out NotAbove = WellFormed f × (sender_of f ≡ s.peer.id) × (frame_number f ≤ s.peer.highest) × (out ≡ was)
  OpenRefused w s f was out (Frame fault) = OpenFrameRefused w s f was out fault

  -- a station, a call on it, and the station after it; maps says what a pair of cipher and masking means
  abbrev pub Step : (Pair C M → Maps) → Station C M → Event → Station C M → Type 0
  Step maps s (Reserve (Ok k)) t = Reserves s k t
  Step maps s (Reserve (Err f)) t = (f ≡ Exhausted) × (last_number < s.next) × (t ≡ s)
  Step maps s (GiveUp k (Ok u)) t = WritesOff s k t
  Step maps s (GiveUp k (Err f)) t = (f ≡ NotOut) × (Held s k → ⊥) × (t ≡ s)
  Step maps s (Seal k mode clear message was out (Ok n)) t = Seals (maps s.pair) s k mode clear message was out n t
  Step maps s (Seal k mode clear message was out (Err f)) t = SealRefused (maps s.pair) s k mode clear message was out f t
  Step maps s (Open f was out (Ok a)) t = Opens (maps s.pair) s f was out a t
  Step maps s (Open f was out (Err e)) t = OpenRefused (maps s.pair) s f was out e × (t ≡ s)
