-- What holds of every list of calls that begins at a new station.
use Rattle.std.specs.Prelude.{◌≡◌, ℕ, ◌+◌, ◌<◌, ◌≤◌, Bool, cond, ◌&&◌, List, [], ◌∷◌, ◌++◌, length, take, Some, None, Ok, Err, Option, Result, ◌≢◌, nat_le}
use Rattle.mode.specs.declared.fault.ModeFault.TheVariants.{NotSealed}
use Rattle.mode.specs.declared.pair.Pair.{Pair}
use Rattle.mode.specs.Sealing.{Maps}
use Rattle.frame.specs.declared.fault.FrameFault.TheVariants.{Sealing}
use Rattle.frame.specs.Fields.{sealed_length, sender_of, frame_number}
use Rattle.frame.specs.Form.{WellFormed, SealsTo, Neighbours}
use Rattle.station.specs.declared.fault.StationFault.{StationFault}
use Rattle.station.specs.declared.fault.StationFault.TheVariants.{Frame}
use Rattle.station.specs.declared.state.Opened.{Opened}
use Rattle.station.specs.declared.state.Station.{Station}
use Rattle.station.specs.Events.{Event, Reserve, GiveUp, Seal, Open}
use Rattle.station.specs.Faults.{number_of}
use Rattle.station.specs.Numbers.{held}
use Rattle.station.specs.Steps.{Step}

-- no number stands at two positions
abbrev pub Absent : ℕ → List ℕ → Type 0
Absent x [] = Unit {0}
Absent x (y ∷ ys) = (x ≢ y) × Absent x ys

abbrev pub Distinct : List ℕ → Type 0
Distinct [] = Unit {0}
Distinct (x ∷ xs) = Absent x xs × Distinct xs

-- the number of an accepted seal's frame, read off the bytes that it wrote
abbrev pub seal_number : Event → List ℕ
seal_number (Reserve r) = []
seal_number (GiveUp k r) = []
seal_number (Seal k mode clear message was out (Ok n)) = frame_number (take n out) ∷ []
seal_number (Seal k mode clear message was out (Err e)) = []
seal_number (Open f was out r) = []

-- the number of an accepted open's frame
abbrev pub open_number : Event → List ℕ
open_number (Reserve r) = []
open_number (GiveUp k r) = []
open_number (Seal k mode clear message was out r) = []
open_number (Open f was out (Ok a)) = frame_number f ∷ []
open_number (Open f was out (Err e)) = []

abbrev pub seal_numbers : List Event → List ℕ
seal_numbers [] = []
seal_numbers (e ∷ es) = seal_number e ++ seal_numbers es

abbrev pub open_numbers : List Event → List ℕ
open_numbers [] = []
open_numbers (e ∷ es) = open_number e ++ open_numbers es

-- the accepted reserves, and the accepted seals
abbrev pub is_reserve : Event → ℕ
is_reserve (Reserve (Ok k)) = 1
is_reserve (Reserve (Err e)) = 0
is_reserve (GiveUp k r) = 0
is_reserve (Seal k mode clear message was out r) = 0
is_reserve (Open f was out r) = 0

abbrev pub is_seal : Event → ℕ
is_seal (Reserve r) = 0
is_seal (GiveUp k r) = 0
is_seal (Seal k mode clear message was out (Ok n)) = 1
is_seal (Seal k mode clear message was out (Err e)) = 0
is_seal (Open f was out r) = 0

abbrev pub reserves : List Event → ℕ
reserves [] = 0
reserves (e ∷ es) = is_reserve e + reserves es

abbrev pub seals : List Event → ℕ
seals [] = 0
seals (e ∷ es) = is_seal e + seals es

-- a refusal with 7 to 10
abbrev pub seven_to_ten : StationFault → Bool
seven_to_ten fault = nat_le 7 (number_of fault) && nat_le (number_of fault) 10

-- the number that is out after a call, where o was out before it
abbrev pub out_then : Option ℕ → Event → Option ℕ
out_then o (Reserve (Ok k)) = Some k.number
out_then o (Reserve (Err e)) = o
out_then o (GiveUp k (Ok u)) = None
out_then o (GiveUp k (Err e)) = o
out_then o (Seal k mode clear message was out (Ok n)) = None
out_then o (Seal k mode clear message was out (Err e)) = cond (seven_to_ten e) None o
out_then o (Open f was out r) = o

abbrev pub out_after : Option ℕ → List Event → Option ℕ
out_after o [] = o
out_after o (e ∷ es) = out_after (out_then o e) es

-- how many numbers a call writes off, where o was out before it
abbrev pub off_by : Option ℕ → Event → ℕ
off_by o (Reserve (Ok k)) = held o
off_by o (Reserve (Err e)) = 0
off_by o (GiveUp k (Ok u)) = 1
off_by o (GiveUp k (Err e)) = 0
off_by o (Seal k mode clear message was out (Ok n)) = 0
off_by o (Seal k mode clear message was out (Err e)) = cond (seven_to_ten e) 1 0
off_by o (Open f was out r) = 0

abbrev pub written_off_count : Option ℕ → List Event → ℕ
written_off_count o [] = 0
written_off_count o (e ∷ es) = off_by o e + written_off_count (out_then o e) es

-- the highest number after a list: that of its last accepted open, or else the floor
abbrev pub highest_then : ℕ → Event → ℕ
highest_then h (Reserve r) = h
highest_then h (GiveUp k r) = h
highest_then h (Seal k mode clear message was out r) = h
highest_then h (Open f was out (Ok a)) = frame_number f
highest_then h (Open f was out (Err e)) = h

abbrev pub highest_after : ℕ → List Event → ℕ
highest_after h [] = h
highest_after h (e ∷ es) = highest_after (highest_then h e) es

-- an open has no fault other than 2
pub record NoOtherFault (peer highest : ℕ) (f was : List ℕ) : Type 0 where
  pub form : WellFormed f
  pub sender_is : sender_of f ≡ peer
  pub above : highest < frame_number f
  pub room : sealed_length f ≤ length was

abbrev pub Accepted : Result Opened StationFault → Type 0
Accepted (Ok a) = Unit {0}
Accepted (Err e) = ⊥

-- it is accepted exactly when some message seals to its frame, and answers 2 exactly when none does
pub record Decided (w : Maps) (f : List ℕ) (r : Result Opened StationFault) : Type 0 where
  pub some_accepted : (message : List ℕ) → SealsTo w message f → Accepted r
  pub accepted_some : Accepted r → (message : List ℕ) × SealsTo w message f
  pub none_refused : ((message : List ℕ) → SealsTo w message f → ⊥) → r ≡ Err (Frame (Sealing NotSealed))
  pub refused_none : r ≡ Err (Frame (Sealing NotSealed)) → (message : List ℕ) → SealsTo w message f → ⊥

-- what an accepted open is known by
pub record Delivered (w : Maps) (f out : List ℕ) (a : Opened) : Type 0 where
  -- it writes out the message that seals to its frame
  pub writes : SealsTo w (take a.length out) f
  -- no other message seals to it
  pub only : (message : List ℕ) → SealsTo w message f → message ≡ take a.length out
  -- its frame differs inside just one block from no frame that some message seals to
  pub apart : (other message : List ℕ) → Neighbours f other → SealsTo w message other → ⊥

module _ {C M : Type 0} where
  -- the calls of the list, one after the other, lead from s to t
  abbrev pub Run : (Pair C M → Maps) → Station C M → List Event → Station C M → Type 0
  Run maps s [] t = t ≡ s
  Run maps s (e ∷ es) t = (m : Station C M) × (Step maps s e m × Run maps m es t)

  -- what a list keeps that led from a new station, made with this peer and floor, to t
  pub record Kept (w : Maps) (peer floor : ℕ) (es : List Event) (t : Station C M) : Type 0 where
    -- no two accepted seals bear one number, and no two accepted opens
    pub seals_once : Distinct (seal_numbers es)
    pub opens_once : Distinct (open_numbers es)
    -- the station's counts are the list's
    pub reserved_is : t.reserved ≡ reserves es
    pub sealed_is : t.sealed ≡ seals es
    pub off_is : t.written_off ≡ written_off_count None es
    pub out_is : t.out ≡ out_after None es
    pub sum_is : reserves es ≡ seals es + written_off_count None es + held (out_after None es)
    -- every accepted open delivers
    pub delivers : (before after : List Event) (f was out : List ℕ) (a : Opened) → es ≡ before ++ Open f was out (Ok a) ∷ after → Delivered w f out a
    -- every open with no fault other than 2 is decided by whether some message seals to its frame
    pub decides : (before after : List Event) (f was out : List ℕ) (r : Result Opened StationFault) → es ≡ before ++ Open f was out r ∷ after
        → NoOtherFault peer (highest_after floor before) f was → Decided w f r

  -- every list of calls on a station that was made keeps this
  abbrev pub Lasts : (Pair C M → Maps) → Pair C M → (peer floor : ℕ) → Result (Station C M) StationFault → Type 0
  Lasts maps pair peer floor (Ok s) = (es : List Event) (t : Station C M) → Run maps s es t → Kept (maps pair) peer floor es t
  Lasts maps pair peer floor (Err fault) = Unit {0}
