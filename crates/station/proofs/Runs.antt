-- What every run of calls does to the numbers and the counts.
use Rattle.std.proofs.Common.{◌≡◌, ℕ, ◌+◌, ◌^◌, ◌<◌, ◌≤◌, List, [], ◌∷◌, ◌++◌, length, take, drop, Some, None, Ok, Err, Option, sym, refl, ap, ◌∙◌, subst, arith}
use Rattle.std.proofs.lemmas.List.{take_at}
use Rattle.mode.specs.declared.pair.Pair.{Pair}
use Rattle.mode.specs.Sealing.{Maps}
use Rattle.frame.specs.declared.fault.FrameFault.TheVariants.{UnknownMode, ClearTooLong, MessageTooLong, OutputShort, FrameShort, BadField, FrameLength, Sealing}
use Rattle.frame.specs.Fields.{frame_number}
use Rattle.frame.specs.Form.{frame_of}
use Rattle.frame.specs.Gives.{Framed}
use Rattle.frame.specs.FormLaws.{frame_length, frame_number_lem}
use Rattle.station.specs.declared.fault.StationFault.TheVariants.{SameId, BadNumber, Exhausted, NotOut, UnknownSender, NotAbove, Frame}
use Rattle.station.specs.declared.state.Opened.{Opened}
use Rattle.station.specs.declared.state.Station.{Station}
use Rattle.station.specs.declared.state.Ticket.{Ticket}
use Rattle.station.specs.Numbers.{reach}
use Rattle.station.specs.Events.{Event, Reserve, GiveUp, Seal, Open}
use Rattle.station.specs.Steps.{Step, Reserves, WritesOff, Seals, Opens}
use Rattle.station.specs.Laws.{Absent, Distinct, seal_number, open_number, seal_numbers, open_numbers, is_reserve, is_seal, reserves, seals, out_then, out_after, off_by, written_off_count, highest_then, Run}

-- the list rises, from a on
abbrev pub Rising : ℕ → List ℕ → Type 0
Rising a [] = Unit {0}
Rising a (x ∷ xs) = (a ≤ x) × Rising (x + 1) xs

-- the list rises, from a on, and ends below b
abbrev Lifts : ℕ → List ℕ → ℕ → Type 0
Lifts a [] b = a ≤ b
Lifts a (x ∷ xs) b = (a ≤ x) × Lifts (x + 1) xs b

lower : (a b : ℕ) (ys : List ℕ) → a ≤ b → Rising b ys → Rising a ys
lower a b [] h r = tt
lower a b (y ∷ ys) h r = let k = r.0 in (omega arith, r.1)

join : (a : ℕ) (xs : List ℕ) (b : ℕ) (ys : List ℕ) → Lifts a xs b → Rising b ys → Rising a (xs ++ ys)
join a [] b ys h r = lower a b ys h r
join a (x ∷ xs) b ys h r = (h.0, join (x + 1) xs b ys h.1 r)

absent : (x a : ℕ) (ys : List ℕ) → x < a → Rising a ys → Absent x ys
absent x a [] h r = tt
absent x a (y ∷ ys) h r = let k = r.0 in ((λ e. omega arith), absent x (y + 1) ys (omega arith) r.1)

pub distinct : (a : ℕ) (xs : List ℕ) → Rising a xs → Distinct xs
distinct a [] r = tt
distinct a (x ∷ xs) r = (absent x (x + 1) xs (omega arith) r.1, distinct (x + 1) xs r.1)

-- no number below this one will be sealed any more
abbrev floor_of : Option ℕ → ℕ → ℕ
floor_of None next = next
floor_of (Some n) next = n

floor_under : (o : Option ℕ) (next : ℕ) → reach o ≤ next → floor_of o next ≤ next
floor_under None next h = omega arith
floor_under (Some n) next h = omega arith

-- the number that an accepted seal's bytes bear
bears : (w : Maps) (sender number m : ℕ) (clear message was out : List ℕ) (n : ℕ) → number < 2 ^ 48 → Framed w sender number m clear message was out n → frame_number (take n out) ≡ number
bears w sender number m clear message was out n small f =
    let l : length (frame_of w f.mode sender number clear message) ≡ n = frame_length w f.mode sender number clear message ∙ sym f.length_is in
    let front : take n out ≡ frame_of w f.mode sender number clear message =
    ap (take n) f.out_is ∙ take_at (frame_of w f.mode sender number clear message) (drop n was) n l in
    ap frame_number front ∙ frame_number_lem w f.mode sender number clear message small

module _ {C M : Type 0} where
  abbrev floor : Station C M → ℕ
  floor s = floor_of s.out s.next

  -- what one call does
  pub record Moves (s : Station C M) (e : Event) (t : Station C M) : Type 0 where
    pub pair_is : t.pair ≡ s.pair
    pub peer_is : t.peer.id ≡ s.peer.id
    pub highest_is : t.peer.highest ≡ highest_then s.peer.highest e
    reserved_is : t.reserved ≡ s.reserved + is_reserve e
    sealed_is : t.sealed ≡ s.sealed + is_seal e
    off_is : t.written_off ≡ s.written_off + off_by s.out e
    out_is : t.out ≡ out_then s.out e
    sealed_rise : Lifts (floor s) (seal_number e) (floor t)
    opened_rise : Lifts (s.peer.highest + 1) (open_number e) (t.peer.highest + 1)

  -- a call that leaves all as it was, and counts for nothing
  stood : (s t : Station C M) (e : Event) → t ≡ s → highest_then s.peer.highest e ≡ s.peer.highest → is_reserve e ≡ 0 → is_seal e ≡ 0 → off_by s.out e ≡ 0
      → out_then s.out e ≡ s.out → seal_number e ≡ [] → open_number e ≡ [] → Moves s e t
  stood s t e same h r z o u sn on = record {
    pair_is = ap (λ (x : Station C M). x.pair) same;
    peer_is = ap (λ (x : Station C M). x.peer.id) same;
    highest_is = ap (λ (x : Station C M). x.peer.highest) same ∙ sym h;
    reserved_is = omega (arith, ap (λ (x : Station C M). x.reserved) same);
    sealed_is = omega (arith, ap (λ (x : Station C M). x.sealed) same);
    off_is = omega (arith, ap (λ (x : Station C M). x.written_off) same);
    out_is = ap (λ (x : Station C M). x.out) same ∙ sym u;
    sealed_rise = subst (λ l. Lifts (floor s) l (floor t)) (sym sn) (omega (arith, ap floor same));
    opened_rise = subst (λ l. Lifts (s.peer.highest + 1) l (t.peer.highest + 1)) (sym on) (omega (arith, ap (λ (x : Station C M). x.peer.highest) same));
  }

  reserved : (s t : Station C M) (k : Ticket) → Reserves s k t → Moves s (Reserve (Ok k)) t
  reserved s t k h = record {
    pair_is = h.stays.pair_is;
    peer_is = h.stays.peer_is;
    highest_is = h.highest_is;
    reserved_is = h.reserved_is;
    sealed_is = omega arith;
    off_is = h.off_is;
    out_is = h.out_is ∙ ap Some (sym h.number_is);
    sealed_rise = omega (arith, floor_under s.out s.next s.under, ap (λ o. floor_of o t.next) h.out_is);
    opened_rise = omega arith;
  }

  wrote_off : (s t : Station C M) (k : Ticket) (e : Event) → WritesOff s k t → highest_then s.peer.highest e ≡ s.peer.highest → is_reserve e ≡ 0 → is_seal e ≡ 0
      → off_by s.out e ≡ 1 → out_then s.out e ≡ None → seal_number e ≡ [] → open_number e ≡ [] → Moves s e t
  wrote_off s t k e h g r z o u sn on = record {
    pair_is = h.stays.pair_is;
    peer_is = h.stays.peer_is;
    highest_is = h.highest_is ∙ sym g;
    reserved_is = omega arith;
    sealed_is = omega arith;
    off_is = omega arith;
    out_is = h.out_is ∙ sym u;
    sealed_rise = subst (λ l. Lifts (floor s) l (floor t)) (sym sn) (omega (arith, floor_under s.out s.next s.under, ap (λ o. floor_of o t.next) h.out_is));
    opened_rise = subst (λ l. Lifts (s.peer.highest + 1) l (t.peer.highest + 1)) (sym on) (omega arith);
  }

  sealed : (w : Maps) (s t : Station C M) (k : Ticket) (mode : ℕ) (clear message was out : List ℕ) (n : ℕ) → Seals w s k mode clear message was out n t
      → Moves s (Seal k mode clear message was out (Ok n)) t
  sealed w s t k mode clear message was out n h =
      let far = ap reach h.held_was.1 in
      let small : k.number < 2 ^ 48 = omega (arith, s.under, s.top) in
      let b = bears w s.own k.number mode clear message was out n small h.framed in
      record {
        pair_is = h.stays.pair_is;
        peer_is = h.stays.peer_is;
        highest_is = h.highest_is;
        reserved_is = omega arith;
        sealed_is = h.sealed_is;
        off_is = omega arith;
        out_is = h.out_is;
        sealed_rise =
            let low = ap (λ o. floor_of o s.next) h.held_was.1 in
            let high = ap (λ o. floor_of o t.next) h.out_is in
            (omega (arith, b), omega (arith, b, s.under));
        opened_rise = omega arith;
      }

  opened : (w : Maps) (s t : Station C M) (f was out : List ℕ) (a : Opened) → Opens w s f was out a t → Moves s (Open f was out (Ok a)) t
  opened w s t f was out a h = record {
    pair_is = h.stays.pair_is;
    peer_is = h.stays.peer_is;
    highest_is = h.highest_is;
    reserved_is = omega arith;
    sealed_is = omega arith;
    off_is = omega arith;
    out_is = h.out_is;
    sealed_rise = omega (arith, ap (λ o. floor_of o t.next) h.out_is, ap (floor_of s.out) h.next_is);
    opened_rise = (omega arith, omega arith);
  }

  module _ (maps : Pair C M → Maps) where
    pub moved : (s : Station C M) (e : Event) (t : Station C M) → Step maps s e t → Moves s e t
    moved s (Reserve (Ok k)) t h = reserved s t k h
    moved s (Reserve (Err f)) t h = stood s t _ h.2 refl refl refl refl refl refl refl
    moved s (GiveUp k (Ok u)) t h = wrote_off s t k _ h refl refl refl refl refl refl refl
    moved s (GiveUp k (Err f)) t h = stood s t _ h.2 refl refl refl refl refl refl refl
    moved s (Seal k mode clear message was out (Ok n)) t h = sealed (maps s.pair) s t k mode clear message was out n h
    moved s (Seal k mode clear message was out (Err SameId)) t h = absurd h
    moved s (Seal k mode clear message was out (Err BadNumber)) t h = absurd h
    moved s (Seal k mode clear message was out (Err Exhausted)) t h = absurd h
    moved s (Seal k mode clear message was out (Err NotOut)) t h = stood s t _ h.2 refl refl refl refl refl refl refl
    moved s (Seal k mode clear message was out (Err UnknownSender)) t h = absurd h
    moved s (Seal k mode clear message was out (Err NotAbove)) t h = absurd h
    moved s (Seal k mode clear message was out (Err (Frame UnknownMode))) t h = wrote_off s t k _ h.1 refl refl refl refl refl refl refl
    moved s (Seal k mode clear message was out (Err (Frame ClearTooLong))) t h = wrote_off s t k _ h.1 refl refl refl refl refl refl refl
    moved s (Seal k mode clear message was out (Err (Frame MessageTooLong))) t h = wrote_off s t k _ h.1 refl refl refl refl refl refl refl
    moved s (Seal k mode clear message was out (Err (Frame OutputShort))) t h = wrote_off s t k _ h.1 refl refl refl refl refl refl refl
    moved s (Seal k mode clear message was out (Err (Frame FrameShort))) t h = absurd h.0
    moved s (Seal k mode clear message was out (Err (Frame (BadField x)))) t h = absurd h.0
    moved s (Seal k mode clear message was out (Err (Frame FrameLength))) t h = absurd h.0
    moved s (Seal k mode clear message was out (Err (Frame (Sealing x)))) t h = absurd h.0
    moved s (Open f was out (Ok a)) t h = opened (maps s.pair) s t f was out a h
    moved s (Open f was out (Err e)) t h = stood s t _ h.1 refl refl refl refl refl refl refl

    -- what a run does, from any station
    pub record Ran (s : Station C M) (es : List Event) (t : Station C M) : Type 0 where
      pub reserved_is : t.reserved ≡ s.reserved + reserves es
      pub sealed_is : t.sealed ≡ s.sealed + seals es
      pub off_is : t.written_off ≡ s.written_off + written_off_count s.out es
      pub out_is : t.out ≡ out_after s.out es
      pub sealed_rise : Rising (floor s) (seal_numbers es)
      pub opened_rise : Rising (s.peer.highest + 1) (open_numbers es)

    pub ran : (s : Station C M) (es : List Event) (t : Station C M) → Run maps s es t → Ran s es t
    ran s [] t h = record {
      reserved_is = omega (arith, ap (λ (x : Station C M). x.reserved) h);
      sealed_is = omega (arith, ap (λ (x : Station C M). x.sealed) h);
      off_is = omega (arith, ap (λ (x : Station C M). x.written_off) h);
      out_is = ap (λ (x : Station C M). x.out) h;
      sealed_rise = tt;
      opened_rise = tt;
    }
    ran s (e ∷ es) t h =
        let one = moved s e h.0 h.1.0 in
        let rest = ran h.0 es t h.1.1 in
        record {
          reserved_is = omega (arith, one.reserved_is, rest.reserved_is);
          sealed_is = omega (arith, one.sealed_is, rest.sealed_is);
          off_is = omega (arith, one.off_is, rest.off_is, ap (λ o. written_off_count o es) one.out_is);
          out_is = rest.out_is ∙ ap (λ o. out_after o es) one.out_is;
          sealed_rise = join _ (seal_number e) _ _ one.sealed_rise rest.sealed_rise;
          opened_rise = join _ (open_number e) _ _ one.opened_rise rest.opened_rise;
        }
