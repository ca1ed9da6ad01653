-- What holds of the open at one position of a list, and the law over whole lists.
use Rattle.std.proofs.Common.{◌≡◌, ℕ, List, [], ◌∷◌, ◌++◌, take, None, Ok, Err, Result, sym, refl, ap, ◌∙◌, subst, inl, inr, arith}
use Rattle.mode.specs.declared.fault.ModeFault.TheVariants.{OutputLength, NotSealed}
use Rattle.mode.specs.declared.pair.Pair.{Pair}
use Rattle.mode.specs.declared.value.Mode.{Mode}
use Rattle.mode.specs.declared.value.Mode.TheVariants.{Forward, Dual}
use Rattle.mode.specs.Values.{mode_value}
use Rattle.mode.specs.Sealing.{Maps, Lawful}
use Rattle.frame.specs.declared.fault.FrameFault.TheVariants.{UnknownMode, ClearTooLong, MessageTooLong, OutputShort, FrameShort, BadField, FrameLength, Sealing}
use Rattle.frame.specs.declared.fault.HeadField.{HeadField}
use Rattle.frame.specs.declared.fault.HeadField.TheVariants.{AfterMode, ClearLength, SealedLength, ClearStart, SealedStart, TagStart, BeforeSender, AfterSender, BeforeNumber}
use Rattle.frame.specs.Fields.{mode_byte, Holds, AllHold}
use Rattle.frame.specs.Form.{SealsTo}
use Rattle.frame.specs.Gives.{Known}
use Rattle.frame.specs.FormLaws.{only_one, never_neighbours}
use Rattle.station.specs.declared.fault.StationFault.{StationFault}
use Rattle.station.specs.declared.fault.StationFault.TheVariants.{SameId, BadNumber, Exhausted, NotOut, UnknownSender, NotAbove, Frame}
use Rattle.station.specs.declared.state.Opened.{Opened}
use Rattle.station.specs.declared.state.Station.{Station}
use Rattle.station.specs.Numbers.{held}
use Rattle.station.specs.Events.{Event, Open}
use Rattle.station.specs.Steps.{Step, Fresh}
use Rattle.station.specs.Laws.{highest_then, highest_after, out_after, written_off_count, reserves, seals, NoOtherFault, Decided, Delivered, Run, Kept}
use Rattle.station.proofs.Runs.{moved, ran, distinct}

known : (mode : Mode) (m : ℕ) → m ≡ mode_value mode → Known m
known Forward m e = inl e
known Dual m e = inr e

holds : (field : HeadField) (f : List ℕ) → AllHold f → Holds field f
holds AfterMode f h = h.0.0.0.0.0.0.0.0
holds ClearLength f h = h.0.0.0.0.0.0.0.1
holds SealedLength f h = h.0.0.0.0.0.0.1
holds ClearStart f h = h.0.0.0.0.0.1
holds SealedStart f h = h.0.0.0.0.1
holds TagStart f h = h.0.0.0.1
holds BeforeSender f h = h.0.0.1
holds AfterSender f h = h.0.1
holds BeforeNumber f h = h.1

module _ {C M : Type 0} (maps : Pair C M → Maps) where
  -- a call in a run, with the stations around it
  record At (w : Maps) (peer highest : ℕ) (e : Event) : Type 0 where
    before : Station C M
    after : Station C M
    step : Step maps before e after
    maps_are : maps before.pair ≡ w
    peer_is : before.peer.id ≡ peer
    highest_is : before.peer.highest ≡ highest

  at : (w : Maps) (peer highest : ℕ) (s : Station C M) (first : List Event) (e : Event) (last : List Event) (t : Station C M)
      → maps s.pair ≡ w → s.peer.id ≡ peer → s.peer.highest ≡ highest → Run maps s (first ++ e ∷ last) t → At w peer (highest_after highest first) e
  at w peer highest s [] e last t m p h r = record { before = s; after = r.0; step = r.1.0; maps_are = m; peer_is = p; highest_is = h }
  at w peer highest s (x ∷ first) e last t m p h r =
      let one = moved maps s x r.0 r.1.0 in
      at w peer (highest_then highest x) r.0 first e last t (ap maps one.pair_is ∙ m) (one.peer_is ∙ p) (one.highest_is ∙ ap (λ (n : ℕ). highest_then n x) h) r.1.1

  -- an accepted open
  delivered : (w : Maps) → Lawful w → (peer highest : ℕ) (f was out : List ℕ) (a : Opened) → At w peer highest (Open f was out (Ok a)) → Delivered w f out a
  delivered w laws peer highest f was out a x =
      let s : SealsTo w (take a.length out) f = subst (λ (v : Maps). SealsTo v (take a.length out) f) x.maps_are x.step.opened.seals in
      record {
        writes = s;
        only = λ message q. only_one w laws f message (take a.length out) q s;
        apart = λ other message n q. never_neighbours w laws f other (take a.length out) message n s q;
      }

  -- an open with no fault other than 2
  decided : (w : Maps) (peer highest : ℕ) (f was out : List ℕ) (r : Result Opened StationFault) → At w peer highest (Open f was out r) → NoOtherFault peer highest f was → Decided w f r
  decided w peer highest f was out (Ok a) x clean =
      let s : SealsTo w (take a.length out) f = subst (λ (v : Maps). SealsTo v (take a.length out) f) x.maps_are x.step.opened.seals in
      record {
        some_accepted = λ message q. tt;
        accepted_some = λ u. (take a.length out, s);
        none_refused = λ none. absurd (none (take a.length out) s);
        refused_none = λ e. let z : ◌≡◌ {A = ℕ} 0 1 = cc in absurd (omega arith);
      }
  decided w peer highest f was out (Err SameId) x clean = absurd x.step.0
  decided w peer highest f was out (Err BadNumber) x clean = absurd x.step.0
  decided w peer highest f was out (Err Exhausted) x clean = absurd x.step.0
  decided w peer highest f was out (Err NotOut) x clean = absurd x.step.0
  decided w peer highest f was out (Err UnknownSender) x clean = absurd (x.step.0.1 (clean.sender_is ∙ sym x.peer_is))
  decided w peer highest f was out (Err NotAbove) x clean =
      let h = x.highest_is in let l = x.step.0.2 in let m = clean.above in absurd (omega arith)
  decided w peer highest f was out (Err (Frame UnknownMode)) x clean = absurd (x.step.0.0.1 (known clean.form.mode (mode_byte f) clean.form.mode_is))
  decided w peer highest f was out (Err (Frame ClearTooLong)) x clean = absurd x.step.0
  decided w peer highest f was out (Err (Frame MessageTooLong)) x clean = absurd x.step.0
  decided w peer highest f was out (Err (Frame OutputShort)) x clean =
      let l = x.step.0.1 in let m = clean.room in absurd (omega arith)
  decided w peer highest f was out (Err (Frame FrameShort)) x clean =
      let l = x.step.0.0 in let m = clean.form.long in absurd (omega arith)
  decided w peer highest f was out (Err (Frame (BadField field))) x clean = absurd (x.step.0.0.2.1 (holds field f clean.form.fields))
  decided w peer highest f was out (Err (Frame FrameLength)) x clean = absurd (x.step.0.0.3 clean.form.whole)
  decided w peer highest f was out (Err (Frame (Sealing OutputLength))) x clean = absurd x.step.0
  decided w peer highest f was out (Err (Frame (Sealing NotSealed))) x clean =
      let none : (message : List ℕ) → SealsTo w message f → ⊥ =
      λ message q. x.step.0.2 message (subst (λ (v : Maps). SealsTo v message f) (sym x.maps_are) q) in
      record {
        some_accepted = λ message q. none message q;
        accepted_some = λ u. absurd u;
        none_refused = λ n. refl;
        refused_none = λ e. none;
      }

  pub kept : (pair : Pair C M) (own peer start floor : ℕ) (s : Station C M) → Lawful (maps pair) → Fresh pair own peer start floor s
      → (es : List Event) (t : Station C M) → Run maps s es t → Kept (maps pair) peer floor es t
  kept pair own peer start floor s laws new es t h =
      let all = ran maps s es t h in
      let outs : t.out ≡ out_after None es = all.out_is ∙ ap (λ o. out_after o es) new.out_is in
      let off : t.written_off ≡ written_off_count None es = omega (arith, all.off_is, new.off_is, ap (λ o. written_off_count o es) new.out_is) in
      let res : t.reserved ≡ reserves es = omega (arith, all.reserved_is, new.reserved_is) in
      let sea : t.sealed ≡ seals es = omega (arith, all.sealed_is, new.sealed_is) in
      let place : (first last : List Event) (e : Event) → es ≡ first ++ e ∷ last → At (maps pair) peer (highest_after floor first) e =
      λ first last e q.
      at (maps pair) peer floor s first e last t (ap maps new.pair_is) new.peer_is new.highest_is (subst (λ (v : List Event). Run maps s v t) q h) in
      record {
        seals_once = distinct _ _ all.sealed_rise;
        opens_once = distinct _ _ all.opened_rise;
        reserved_is = res;
        sealed_is = sea;
        off_is = off;
        out_is = outs;
        sum_is = omega (arith, t.counts, ap held outs, res, sea, off);
        delivers = λ first last f was out a q. delivered (maps pair) laws peer (highest_after floor first) f was out a (place first last (Open f was out (Ok a)) q);
        decides = λ first last f was out r q clean. decided (maps pair) peer (highest_after floor first) f was out r (place first last (Open f was out r) q) clean;
      }
