-- Opening over the parts of a frame is opening the frame.
use Rattle.std.proofs.Common.{◌≡◌, ℕ, ◌-◌, ◌≤◌, List, ◌++◌, length, take, drop, replicate, Ok, Err, Result, sym, refl, ap, ◌∙◌, ap₂, arith, length-drop, length-take}
use Rattle.std.proofs.lemmas.List.{take_at, drop_at, take_all, length-take-le}
use Rattle.block.specs.Bytes.{number_of, block_at}
use Rattle.mode.specs.declared.fault.ModeFault.TheVariants.{OutputLength, NotSealed}
use Rattle.mode.specs.Sealing.{Maps, Seals, sealed_bytes, tag_of}
use Rattle.mode.specs.SealingLaws.{length_sealed}
use Rattle.frame.specs.declared.fault.FrameFault.{FrameFault}
use Rattle.frame.specs.declared.fault.FrameFault.TheVariants.{UnknownMode, ClearTooLong, MessageTooLong, OutputShort, FrameShort, BadField, FrameLength, Sealing}
use Rattle.frame.specs.declared.pieces.FrameParts.{FrameParts}
use Rattle.frame.specs.Fields.{sealed_length, sealed_start, tag_start}
use Rattle.frame.specs.ListLaws.{number_in}
use Rattle.frame.specs.FormLaws.{modes_same}
use Rattle.frame.specs.Form.{nonce_of, tag_part, SealsTo}
use Rattle.frame.specs.Gives.{PartsOf, SealsToParts, PartsOpened, PartsOpen, FrameOpens}

-- opening into the output's start
pub parts_opened : (w : Maps) (p : FrameParts) (was opened : List ℕ) (nonce tag : ℕ) → length p.sealed.bytes.now ≤ length was
    → nonce ≡ block_at 16 p.header.now → tag ≡ block_at 0 p.tag.bytes.now
    → Seals w p.mode nonce p.header.now opened p.sealed.bytes.now tag
    → PartsOpened w p was (opened ++ drop (length p.sealed.bytes.now - 0) was) (length p.sealed.bytes.now)
parts_opened w p was opened nonce tag room n t s =
    let len : ℕ = length p.sealed.bytes.now in
    let l : length opened ≡ length p.sealed.bytes.now = sym (ap length s.sealed_is ∙ length_sealed w p.mode nonce opened) in
    let z : length p.sealed.bytes.now - 0 ≡ length p.sealed.bytes.now = omega arith in
    let front : take (length p.sealed.bytes.now) (opened ++ drop (length p.sealed.bytes.now - 0) was) ≡ opened =
    take_at opened (drop (length p.sealed.bytes.now - 0) was) (length p.sealed.bytes.now) l in
    record {
      length_is = refl;
      room = room;
      seals = record {
        bytes = rw front s.bytes;
        sealed_is = s.sealed_is ∙ ap₂ (λ (x : ℕ) (v : List ℕ). sealed_bytes w p.mode x v) n (sym front);
        tag_is = sym t ∙ s.tag_is ∙ ap₂ (λ (x : ℕ) (v : List ℕ). tag_of w x p.header.now v) n (sym front);
      };
      rest_stays =
          drop_at opened (drop (length p.sealed.bytes.now - 0) was) (length p.sealed.bytes.now) l ∙ ap (λ (m : ℕ). drop m was) z;
    }

module _ (w : Maps) (f : List ℕ) (p : FrameParts) (o : PartsOf f p) where
  nonce_is : block_at 16 p.header.now ≡ nonce_of f
  nonce_is = ap (block_at 16) o.header_is ∙ number_in 16 16 (sealed_start f) f (let s = o.form.fields.0.0.0.0.1 in omega arith)

  tag_is : block_at 0 p.tag.bytes.now ≡ number_of (tag_part f)
  tag_is = ap number_of (ap (take 16) o.tag_is ∙ take_all 16 (tag_part f) (let l = length-take 16 (drop (tag_start f) f) in omega arith))

  pub length_sealed_is : length p.sealed.bytes.now ≡ sealed_length f
  length_sealed_is =
      let s = o.form.fields.0.0.0.0.1 in
      let t = o.form.fields.0.0.0.1 in
      let l = o.form.whole in
      let d = length-drop (sealed_start f) f in
      ap length o.sealed_is ∙ length-take-le (sealed_length f) (drop (sealed_start f) f) (omega arith)

  pub to_frame : (message : List ℕ) → SealsToParts w p message → SealsTo w message f
  to_frame message s =
      let m = o.mode_is in
      let n = nonce_is in
      let t = tag_is in
      let h = o.header_is in
      let b = o.sealed_is in
      let x = s.sealed_is in
      let y = s.tag_is in
      record { form = o.form; seals = record { bytes = s.bytes; sealed_is = cc; tag_is = cc } }

  pub from_frame : (message : List ℕ) → SealsTo w message f → SealsToParts w p message
  from_frame message s =
      let m : s.form.mode ≡ o.form.mode = modes_same s.form.mode o.form.mode (sym s.form.mode_is ∙ o.form.mode_is) in
      let m' = o.mode_is in
      let n = nonce_is in
      let t = tag_is in
      let h = o.header_is in
      let b = o.sealed_is in
      let x = s.seals.sealed_is in
      let y = s.seals.tag_is in
      record { bytes = s.seals.bytes; sealed_is = cc; tag_is = cc }

  pub frame_opens : (was out : List ℕ) (r : Result ℕ FrameFault) → PartsOpen w p was out r → FrameOpens w f was out r
  frame_opens was out (Ok n) h =
      record { length_is = h.length_is ∙ length_sealed_is; room = h.room; seals = to_frame (take n out) h.seals; rest_stays = h.rest_stays }
  frame_opens was out (Err UnknownMode) h = absurd h
  frame_opens was out (Err ClearTooLong) h = absurd h
  frame_opens was out (Err MessageTooLong) h = absurd h
  frame_opens was out (Err OutputShort) h = let l = length_sealed_is in let s = h.0 in (o.form, omega arith, h.1)
  frame_opens was out (Err FrameShort) h = absurd h
  frame_opens was out (Err (BadField field)) h = absurd h
  frame_opens was out (Err FrameLength) h = absurd h
  frame_opens was out (Err (Sealing OutputLength)) h = absurd h
  frame_opens was out (Err (Sealing NotSealed)) h =
      let l = length_sealed_is in
      let s = h.0 in (
        o.form,
        omega arith,
        (λ message q. h.1 message (from_frame message q)),
        h.2 ∙ ap (λ (n : ℕ). replicate n 0 ++ drop n was) length_sealed_is,
      )
