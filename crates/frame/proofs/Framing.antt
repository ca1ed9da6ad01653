-- What sealing into a frame leaves in the output.
use Rattle.std.proofs.Common.{◌≡◌, ℕ, ◌+◌, ◌-◌, ◌<◌, ◌≤◌, List, ◌++◌, length, take, drop, Ok, Err, Result, sym, ap, ◌∙◌, subst, ap₂, append_assoc, arith, length-append, length-drop}
use borrow.Rule.Slice.PartMut.{put_mid}
use lib.Seq.{drop-append-add}
use Rattle.std.proofs.lemmas.List.{take_at, drop_at, take-take, drop-drop, take-append-drop}
use Rattle.block.specs.Bytes.{Bytes, bytes_of, block_at, stored_at}
use Rattle.block.specs.BytesLaws.{stored_whole}
use Rattle.mode.specs.declared.value.Mode.{Mode}
use Rattle.mode.specs.Sealing.{Maps, Lawful, sealed_bytes, tag_of}
use Rattle.mode.specs.SealingLaws.{length_sealed}
use Rattle.mode.specs.Gives.{Behind}
use Rattle.frame.specs.Fields.{sender_of, frame_number}
use Rattle.frame.specs.Form.{head_of, header_from, frame_of, clear_part, SealsTo}
use Rattle.frame.specs.FormLaws.{length_head, nonce_first, frame_length, frame_sender, frame_number_low, frame_clear, frame_seals, only_one, never_neighbours}
use Rattle.frame.specs.declared.fault.FrameFault.{FrameFault}
use Rattle.frame.specs.Gives.{Framed, FrameSeals, SealedFrame, SealsFrame}

module _ (w : Maps) (mode : Mode) (sender number : ℕ) (clear message was : List ℕ) (first second buf out : List ℕ) (nonce tag : ℕ)
    (room : 32 + length clear + length message + 16 ≤ length was)
    (f : first ≡ head_of mode (length clear) (length message) sender number) (s : second ≡ clear) where
  abbrev sealed_start_after : ℕ
  sealed_start_after = 32 + length clear

  abbrev tag_at : ℕ
  tag_at = 32 + length clear + length message

  header : List ℕ
  header = header_from mode sender number clear message

  -- the output after both copies
  abbrev copied : List ℕ
  copied = put_mid 32 (32 + length clear - 32) (first ++ drop 32 was) second

  length_header : length header ≡ 32 + length clear
  unfolding header
  length_header =
      length-append (head_of mode (length clear) (length message) sender number) clear
      ∙ ap (λ (n : ℕ). n + length clear) (length_head mode (length clear) (length message) sender number)

  copied_is : copied ≡ header ++ drop sealed_start_after was
  unfolding header
  copied_is =
      let head : List ℕ = head_of mode (length clear) (length message) sender number in
      let l : length first ≡ 32 = ap length f ∙ length_head mode (length clear) (length message) sender number in
      let k : 32 + length clear - 32 ≡ length clear = omega arith in
      let front : take 32 (first ++ drop 32 was) ≡ first = take_at first (drop 32 was) 32 l in
      let rest : drop 32 (first ++ drop 32 was) ≡ drop 32 was = drop_at first (drop 32 was) 32 l in
      let rest' : drop (32 + length clear - 32) (drop 32 (first ++ drop 32 was)) ≡ drop sealed_start_after was =
      ap (drop (32 + length clear - 32)) rest ∙ drop-drop (32 + length clear - 32) 32 was ∙ ap (λ (n : ℕ). drop n was) (omega arith) in
      ap₂ (λ (u v : List ℕ). u ++ v) (front ∙ f) (ap₂ (λ (u v : List ℕ). u ++ v) s rest')
      ∙ sym (append_assoc head clear (drop sealed_start_after was))

  rest_is : drop tag_at copied ≡ drop tag_at was
  rest_is =
      let e : tag_at ≡ length header + length message = let l = length_header in omega arith in
      ap₂ (λ (n : ℕ) (v : List ℕ). drop n v) e copied_is ∙ drop-append-add header (drop sealed_start_after was) (length message)
      ∙ drop-drop (length message) sealed_start_after was

  lent_is : take sealed_start_after (take (tag_at - 0) copied) ≡ header
  lent_is =
      take-take sealed_start_after (tag_at - 0) copied (omega arith) ∙ ap (take sealed_start_after) copied_is ∙ take_at header (drop sealed_start_after was) sealed_start_after length_header

  nonce_is : block_at 16 copied ≡ block_at 16 header
  nonce_is = ap (block_at 16) copied_is ∙ nonce_first header (drop sealed_start_after was) (let l = length_header in omega arith)

  pub framed : nonce ≡ block_at 16 copied → Behind w mode nonce sealed_start_after message (take (tag_at - 0) copied) buf tag
      → out ≡ stored_at tag_at tag (buf ++ drop (tag_at - 0) copied)
      → out ≡ frame_of w mode sender number clear message ++ drop (tag_at + 16) was
  unfolding frame_of header
  framed n b o =
      let sealed : List ℕ = sealed_bytes w mode (block_at 16 header) message in
      let n' : nonce ≡ block_at 16 header = n ∙ nonce_is in
      let s' : drop sealed_start_after buf ≡ sealed = b.seals.sealed_is ∙ ap (λ (x : ℕ). sealed_bytes w mode x message) n' in
      let buf-is : buf ≡ header ++ sealed =
      sym (take-append-drop sealed_start_after buf) ∙ ap₂ (λ (u v : List ℕ). u ++ v) (b.header_stays ∙ lent_is) s' in
      let ls : length sealed ≡ length message = length_sealed w mode (block_at 16 header) message in
      let lb : length buf ≡ tag_at = ap length buf-is ∙ length-append header sealed ∙ (let l = length_header in omega arith) in
      let z : tag_at - 0 ≡ tag_at = omega arith in
      let r : drop (tag_at - 0) copied ≡ drop tag_at was = ap (λ (m : ℕ). drop m copied) z ∙ rest_is in
      let whole : List ℕ = buf ++ drop tag_at was in
      let d = length-drop tag_at was in
      let lw : length whole ≡ length was = length-append buf (drop tag_at was) ∙ omega arith in
      let tag_is : tag ≡ tag_of w (block_at 16 header) header message =
      b.seals.tag_is ∙ ap₂ (λ (x : ℕ) (v : List ℕ). tag_of w x v message) n' lent_is in
      let end : drop (tag_at + 16) whole ≡ drop (tag_at + 16) was =
      ap (λ (m : ℕ). drop m whole) (ap (λ (m : ℕ). m + 16) (sym lb)) ∙ drop-append-add buf (drop tag_at was) 16
      ∙ drop-drop 16 tag_at was in
      o ∙ ap (λ (v : List ℕ). stored_at tag_at tag (buf ++ v)) r
      ∙ stored_whole tag_at tag whole (omega arith)
      ∙ ap₂ (λ (u v : List ℕ). u ++ (bytes_of 16 tag ++ v)) (take_at buf (drop tag_at was) tag_at lb ∙ buf-is) end
      ∙ ap (λ (x : ℕ). (header ++ sealed) ++ (bytes_of 16 x ++ drop (tag_at + 16) was)) tag_is
      ∙ sym (append_assoc (header ++ sealed) (bytes_of 16 (tag_of w (block_at 16 header) header message)) (drop (tag_at + 16) was))
      ∙ ap (λ (v : List ℕ). v ++ drop (tag_at + 16) was) (append_assoc header sealed (bytes_of 16 (tag_of w (block_at 16 header) header message)))

-- an accepted frame, read back
framed_seals : (w : Maps) → Lawful w → (sender number m n : ℕ) (clear message was out : List ℕ) → sender < 256 → Bytes clear → Bytes message
    → Framed w sender number m clear message was out n → SealedFrame w sender number clear message (take n out)
framed_seals w laws sender number m n clear message was out hs hc hm f =
    let frame : List ℕ = frame_of w f.mode sender number clear message in
    let is : take n out ≡ frame =
    ap (take n) f.out_is ∙ take_at frame (drop n was) n (frame_length w f.mode sender number clear message ∙ sym f.length_is) in
    let seals : SealsTo w message (take n out) =
    subst (SealsTo w message) (sym is) (frame_seals w laws f.mode sender number clear message hs hc hm f.clear_short f.message_short) in
    record {
      sender_is = ap sender_of is ∙ frame_sender w f.mode sender number clear message;
      number_is = ap frame_number is ∙ frame_number_low w f.mode sender number clear message;
      clear_is = ap clear_part is ∙ frame_clear w f.mode sender number clear message f.clear_short;
      seals = seals;
      alone = λ other t. only_one w laws (take n out) other message t seals;
      apart = λ g other b t. never_neighbours w laws (take n out) g message other b seals t;
    }

pub seals_frame : (w : Maps) → Lawful w → (sender number m : ℕ) (clear message was out : List ℕ) → sender < 256 → Bytes clear → Bytes message
    → (r : Result ℕ FrameFault) → FrameSeals w sender number m clear message was out r → SealsFrame w sender number clear message out r
seals_frame w laws sender number m clear message was out hs hc hm (Ok n) f = framed_seals w laws sender number m n clear message was out hs hc hm f
seals_frame w laws sender number m clear message was out hs hc hm (Err fault) f = tt
