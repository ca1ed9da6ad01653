-- What follows from the definitions of the modes.
use Rattle.std.specs.Prelude.{◌≡◌, ℕ, zero, suc, ◌+◌, ◌*◌, ◌^◌, ◌<◌, ◌≤◌, Bool, true, false, ◌≢◌, List, [], ◌∷◌, ◌++◌, length, drop, ◌==◌, bit_xor}
use Rattle.std.proofs.Math.Path.{refl, sym, ap, ap₂, subst}
use Rattle.std.proofs.Common.{◌∙◌, length-drop, length-append}
use native.Mathlib.Omega.{arith}
use Rattle.std.specs.Int.Bits.{xor_lt}
use Rattle.std.proofs.lemmas.List.{drop_at, take-append-drop}
use Rattle.block.specs.Maps.{Undo}
use Rattle.block.specs.Bytes.{bytes_of}
use Rattle.block.specs.Bytes.{Bytes}
use Rattle.block.specs.BytesLaws.{length_bytes}
use Rattle.block.specs.BytesLaws.{bytes_drop}
use Rattle.mode.specs.declared.value.Mode.{Mode}
use Rattle.mode.specs.declared.value.Mode.TheVariants.{Forward, Dual}
use Rattle.block.specs.Bytes.{xor_bytes}
use Rattle.block.specs.Cut.{before, block_count, last_bits, last_of, filled, zero_filled, through, sum_of, OneBlock}
use Rattle.masking.specs.Steps.{times}
use Rattle.mode.specs.Sealing.{Apart, in_header, in_sealed, in_tag}
use Rattle.block.specs.Xor.{xor-twice, xor_cancel_right, xor_cancel_left}
use Rattle.block.specs.BytesLaws.{bytes_append, bytes_of_lem, length-xor, xor_bytes_twice, bytes_xor}
use Rattle.block.specs.CutLaws.{fill_fits, length-through, bytes_through, Fits, block-through, through_undo, sum_fits, sum_same, sum_tells}
use Rattle.mode.specs.Sealing.{Maps, Lawful, delta_zero_of, delta_one_of, kappa, header_block, closing, some_header_tag, header_tag_of, gamma, sealing, opening, masked, pad_of, body, sealed_bytes, opened_bytes, tag_from_header, message_tag_of, tag_of, Seals}

times_fits : (d : ℕ → ℕ) → ((x : ℕ) → x < 2 ^ 128 → d x < 2 ^ 128) → (n s : ℕ) → s < 2 ^ 128 → times d n s < 2 ^ 128
unfolding times
times_fits d h zero s l = l
times_fits d h (suc n) s l = h (times d n s) (times_fits d h n s l)

pub undo_same : (e u : ℕ → ℕ) → Undo e u → (x y : ℕ) → x < 2 ^ 128 → y < 2 ^ 128 → e x ≡ e y → x ≡ y
undo_same e u w x y hx hy q = sym (w.back_there x hx) ∙ ap u q ∙ w.back_there y hy

-- a string, body and body back

pub length-body : (f : ℕ → ℕ → ℕ) (pad : ℕ) (bs : List ℕ) → length (body f pad bs) ≡ length bs
unfolding body
length-body f pad bs =
    let d = length-drop (16 * before (length bs)) bs in
    let b = length_bytes 16 pad in
    let t = length-through f (before (length bs)) bs in
    let x = length-xor (last_of bs) (bytes_of 16 pad) (omega arith) in
    length-append (through f (before (length bs)) bs) (xor_bytes (last_of bs) (bytes_of 16 pad)) ∙ omega arith

pub bytes_body : (f : ℕ → ℕ → ℕ) (pad : ℕ) (bs : List ℕ) → Bytes bs → Bytes (body f pad bs)
unfolding body
bytes_body f pad bs h =
    bytes_append (through f (before (length bs)) bs) (xor_bytes (last_of bs) (bytes_of 16 pad)) (bytes_through f (before (length bs)) bs)
    (bytes_xor (last_of bs) (bytes_of 16 pad) (bytes_drop (16 * before (length bs)) bs h) (bytes_of_lem 16 pad))

pub last_body : (f : ℕ → ℕ → ℕ) (pad : ℕ) (bs : List ℕ) → last_of (body f pad bs) ≡ xor_bytes (last_of bs) (bytes_of 16 pad)
unfolding body
last_body f pad bs =
    ap (λ (m : ℕ). drop (16 * before m) (body f pad bs)) (length-body f pad bs)
    ∙ drop_at (through f (before (length bs)) bs) (xor_bytes (last_of bs) (bytes_of 16 pad)) (16 * before (length bs)) (length-through f (before (length bs)) bs)

pub body_undo : (f g : ℕ → ℕ → ℕ) → Fits f → ((i x : ℕ) → x < 2 ^ 128 → g i (f i x) ≡ x)
    → (pad : ℕ) (bs : List ℕ) → Bytes bs → body g pad (body f pad bs) ≡ bs
unfolding body
body_undo f g fits back pad bs h =
    let d = length-drop (16 * before (length bs)) bs in
    let b = length_bytes 16 pad in
    let n : ℕ = before (length bs) in
    ap₂ (λ (u v : List ℕ). u ++ v)
    (ap (λ (m : ℕ). through g (before m) (body f pad bs)) (length-body f pad bs)
    ∙ through_undo f g fits back (before (length bs)) (before (length bs)) bs (xor_bytes (last_of bs) (bytes_of 16 pad)) h (omega arith) (omega arith))
    (ap (λ (v : List ℕ). xor_bytes v (bytes_of 16 pad)) (last_body f pad bs) ∙ xor_bytes_twice (last_of bs) (bytes_of 16 pad) (omega arith))
    ∙ take-append-drop (16 * before (length bs)) bs

-- the sum of what was body
pub sum_body : (f : ℕ → ℕ → ℕ) → Fits f → (pad : ℕ) (bs : List ℕ) → Bytes bs
    → sum_of (λ i x. x) (before (length bs)) (body f pad bs) ≡ sum_of f (before (length bs)) bs
unfolding body
sum_body f fits pad bs h =
    sum_same (λ i x. x) f (before (length bs)) (body f pad bs) bs
    (λ i l. block-through f fits (before (length bs)) i bs (xor_bytes (last_of bs) (bytes_of 16 pad)) h l)

pub length_sealed : (w : Maps) (mode : Mode) (nonce : ℕ) (message : List ℕ) → length (sealed_bytes w mode nonce message) ≡ length message
unfolding sealed_bytes
length_sealed w mode nonce message = length-body (masked w (sealing w mode) (gamma w nonce)) (pad_of w nonce (length message)) message

module _ (w : Maps) (laws : Lawful w) where
  one_fits : 1 < 2 ^ 128
  one_fits = omega arith

  delta_fits : delta_one_of w < 2 ^ 128
  unfolding delta_one_of delta_zero_of
  delta_fits = laws.masking.there_fits (delta_zero_of w) (laws.cipher.there_fits 1 one_fits)

  kappa_fits : kappa w < 2 ^ 128
  unfolding kappa delta_zero_of
  kappa_fits = laws.cipher.there_fits (delta_zero_of w) (laws.cipher.there_fits 1 one_fits)

  gamma_fits : (nonce : ℕ) → nonce < 2 ^ 128 → gamma w nonce < 2 ^ 128
  unfolding gamma
  gamma_fits nonce h = laws.cipher.there_fits (bit_xor nonce (delta_one_of w)) (xor_lt 128 nonce (delta_one_of w) h delta_fits)

  undoes : (mode : Mode) → Undo (sealing w mode) (opening w mode)
  undoes Forward = laws.cipher
  undoes Dual =
      record { there_fits = laws.cipher.back_fits; back_fits = laws.cipher.there_fits; back_there = laws.cipher.there_back; there_back = laws.cipher.back_there }

  undone : (mode : Mode) → Undo (opening w mode) (sealing w mode)
  undone Forward = undoes Dual
  undone Dual = undoes Forward

  header_mask_fits : (i : ℕ) → times w.step i (kappa w) < 2 ^ 128
  header_mask_fits i = times_fits w.step laws.masking.there_fits i (kappa w) kappa_fits

  header_block_fits : Fits (header_block w)
  unfolding header_block
  header_block_fits i x h = laws.cipher.there_fits (bit_xor x (times w.step (suc i) (kappa w))) (xor_lt 128 x (times w.step (suc i) (kappa w)) h (header_mask_fits (suc i)))

  header_block_same : (i x y : ℕ) → x < 2 ^ 128 → y < 2 ^ 128 → header_block w i x ≡ header_block w i y → x ≡ y
  unfolding header_block
  header_block_same i x y hx hy e =
      xor_cancel_right x y (times w.step (suc i) (kappa w))
      (undo_same w.forward w.backward laws.cipher (bit_xor x (times w.step (suc i) (kappa w))) (bit_xor y (times w.step (suc i) (kappa w)))
      (xor_lt 128 x (times w.step (suc i) (kappa w)) hx (header_mask_fits (suc i))) (xor_lt 128 y (times w.step (suc i) (kappa w)) hy (header_mask_fits (suc i))) e)

  closing_fits : (n : ℕ) (full : Bool) → closing w n full < 2 ^ 128
  unfolding closing times
  closing_fits zero false = laws.masking.back_fits (kappa w) kappa_fits
  closing_fits zero true = laws.masking.back_fits (w.back (kappa w)) (laws.masking.back_fits (kappa w) kappa_fits)
  closing_fits (suc n) false = header_mask_fits (suc (suc n))
  closing_fits (suc n) true = omega arith

  -- what the cipher makes a header's tag of
  header_sum_fits : (v : List ℕ) → Bytes v → bit_xor (bit_xor (sum_of (header_block w) (before (length v)) v) (filled (last_of v))) (closing w (before (length v)) (last_bits (length v) == 128)) < 2 ^ 128
  header_sum_fits v h =
      xor_lt 128 (bit_xor (sum_of (header_block w) (before (length v)) v) (filled (last_of v))) (closing w (before (length v)) (last_bits (length v) == 128))
      (xor_lt 128 (sum_of (header_block w) (before (length v)) v) (filled (last_of v)) (sum_fits (header_block w) header_block_fits (before (length v)) v h)
      (fill_fits 0x80 (last_of v) (omega arith) (bytes_drop (16 * before (length v)) v h)))
      (closing_fits (before (length v)) (last_bits (length v) == 128))

  some_header_tells : (xs ys : List ℕ) → Bytes xs → Bytes ys → OneBlock xs ys → some_header_tag w xs ≢ some_header_tag w ys
  unfolding some_header_tag
  some_header_tells xs ys hx hy o e =
      let inner : List ℕ → ℕ = λ v. bit_xor (sum_of (header_block w) (before (length v)) v) (filled (last_of v)) in
      let close : ℕ → ℕ = λ l. closing w (before l) (last_bits l == 128) in
      let f : bit_xor (inner xs) (close (length xs)) ≡ bit_xor (inner ys) (close (length ys)) =
      undo_same w.forward w.backward laws.cipher (bit_xor (inner xs) (close (length xs))) (bit_xor (inner ys) (close (length ys))) (header_sum_fits xs hx) (header_sum_fits ys hy) e in
      sum_tells (header_block w) header_block_same 0x80 (omega arith) xs ys hx hy o
      (xor_cancel_right (inner xs) (inner ys) (close (length xs)) (f ∙ ap (λ (l : ℕ). bit_xor (inner ys) (close l)) (sym o.long)))

  header_tag_fits : (header : List ℕ) → Bytes header → header_tag_of w header < 2 ^ 128
  unfolding header_tag_of some_header_tag
  header_tag_fits [] h = omega arith
  header_tag_fits (b ∷ bs) h = laws.cipher.there_fits _ (header_sum_fits (b ∷ bs) h)

  pub header_tells : (xs ys : List ℕ) → Bytes xs → Bytes ys → OneBlock xs ys → header_tag_of w xs ≢ header_tag_of w ys
  unfolding header_tag_of
  header_tells [] [] hx hy o e = o.unequal refl
  header_tells [] (y ∷ ys) hx hy o e = let l = o.long in omega arith
  header_tells (x ∷ xs) [] hx hy o e = let l = o.long in omega arith
  header_tells (x ∷ xs) (y ∷ ys) hx hy o e = some_header_tells (x ∷ xs) (y ∷ ys) hx hy o e

  module _ (nonce : ℕ) (fits : nonce < 2 ^ 128) where
    mask_fits : (i : ℕ) → times w.step i (gamma w nonce) < 2 ^ 128
    mask_fits i = times_fits w.step laws.masking.there_fits i (gamma w nonce) (gamma_fits nonce fits)

    masked_fits : (e u : ℕ → ℕ) → Undo e u → Fits (masked w e (gamma w nonce))
    unfolding masked
    masked_fits e u k i x h =
        xor_lt 128 (e (bit_xor x (times w.step (suc i) (gamma w nonce)))) (times w.step (suc i) (gamma w nonce))
        (k.there_fits (bit_xor x (times w.step (suc i) (gamma w nonce))) (xor_lt 128 x (times w.step (suc i) (gamma w nonce)) h (mask_fits (suc i)))) (mask_fits (suc i))

    masked_undo : (e u : ℕ → ℕ) → Undo e u → (i x : ℕ) → x < 2 ^ 128 → masked w u (gamma w nonce) i (masked w e (gamma w nonce) i x) ≡ x
    unfolding masked
    masked_undo e u k i x h =
        ap (λ (y : ℕ). bit_xor (u y) (times w.step (suc i) (gamma w nonce))) (xor-twice (e (bit_xor x (times w.step (suc i) (gamma w nonce)))) (times w.step (suc i) (gamma w nonce)))
        ∙ ap (λ (y : ℕ). bit_xor y (times w.step (suc i) (gamma w nonce)))
        (k.back_there (bit_xor x (times w.step (suc i) (gamma w nonce))) (xor_lt 128 x (times w.step (suc i) (gamma w nonce)) h (mask_fits (suc i))))
        ∙ xor-twice x (times w.step (suc i) (gamma w nonce))

    -- (i) opening gives back the message
    pub opened_sealed : (mode : Mode) (message : List ℕ) → Bytes message → opened_bytes w mode nonce (sealed_bytes w mode nonce message) ≡ message
    unfolding opened_bytes sealed_bytes
    opened_sealed mode message h =
        ap (λ (l : ℕ). body (masked w (opening w mode) (gamma w nonce)) (pad_of w nonce l) (sealed_bytes w mode nonce message))
        (length-body (masked w (sealing w mode) (gamma w nonce)) (pad_of w nonce (length message)) message)
        ∙ body_undo (masked w (sealing w mode) (gamma w nonce)) (masked w (opening w mode) (gamma w nonce))
        (masked_fits (sealing w mode) (opening w mode) (undoes mode)) (masked_undo (sealing w mode) (opening w mode) (undoes mode)) (pad_of w nonce (length message)) message h

    pub sealed_opened : (mode : Mode) (sealed : List ℕ) → Bytes sealed → sealed_bytes w mode nonce (opened_bytes w mode nonce sealed) ≡ sealed
    unfolding opened_bytes sealed_bytes
    sealed_opened mode sealed h =
        ap (λ (l : ℕ). body (masked w (sealing w mode) (gamma w nonce)) (pad_of w nonce l) (opened_bytes w mode nonce sealed))
        (length-body (masked w (opening w mode) (gamma w nonce)) (pad_of w nonce (length sealed)) sealed)
        ∙ body_undo (masked w (opening w mode) (gamma w nonce)) (masked w (sealing w mode) (gamma w nonce))
        (masked_fits (opening w mode) (sealing w mode) (undone mode)) (masked_undo (opening w mode) (sealing w mode) (undone mode)) (pad_of w nonce (length sealed)) sealed h

    -- (ii) at most one message
    pub seals_opened : (mode : Mode) (header message sealed : List ℕ) (tag : ℕ) → Seals w mode nonce header message sealed tag → message ≡ opened_bytes w mode nonce sealed
    seals_opened mode header message sealed tag s =
        sym (ap (opened_bytes w mode nonce) s.sealed_is ∙ opened_sealed mode message s.bytes)

    -- the message tag, from the sealed bytes
    pub tag_opened : (mode : Mode) (message : List ℕ) → Bytes message
        → message_tag_of w nonce message
        ≡ tag_from_header w nonce (length (sealed_bytes w mode nonce message))
        (sum_of (masked w (opening w mode) (gamma w nonce)) (before (length (sealed_bytes w mode nonce message))) (sealed_bytes w mode nonce message))
        (last_of (sealed_bytes w mode nonce message))
    unfolding message_tag_of sealed_bytes
    tag_opened mode message h =
        let f : ℕ → ℕ → ℕ = masked w (sealing w mode) (gamma w nonce) in
        let g : ℕ → ℕ → ℕ = masked w (opening w mode) (gamma w nonce) in
        let pad : ℕ = pad_of w nonce (length message) in
        let sealed : List ℕ = body f pad message in
        let l : length sealed ≡ length message = length-body f pad message in
        let back : body g pad sealed ≡ message =
        body_undo f g (masked_fits (sealing w mode) (opening w mode) (undoes mode)) (masked_undo (sealing w mode) (opening w mode) (undoes mode)) pad message h in
        let sums : sum_of (λ i x. x) (before (length sealed)) message ≡ sum_of g (before (length sealed)) sealed =
        ap (sum_of (λ i x. x) (before (length sealed))) (sym back)
        ∙ sum_body g (masked_fits (opening w mode) (sealing w mode) (undone mode)) pad sealed (bytes_body f pad message h) in
        ap (λ (m : ℕ). tag_from_header w nonce m (sum_of (λ i x. x) (before m) message) (xor_bytes (last_of message) (bytes_of 16 pad))) (sym l)
        ∙ ap₂ (λ (s : ℕ) (v : List ℕ). tag_from_header w nonce (length sealed) s v) sums (sym (last_body f pad message))

    masked_same : (e u : ℕ → ℕ) → Undo e u → (i x y : ℕ) → x < 2 ^ 128 → y < 2 ^ 128 → masked w e (gamma w nonce) i x ≡ masked w e (gamma w nonce) i y → x ≡ y
    masked_same e u k i x y hx hy q = sym (masked_undo e u k i x hx) ∙ ap (masked w u (gamma w nonce) i) q ∙ masked_undo e u k i y hy

    pad_fits : (len : ℕ) → pad_of w nonce len < 2 ^ 128
    unfolding pad_of
    pad_fits len =
        let small : last_bits len ≤ 128 = omega arith in
        laws.cipher.there_fits (bit_xor (last_bits len) (times w.step (block_count len) (gamma w nonce)))
        (xor_lt 128 (last_bits len) (times w.step (block_count len) (gamma w nonce)) (omega arith) (mask_fits (block_count len)))

    -- what the cipher makes a message's tag of
    message_sum_fits : (len sum : ℕ) (piece : List ℕ) → sum < 2 ^ 128 → Bytes piece
        → bit_xor (bit_xor (bit_xor (bit_xor sum (zero_filled piece)) (times w.step (block_count len + 1) (gamma w nonce))) (delta_one_of w)) (pad_of w nonce len) < 2 ^ 128
    message_sum_fits len sum piece small h =
        let filling : zero_filled piece < 2 ^ 128 = fill_fits 0 piece (omega arith) h in
        xor_lt 128 (bit_xor (bit_xor (bit_xor sum (zero_filled piece)) (times w.step (block_count len + 1) (gamma w nonce))) (delta_one_of w)) (pad_of w nonce len)
        (xor_lt 128 (bit_xor (bit_xor sum (zero_filled piece)) (times w.step (block_count len + 1) (gamma w nonce))) (delta_one_of w)
        (xor_lt 128 (bit_xor sum (zero_filled piece)) (times w.step (block_count len + 1) (gamma w nonce)) (xor_lt 128 sum (zero_filled piece) small filling) (mask_fits (block_count len + 1))) delta_fits)
        (pad_fits len)

    -- a tag is a block
    pub tag_fits : (header message : List ℕ) → Bytes header → Bytes message → tag_of w nonce header message < 2 ^ 128
    unfolding tag_of message_tag_of tag_from_header
    tag_fits header message h k =
        let piece : List ℕ = xor_bytes (last_of message) (bytes_of 16 (pad_of w nonce (length message))) in
        xor_lt 128 (message_tag_of w nonce message) (header_tag_of w header)
        (laws.cipher.there_fits _
        (message_sum_fits (length message) (sum_of (λ i x. x) (before (length message)) message) piece (sum_fits (λ i x. x) (λ i x f. f) (before (length message)) message k)
        (bytes_xor (last_of message) (bytes_of 16 (pad_of w nonce (length message))) (bytes_drop (16 * before (length message)) message k) (bytes_of_lem 16 (pad_of w nonce (length message))))))
        (header_tag_fits header h)

    sealed_tells : (mode : Mode) (xs ys : List ℕ) → Bytes xs → Bytes ys → OneBlock xs ys
        → tag_from_header w nonce (length xs) (sum_of (masked w (opening w mode) (gamma w nonce)) (before (length xs)) xs) (last_of xs)
        ≢ tag_from_header w nonce (length ys) (sum_of (masked w (opening w mode) (gamma w nonce)) (before (length ys)) ys) (last_of ys)
    unfolding tag_from_header
    sealed_tells mode xs ys hx hy o e =
        let g : ℕ → ℕ → ℕ = masked w (opening w mode) (gamma w nonce) in
        let inner : List ℕ → ℕ = λ v. bit_xor (sum_of g (before (length v)) v) (zero_filled (last_of v)) in
        let mask : ℕ → ℕ = λ l. times w.step (block_count l + 1) (gamma w nonce) in
        let outer : List ℕ → ℕ → ℕ = λ v l. bit_xor (bit_xor (bit_xor (inner v) (mask l)) (delta_one_of w)) (pad_of w nonce l) in
        let outer-fits : (v : List ℕ) → Bytes v → outer v (length v) < 2 ^ 128 =
        λ v h. message_sum_fits (length v) (sum_of g (before (length v)) v) (last_of v)
        (sum_fits g (masked_fits (opening w mode) (sealing w mode) (undone mode)) (before (length v)) v h) (bytes_drop (16 * before (length v)) v h) in
        let f : outer xs (length xs) ≡ outer ys (length ys) =
        undo_same w.forward w.backward laws.cipher (outer xs (length xs)) (outer ys (length ys)) (outer-fits xs hx) (outer-fits ys hy) e in
        let f' : outer xs (length xs) ≡ outer ys (length xs) = f ∙ ap (outer ys) (sym o.long) in
        let m : ℕ = mask (length xs) in
        sum_tells g (masked_same (opening w mode) (sealing w mode) (undone mode)) 0 (omega arith) xs ys hx hy o
        (xor_cancel_right (inner xs) (inner ys) (mask (length xs))
        (xor_cancel_right (bit_xor (inner xs) (mask (length xs))) (bit_xor (inner ys) (mask (length xs))) (delta_one_of w)
        (xor_cancel_right (bit_xor (bit_xor (inner xs) (mask (length xs))) (delta_one_of w)) (bit_xor (bit_xor (inner ys) (mask (length xs))) (delta_one_of w)) (pad_of w nonce (length xs)) f')))

    pub at_most_one : (mode : Mode) (header : List ℕ) (tag : ℕ) (sealed message other : List ℕ)
        → Seals w mode nonce header message sealed tag → Seals w mode nonce header other sealed tag → message ≡ other
    at_most_one mode header tag sealed message other s t = seals_opened mode header message sealed tag s ∙ sym (seals_opened mode header other sealed tag t)

    pub bytes_sealed : (mode : Mode) (header message sealed : List ℕ) (tag : ℕ) → Seals w mode nonce header message sealed tag → Bytes sealed
    unfolding sealed_bytes
    bytes_sealed mode header message sealed tag s =
        subst Bytes (sym s.sealed_is) (bytes_body (masked w (sealing w mode) (gamma w nonce)) (pad_of w nonce (length message)) message s.bytes)

    at_most_one' : (mode : Mode) (header : List ℕ) (tag retag : ℕ) (sealed message other : List ℕ)
        → Seals w mode nonce header message sealed tag → Seals w mode nonce header other sealed retag → message ≡ other
    at_most_one' mode header tag retag sealed message other s t = seals_opened mode header message sealed tag s ∙ sym (seals_opened mode header other sealed retag t)

    -- (iii) the last piece is the same in both modes
    pub same_last : (message : List ℕ) → last_of (sealed_bytes w Forward nonce message) ≡ last_of (sealed_bytes w Dual nonce message)
    unfolding sealed_bytes
    same_last message =
        last_body (masked w w.forward (gamma w nonce)) (pad_of w nonce (length message)) message
        ∙ sym (last_body (masked w w.backward (gamma w nonce)) (pad_of w nonce (length message)) message)

    pub same_tag : (mode other : Mode) (header message sealed resealed : List ℕ) (tag retag : ℕ)
        → Seals w mode nonce header message sealed tag → Seals w other nonce header message resealed retag → tag ≡ retag
    same_tag mode other header message sealed resealed tag retag s t = s.tag_is ∙ sym t.tag_is

    -- (iv) no two that differ inside just one block
    pub never_both : (mode : Mode) (header other sealed resealed : List ℕ) (tag retag : ℕ) → Bytes header → Bytes other → Apart header sealed tag other resealed retag
        → (message remessage : List ℕ) → Seals w mode nonce header message sealed tag → Seals w mode nonce other remessage resealed retag → ⊥
    unfolding tag_of
    never_both mode header other sealed _ tag _ hx hy (in_header o) message remessage s t =
        let m : message ≡ remessage = seals_opened mode header message sealed tag s ∙ sym (seals_opened mode other remessage sealed tag t) in
        let e : bit_xor (message_tag_of w nonce message) (header_tag_of w header) ≡ bit_xor (message_tag_of w nonce message) (header_tag_of w other) =
        sym s.tag_is ∙ t.tag_is ∙ ap (λ (v : List ℕ). bit_xor (message_tag_of w nonce v) (header_tag_of w other)) (sym m) in
        header_tells header other hx hy o (xor_cancel_left (message_tag_of w nonce message) (header_tag_of w header) (header_tag_of w other) e)
    never_both mode header _ sealed resealed tag _ hx hy (in_sealed o) message remessage s t =
        let e : message_tag_of w nonce message ≡ message_tag_of w nonce remessage =
        xor_cancel_right (message_tag_of w nonce message) (message_tag_of w nonce remessage) (header_tag_of w header) (sym s.tag_is ∙ t.tag_is) in
        let from : List ℕ → ℕ = λ v. tag_from_header w nonce (length v) (sum_of (masked w (opening w mode) (gamma w nonce)) (before (length v)) v) (last_of v) in
        sealed_tells mode sealed resealed (bytes_sealed mode header message sealed tag s) (bytes_sealed mode header remessage resealed tag t) o
        (ap from s.sealed_is ∙ sym (tag_opened mode message s.bytes) ∙ e ∙ tag_opened mode remessage t.bytes ∙ sym (ap from t.sealed_is))
    never_both mode header _ sealed _ tag retag hx hy (in_tag u) message remessage s t =
        let m : message ≡ remessage = at_most_one' mode header tag retag sealed message remessage s t in
        u (s.tag_is ∙ ap (tag_of w nonce header) m ∙ sym t.tag_is)
