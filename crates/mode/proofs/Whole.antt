-- Sealing and opening, put together from their steps.
use Rattle.std.proofs.Common.{◌≡◌, ℕ, ◌+◌, ◌^◌, ◌<◌, List, length, sym, refl, ap, ◌∙◌, subst, ap₂}
use lib.Bits.{bit_xor}
use Rattle.block.specs.Bytes.{Bytes, bytes_of, xor_bytes}
use Rattle.block.specs.Cut.{before, block_count, last_of, zero_filled, sum_of}
use Rattle.masking.specs.Steps.{times}
use Rattle.mode.specs.declared.value.Mode.{Mode}
use Rattle.mode.specs.declared.value.Mode.TheVariants.{Forward, Dual}
use Rattle.mode.specs.declared.pair.Body.{Body}
use Rattle.mode.specs.Values.{other_of}
use Rattle.mode.specs.Sealing.{Maps, Lawful, delta_one_of, header_tag_of, gamma, sealing, opening, masked, pad_of, body, sealed_bytes, opened_bytes, tag_from_header, message_tag_of, tag_of, Seals}
use Rattle.mode.specs.SealingLaws.{bytes_body, last_body, sealed_opened, seals_opened, tag_opened}
use Rattle.mode.specs.Body.{BodyDone}
use Rattle.mode.proofs.Loops.{times_again}

-- what is encrypted for a message tag
abbrev closed : Maps → ℕ → Body → ℕ → List ℕ → ℕ
closed w delta done sum sealed = w.forward (bit_xor (bit_xor (bit_xor (bit_xor sum (zero_filled (last_of sealed))) (w.step done.mask)) delta) done.pad)

closed_is : (w : Maps) (nonce len delta sum : ℕ) (done : Body) (sealed : List ℕ) → delta ≡ delta_one_of w → done.mask ≡ times w.step (block_count len) (gamma w nonce) → done.pad ≡ pad_of w nonce len
    → closed w delta done sum sealed ≡ tag_from_header w nonce len sum (last_of sealed)
unfolding tag_from_header
closed_is w nonce len delta sum done sealed d m p =
    let m' : w.step done.mask ≡ times w.step (block_count len + 1) (gamma w nonce) = times_again w.step (block_count len) (gamma w nonce) done.mask (w.step done.mask) m refl in
    ap₂ (λ (y z : ℕ). w.forward (bit_xor y z))
    (ap₂ (λ (y z : ℕ). bit_xor y z) (ap (λ (y : ℕ). bit_xor (bit_xor sum (zero_filled (last_of sealed))) y) m') d) p

-- sealing: the tags' sum, from what the body left
module _ (w : Maps) (mode : Mode) (nonce : ℕ) (header message out : List ℕ) (done : Body) (delta own tag : ℕ)
    (h : Bytes message) (t : BodyDone w mode nonce message out done) (d : delta ≡ delta_one_of w) (o : own ≡ closed w delta done done.read out) (e : tag ≡ header_tag_of w header) where
  message_tag : own ≡ message_tag_of w nonce message
  unfolding message_tag_of
  message_tag =
      let p : ℕ = pad_of w nonce (length message) in
      let piece : last_of out ≡ xor_bytes (last_of message) (bytes_of 16 p) = ap last_of t.out_is ∙ last_body (masked w (sealing w mode) (gamma w nonce)) p message in
      o ∙ closed_is w nonce (length message) delta done.read done out d t.mask_is t.pad_is
      ∙ ap₂ (λ (y : ℕ) (v : List ℕ). tag_from_header w nonce (length message) y v) t.read_is piece

  pub sealed : Seals w mode nonce header message out (bit_xor own tag)
  unfolding sealed_bytes tag_of
  sealed = record { bytes = h; sealed_is = t.out_is; tag_is = ap₂ (λ (y z : ℕ). bit_xor y z) message_tag e }

opening_is : (w : Maps) (mode : Mode) → sealing w (other_of mode) ≡ opening w mode
opening_is w Forward = refl
opening_is w Dual = refl

-- opening: what was written is the only message that seals to these bytes, and the tags' sum its tag
module _ (w : Maps) (laws : Lawful w) (mode : Mode) (nonce : ℕ) (fits : nonce < 2 ^ 128) (header sealed out : List ℕ) (done : Body) (delta own tag : ℕ)
    (h : Bytes sealed) (t : BodyDone w (other_of mode) nonce sealed out done) (d : delta ≡ delta_one_of w)
    (o : own ≡ closed w delta done done.written sealed) (e : tag ≡ header_tag_of w header) where
  out_is : out ≡ opened_bytes w mode nonce sealed
  unfolding opened_bytes
  out_is = t.out_is ∙ ap (λ (k : ℕ → ℕ). body (masked w k (gamma w nonce)) (pad_of w nonce (length sealed)) sealed) (opening_is w mode)

  bytes_out : Bytes out
  bytes_out = subst Bytes (sym t.out_is) (bytes_body (masked w (sealing w (other_of mode)) (gamma w nonce)) (pad_of w nonce (length sealed)) sealed h)

  sealed_again : sealed_bytes w mode nonce out ≡ sealed
  sealed_again = ap (sealed_bytes w mode nonce) out_is ∙ sealed_opened w laws nonce fits mode sealed h

  own_is : own ≡ message_tag_of w nonce out
  own_is =
      let from : List ℕ → ℕ = λ v. tag_from_header w nonce (length v) (sum_of (masked w (opening w mode) (gamma w nonce)) (before (length v)) v) (last_of v) in
      let sum : done.written ≡ sum_of (masked w (opening w mode) (gamma w nonce)) (before (length sealed)) sealed =
      t.written_is ∙ ap (λ (k : ℕ → ℕ). sum_of (masked w k (gamma w nonce)) (before (length sealed)) sealed) (opening_is w mode) in
      o ∙ closed_is w nonce (length sealed) delta done.written done sealed d t.mask_is t.pad_is
      ∙ ap (λ (y : ℕ). tag_from_header w nonce (length sealed) y (last_of sealed)) sum
      ∙ ap from (sym sealed_again)
      ∙ sym (tag_opened w laws nonce fits mode out bytes_out)

  tag_is : bit_xor own tag ≡ tag_of w nonce header out
  unfolding tag_of
  tag_is = ap₂ (λ (y z : ℕ). bit_xor y z) own_is e

  pub opened : Seals w mode nonce header out sealed (bit_xor own tag)
  opened = record { bytes = bytes_out; sealed_is = sym sealed_again; tag_is = tag_is }

  pub only : (message : List ℕ) (given : ℕ) → Seals w mode nonce header message sealed given → given ≡ bit_xor own tag
  only message given s = s.tag_is ∙ ap (tag_of w nonce header) (seals_opened w laws nonce fits mode header message sealed given s ∙ sym out_is) ∙ sym tag_is
