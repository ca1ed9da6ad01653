-- Speck's rounds, each with its way back, and all of them.
use Rattle.std.specs.Prelude.{◌≡◌, ℕ, suc, ◌+◌, ◌-◌, ◌%◌, ◌^◌, ◌<◌, List, [], ◌∷◌, bit_xor, slice_index}
use Rattle.std.proofs.Common.{subst, ◌∙◌, arith}
use Rattle.std.proofs.Math.Path.{ap, ap₂}
use Rattle.std.specs.Int.Bits.{xor_lt}
use Rattle.block.specs.Maps.{Undo, undo_same, undo_then}
use Rattle.block.specs.Xor.{xor-twice}
use Rattle.cipher.specs.Speck.{left_of, right_of, joined, rotated_right, rotated_left, new_left, new_right, round, old_left, old_right, round_back_of, encrypted, decrypted}

-- a block of two words
module _ (x y : ℕ) (hx : x < 2 ^ 64) (hy : y < 2 ^ 64) where
  pub left_joined : left_of (joined x y) ≡ x
  left_joined = omega arith

  pub right-joined : right_of (joined x y) ≡ y
  right-joined = omega arith

  pub joined_fits : joined x y < 2 ^ 128
  joined_fits = omega arith

  pub round-joined : (k : ℕ) → round k (joined x y) ≡ joined (new_left k x y) (new_right (new_left k x y) y)
  unfolding round
  round-joined k = ap₂ (λ (u v : ℕ). joined (new_left k u v) (new_right (new_left k u v) v)) left_joined right-joined

  pub back_joined : (k : ℕ) → round_back_of k (joined x y) ≡ joined (old_left k x (old_right x y)) (old_right x y)
  unfolding round_back_of
  back_joined k = ap₂ (λ (u v : ℕ). joined (old_left k u (old_right u v)) (old_right u v)) left_joined right-joined

-- a word rotated there and back
module _ (w : ℕ) (h : w < 2 ^ 64) where
  right_3_fits : rotated_right 3 w < 2 ^ 64
  right_3_fits = omega arith

  left_3_fits : rotated_left 3 w < 2 ^ 64
  left_3_fits = omega arith

  right_8_fits : rotated_right 8 w < 2 ^ 64
  right_8_fits = omega arith

  left_8_fits : rotated_left 8 w < 2 ^ 64
  left_8_fits = omega arith

  right_left_3 : rotated_right 3 (rotated_left 3 w) ≡ w
  right_left_3 = omega arith

  left_right_3 : rotated_left 3 (rotated_right 3 w) ≡ w
  left_right_3 = omega arith

  right_left_8 : rotated_right 8 (rotated_left 8 w) ≡ w
  right_left_8 = omega arith

  left_right_8 : rotated_left 8 (rotated_right 8 w) ≡ w
  left_right_8 = omega arith

-- a sum, and the difference that undoes it
sum_back : (a y : ℕ) → a < 2 ^ 64 → y < 2 ^ 64 → ((a + y) % 2 ^ 64 + (2 ^ 64 - y)) % 2 ^ 64 ≡ a
sum_back a y ha hy = omega arith

back_sum : (a y : ℕ) → a < 2 ^ 64 → y < 2 ^ 64 → ((a + (2 ^ 64 - y)) % 2 ^ 64 + y) % 2 ^ 64 ≡ a
back_sum a y ha hy = omega arith

-- the words of a round, there and back
module _ (k x y : ℕ) (hk : k < 2 ^ 64) (hx : x < 2 ^ 64) (hy : y < 2 ^ 64) where
  pub left_fits : new_left k x y < 2 ^ 64
  unfolding new_left
  left_fits = xor_lt 64 ((rotated_right 8 x + y) % 2 ^ 64) k (omega arith) hk

  pub right_fits : new_right x y < 2 ^ 64
  unfolding new_right
  right_fits = xor_lt 64 (rotated_left 3 y) x (left_3_fits y hy) hx

  pub old_right_fits : old_right x y < 2 ^ 64
  unfolding old_right
  old_right_fits = right_3_fits (bit_xor y x) (xor_lt 64 y x hy hx)

  pub old_left_fits : old_left k x y < 2 ^ 64
  unfolding old_left
  old_left_fits = left_8_fits ((bit_xor x k + (2 ^ 64 - y)) % 2 ^ 64) (omega arith)

  right_again : old_right x (new_right x y) ≡ y
  unfolding old_right new_right
  right_again = ap (rotated_right 3) (xor-twice (rotated_left 3 y) x) ∙ right_left_3 y hy

  right-before : new_right x (old_right x y) ≡ y
  unfolding old_right new_right
  right-before = ap (λ (w : ℕ). bit_xor w x) (left_right_3 (bit_xor y x) (xor_lt 64 y x hy hx)) ∙ xor-twice y x

  left_again : old_left k (new_left k x y) y ≡ x
  unfolding old_left new_left
  left_again =
      ap (λ (w : ℕ). rotated_left 8 ((w + (2 ^ 64 - y)) % 2 ^ 64)) (xor-twice ((rotated_right 8 x + y) % 2 ^ 64) k)
      ∙ ap (rotated_left 8) (sum_back (rotated_right 8 x) y (right_8_fits x hx) hy)
      ∙ left_right_8 x hx

  left_before : new_left k (old_left k x y) y ≡ x
  unfolding old_left new_left
  left_before =
      let f : bit_xor x k < 2 ^ 64 = xor_lt 64 x k hx hk in
      ap (λ (w : ℕ). bit_xor ((w + y) % 2 ^ 64) k) (right_left_8 ((bit_xor x k + (2 ^ 64 - y)) % 2 ^ 64) (omega arith))
      ∙ ap (λ (w : ℕ). bit_xor w k) (back_sum (bit_xor x k) y f hy)
      ∙ xor-twice x k

module _ (k x y : ℕ) (hk : k < 2 ^ 64) (hx : x < 2 ^ 64) (hy : y < 2 ^ 64) where
  there_then_back : round_back_of k (round k (joined x y)) ≡ joined x y
  there_then_back =
      let u : ℕ = new_left k x y in
      let hu : u < 2 ^ 64 = left_fits k x y hk hx hy in
      let hv : new_right u y < 2 ^ 64 = right_fits k u y hk hu hy in
      let r : old_right u (new_right u y) ≡ y = right_again k u y hk hu hy in
      ap (round_back_of k) (round-joined x y hx hy k) ∙ back_joined u (new_right u y) hu hv k
      ∙ ap (λ (w : ℕ). joined (old_left k u w) w) r
      ∙ ap (λ (w : ℕ). joined w y) (left_again k x y hk hx hy)

  back_then_there : round k (round_back_of k (joined x y)) ≡ joined x y
  back_then_there =
      let v : ℕ = old_right x y in
      let hv : v < 2 ^ 64 = old_right_fits k x y hk hx hy in
      let hu : old_left k x v < 2 ^ 64 = old_left_fits k x v hk hx hv in
      let l : new_left k (old_left k x v) v ≡ x = left_before k x v hk hx hv in
      ap (round k) (back_joined x y hx hy k) ∙ round-joined (old_left k x v) v hu hv k
      ∙ ap (λ (w : ℕ). joined w (new_right w v)) l
      ∙ ap (joined x) (right-before k x y hk hx hy)

  round_fits : round k (joined x y) < 2 ^ 128
  round_fits =
      let hu = left_fits k x y hk hx hy in
      let e = round-joined x y hx hy k in
      let f = joined_fits (new_left k x y) (new_right (new_left k x y) y) hu (right_fits k (new_left k x y) y hk hu hy) in
      omega arith

  back_fits : round_back_of k (joined x y) < 2 ^ 128
  back_fits =
      let hv = old_right_fits k x y hk hx hy in
      let e = back_joined x y hx hy k in
      let f = joined_fits (old_left k x (old_right x y)) (old_right x y) (old_left_fits k x (old_right x y) hk hx hv) hv in
      omega arith

pub joined_parts : (b : ℕ) → joined (left_of b) (right_of b) ≡ b
joined_parts b = omega arith

-- what holds of two words holds of each block
by_words : (P : ℕ → Type 0) → ((x y : ℕ) → x < 2 ^ 64 → y < 2 ^ 64 → P (joined x y)) → (b : ℕ) → b < 2 ^ 128 → P b
by_words P f b h = subst P (joined_parts b) (f (left_of b) (right_of b) (omega arith) (omega arith))

round_undo : (k : ℕ) → k < 2 ^ 64 → Undo (round k) (round_back_of k)
round_undo k hk =
    record {
      there_fits = by_words (λ b. round k b < 2 ^ 128) (λ x y. round_fits k x y hk);
      back_fits = by_words (λ b. round_back_of k b < 2 ^ 128) (λ x y. back_fits k x y hk);
      back_there = by_words (λ b. round_back_of k (round k b) ≡ b) (λ x y. there_then_back k x y hk);
      there_back = by_words (λ b. round k (round_back_of k b) ≡ b) (λ x y. back_then_there k x y hk);
    }

-- for every list of round keys
pub speck_undo : (ks : List ℕ) → ((i : ℕ) → slice_index ks i < 2 ^ 64) → Undo (encrypted ks) (decrypted ks)
unfolding encrypted decrypted
speck_undo [] fit = undo_same
speck_undo (k ∷ ks) fit =
    undo_then (round k) (round_back_of k) (encrypted ks) (decrypted ks) (round_undo k (fit 0)) (speck_undo ks (λ i. fit (suc i)))
