-- Rows of four bytes, as lists and as numbers.
use Rattle.std.proofs.Common.{◌≡◌, ℕ, zero, suc, ◌+◌, ◌*◌, ◌/◌, ◌%◌, ◌^◌, ◌<◌, List, [], ◌∷◌, get_or, refl, ap, ap₂, ◌∙◌, arith, w32}
use Rattle.std.specs.Int.{from_be_bytes, to_be_bytes, rotate_left}
use Rattle.std.specs.Int.Bits.{bit_or, or_self}
use Rattle.std.proofs.lemmas.Nat.{be_bytes_4, or_shifted}
use Rattle.aes.specs.Steps.{row_turned}

pub row_is : {a a' b b' c c' d d' : ℕ} → a ≡ a' → b ≡ b' → c ≡ c' → d ≡ d' → a ∷ b ∷ c ∷ d ∷ [] ≡ a' ∷ b' ∷ c' ∷ d' ∷ []
row_is p q r s i = p i ∷ q i ∷ r i ∷ s i ∷ []

row_fits : (a b c d : ℕ) → a < 256 → b < 256 → c < 256 → d < 256 → (i : ℕ) → get_or (a ∷ b ∷ c ∷ d ∷ []) i 0 < 256
row_fits a b c d p q r s zero = p
row_fits a b c d p q r s (suc zero) = q
row_fits a b c d p q r s (suc (suc zero)) = r
row_fits a b c d p q r s (suc (suc (suc zero))) = s
row_fits a b c d p q r s (suc (suc (suc (suc i)))) = omega arith

-- a number of four bytes, rotated
module _ (w : ℕ) (h : w < 2 ^ 32) where
  by_one : rotate_left w32 w 8 ≡ w % 2 ^ 24 * 2 ^ 8 + w / 2 ^ 24
  by_one =
      let e : (w * 2 ^ 8) % 2 ^ 32 ≡ w % 2 ^ 24 * 2 ^ 8 = omega arith in
      ap (λ (n : ℕ). bit_or n (w / 2 ^ 24)) e ∙ or_shifted (w % 2 ^ 24) 8 (w / 2 ^ 24) (omega arith)

  by_two : rotate_left w32 w 16 ≡ w % 2 ^ 16 * 2 ^ 16 + w / 2 ^ 16
  by_two =
      let e : (w * 2 ^ 16) % 2 ^ 32 ≡ w % 2 ^ 16 * 2 ^ 16 = omega arith in
      ap (λ (n : ℕ). bit_or n (w / 2 ^ 16)) e ∙ or_shifted (w % 2 ^ 16) 16 (w / 2 ^ 16) (omega arith)

  by_three : rotate_left w32 w 24 ≡ w % 2 ^ 8 * 2 ^ 24 + w / 2 ^ 8
  by_three =
      let e : (w * 2 ^ 24) % 2 ^ 32 ≡ w % 2 ^ 8 * 2 ^ 24 = omega arith in
      ap (λ (n : ℕ). bit_or n (w / 2 ^ 8)) e ∙ or_shifted (w % 2 ^ 8) 24 (w / 2 ^ 8) (omega arith)

module _ (w : List ℕ) (fits : (i : ℕ) → get_or w i 0 < 256) where
  small : from_be_bytes w32 w < 2 ^ 32
  small = let a = fits 0 in let b = fits 1 in let c = fits 2 in let d = fits 3 in omega arith

  spelled : (n : ℕ) → n < 4 → rotate_left w32 (from_be_bytes w32 w) (8 * n) ≡ from_be_bytes w32 (row_turned w n)
  spelled zero h =
      let s = small in
      let up : (from_be_bytes w32 w * 2 ^ 0) % 2 ^ 32 ≡ from_be_bytes w32 w = omega arith in
      let down : from_be_bytes w32 w / 2 ^ 0 ≡ from_be_bytes w32 w = omega arith in
      ap₂ bit_or up down ∙ or_self (from_be_bytes w32 w)
  spelled (suc zero) h =
      let a = fits 0 in let b = fits 1 in let c = fits 2 in let d = fits 3 in
      by_one (from_be_bytes w32 w) small ∙ omega arith
  spelled (suc (suc zero)) h =
      let a = fits 0 in let b = fits 1 in let c = fits 2 in let d = fits 3 in
      by_two (from_be_bytes w32 w) small ∙ omega arith
  spelled (suc (suc (suc zero))) h =
      let a = fits 0 in let b = fits 1 in let c = fits 2 in let d = fits 3 in
      by_three (from_be_bytes w32 w) small ∙ omega arith
  spelled (suc (suc (suc (suc n)))) h = absurd (omega arith)

  pub turned_as : (n : ℕ) → n < 4 → to_be_bytes w32 (rotate_left w32 (from_be_bytes w32 w) (8 * n)) ≡ row_turned w n
  turned_as n h =
      be_bytes_4 (row_turned w n) (rotate_left w32 (from_be_bytes w32 w) (8 * n)) refl
      (row_fits (get_or w n 0) (get_or w ((n + 1) % 4) 0) (get_or w ((n + 2) % 4) 0) (get_or w ((n + 3) % 4) 0) (fits n) (fits ((n + 1) % 4)) (fits ((n + 2) % 4)) (fits ((n + 3) % 4)))
      (spelled n h)
