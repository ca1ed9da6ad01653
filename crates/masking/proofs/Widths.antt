-- Doubling and halving as the library writes them, at any width up to 128 digits.
use Rattle.std.proofs.Common.{◌≡◌, ℕ, zero, suc, ◌+◌, ◌*◌, ◌/◌, ◌%◌, ◌^◌, ◌<◌, ◌≤◌, sym, ap, ap₂, ◌∙◌, add-one, pow-suc, pow_pos, arith, mod-eq_of_lt}
use Rattle.std.proofs.Math.Pow.{pow_mono}
use Rattle.std.proofs.lemmas.Nat.{mod-pow-add, mod_below}
use lib.Bits.{bit_xor, xor_lt}
use Rattle.block.specs.Double.{double, halve}

-- a number times a digit
times_digit : (p d : ℕ) → d < 2 → p * d ≤ p
times_digit p zero h = omega arith
times_digit p (suc zero) h = omega arith
times_digit p (suc (suc d)) h = absurd (omega arith)

digit_times : (d m : ℕ) → d < 2 → d * m ≤ m
digit_times zero m h = omega arith
digit_times (suc zero) m h = omega arith
digit_times (suc (suc d)) m h = absurd (omega arith)

module _ (j c p x : ℕ) (h : j < 128) (e : p ≡ c) where
  top : 2 ^ j * 2 ≤ 2 ^ 128
  top = let m : 2 ^ suc j ≤ 2 ^ 128 = pow_mono {i = suc j} {j = 128} (omega arith) in omega (arith, pow-suc 2 j)

  pub doubled_as : bit_xor (x % (1 * 2 ^ j % 2 ^ 128) * 2 % 2 ^ 128) (p * (x / 2 ^ j)) ≡ double j c x
  unfolding double
  doubled_as =
      let t = top in
      let one : 1 * 2 ^ j % 2 ^ 128 ≡ 2 ^ j = omega arith in
      let low : x % 2 ^ j < 2 ^ j = mod_below x (2 ^ j) (pow_pos j) in
      let less : x % 2 ^ j * 2 < 2 ^ 128 = omega arith in
      let half : (x * 2) / 2 ^ 1 ≡ x = omega arith in
      let shifted : (x * 2) % 2 ^ suc j ≡ x % 2 ^ j * 2 =
      sym (ap (λ (n : ℕ). (x * 2) % 2 ^ n) (add-one j)) ∙ mod-pow-add (x * 2) j 1
      ∙ ap (λ (n : ℕ). n % 2 ^ j * 2 ^ 1 + (x * 2) % 2 ^ 1) half ∙ omega arith in
      ap₂ bit_xor (ap (λ (n : ℕ). x % n * 2 % 2 ^ 128) one ∙ mod-eq_of_lt less ∙ sym shifted) (ap (λ (n : ℕ). n * (x / 2 ^ j)) e)

  high : x % 2 * 2 ^ j < 2 ^ 128
  high = let t = top in let z = pow_pos j in let d = digit_times (x % 2) (2 ^ j) (omega arith) in omega arith

  pub halved_as : bit_xor x (p * (x % 2)) / 2 + x % 2 * 2 ^ j % 2 ^ 128 ≡ halve j c x
  unfolding halve
  halved_as =
      ap₂ (λ (m n : ℕ). bit_xor x (m * (x % 2)) / 2 + n) e (mod-eq_of_lt high)

  pub halved_fits : x < 2 ^ (j + 1) → c < 2 ^ (j + 1) → bit_xor x (p * (x % 2)) / 2 + x % 2 * 2 ^ j % 2 ^ 128 < 2 ^ 128
  halved_fits hx hc =
      let t = top in
      let s : 2 ^ (j + 1) ≡ 2 ^ j * 2 = ap (λ (n : ℕ). 2 ^ n) (add-one j) ∙ pow-suc 2 j in
      let a = times_digit p (x % 2) (omega arith) in
      let b = digit_times (x % 2) (2 ^ j) (omega arith) in
      let l = mod-eq_of_lt high in
      let f : bit_xor x (p * (x % 2)) < 2 ^ (j + 1) = xor_lt (j + 1) x (p * (x % 2)) hx (omega arith) in
      omega arith
