use Rattle.std.specs.Prelude.{◌≡◌, ℕ, ◌%◌, ◌^◌, ◌<◌, bit_xor, refl}
use Rattle.std.proofs.Common.{ap₂, subst, ◌∙◌, arith}
use Rattle.std.proofs.Math.Path.{ap}
use Rattle.std.specs.Int.Bits.{xor_zero_r, xor_self, xor_assoc}
use Rattle.std.proofs.lemmas.Nat.{xor_lt}
use Rattle.block.specs.Maps.{Undo}
use Rattle.block.specs.DoubleLaws.{halve-double, double-halve, double_fits, halve_fits}
use Rattle.masking.specs.Tower.{word3, word2, word1, word0, of_words, alpha, alpha_back, tower_step, tower_back}

module _ (a b c d : ℕ) (ha : a < 2 ^ 32) (hb : b < 2 ^ 32) (hc : c < 2 ^ 32) (hd : d < 2 ^ 32) where
  pub of_3 : word3 (of_words a b c d) ≡ a
  of_3 = omega arith

  pub of_2 : word2 (of_words a b c d) ≡ b
  of_2 = omega arith

  pub of_1 : word1 (of_words a b c d) ≡ c
  of_1 = omega arith

  pub of_0 : word0 (of_words a b c d) ≡ d
  of_0 = omega arith

  pub of_fits : of_words a b c d < 2 ^ 128
  of_fits = omega arith

pub to_from : (x : ℕ) → of_words (word3 x) (word2 x) (word1 x) (word0 x) ≡ x
to_from x = omega arith

xor-twice : (a t : ℕ) → bit_xor (bit_xor a t) t ≡ a
xor-twice a t = xor_assoc a t t ∙ ap (bit_xor a) (xor_self t) ∙ xor_zero_r a

abbrev at4 : {a a' b b' c c' d d' : ℕ} → a ≡ a' → b ≡ b' → c ≡ c' → d ≡ d' → of_words a b c d ≡ of_words a' b' c' d'
at4 p q r s i = of_words (p i) (q i) (r i) (s i)

odd : 0x0a000021 % 2 ≡ 1
odd = refl

small : 0x0a000021 < 2 ^ 32
small = omega arith

-- four words turned, and turned back
module _ (a b c d : ℕ) (ha : a < 2 ^ 32) (hb : b < 2 ^ 32) (hc : c < 2 ^ 32) (hd : d < 2 ^ 32) where
  step_words : tower_step (of_words a b c d) ≡ of_words (bit_xor b a) c (bit_xor d a) (alpha a)
  unfolding tower_step
  step_words =
      let e3 = of_3 a b c d ha hb hc hd in
      let e2 = of_2 a b c d ha hb hc hd in
      let e1 = of_1 a b c d ha hb hc hd in
      let e0 = of_0 a b c d ha hb hc hd in
      at4 (ap₂ bit_xor e2 e3) e1 (ap₂ bit_xor e0 e3) (ap alpha e3)

  back_words : tower_back (of_words a b c d) ≡ of_words (alpha_back d) (bit_xor a (alpha_back d)) b (bit_xor c (alpha_back d))
  unfolding tower_back
  back_words =
      let e3 = of_3 a b c d ha hb hc hd in
      let e2 = of_2 a b c d ha hb hc hd in
      let e1 = of_1 a b c d ha hb hc hd in
      let e0 = ap alpha_back (of_0 a b c d ha hb hc hd) in
      at4 e0 (ap₂ bit_xor e3 e0) e2 (ap₂ bit_xor e1 e0)

  xb : bit_xor b a < 2 ^ 32
  xb = xor_lt 32 b a hb ha

  xd : bit_xor d a < 2 ^ 32
  xd = xor_lt 32 d a hd ha

  xa : alpha a < 2 ^ 32
  xa = double_fits 31 0x0a000021 odd small a ha

  ba : alpha_back d < 2 ^ 32
  ba = halve_fits 31 0x0a000021 odd small d hd

  step_fits : tower_step (of_words a b c d) < 2 ^ 128
  step_fits = let e = step_words in let f = of_fits (bit_xor b a) c (bit_xor d a) (alpha a) xb hc xd xa in omega arith

module _ (a b c d : ℕ) (ha : a < 2 ^ 32) (hb : b < 2 ^ 32) (hc : c < 2 ^ 32) (hd : d < 2 ^ 32) where
  back_step : tower_back (tower_step (of_words a b c d)) ≡ of_words a b c d
  back_step =
      let u = halve-double 31 0x0a000021 odd small a ha in
      ap tower_back (step_words a b c d ha hb hc hd)
      ∙ back_words (bit_xor b a) c (bit_xor d a) (alpha a) (xb a b c d ha hb hc hd) hc (xd a b c d ha hb hc hd) (xa a b c d ha hb hc hd)
      ∙ at4 u (ap (bit_xor (bit_xor b a)) u ∙ xor-twice b a) refl (ap (bit_xor (bit_xor d a)) u ∙ xor-twice d a)

  step_back : tower_step (tower_back (of_words a b c d)) ≡ of_words a b c d
  step_back =
      let t : ℕ = alpha_back d in
      let ht : t < 2 ^ 32 = halve_fits 31 0x0a000021 odd small d hd in
      ap tower_step (back_words a b c d ha hb hc hd)
      ∙ step_words t (bit_xor a t) b (bit_xor c t) ht (xor_lt 32 a t ha ht) hb (xor_lt 32 c t hc ht)
      ∙ at4 (xor-twice a t) refl (xor-twice c t) (double-halve 31 0x0a000021 odd small d hd)

  back_fits : tower_back (of_words a b c d) < 2 ^ 128
  back_fits =
      let t : ℕ = alpha_back d in
      let ht : t < 2 ^ 32 = halve_fits 31 0x0a000021 odd small d hd in
      let e = back_words a b c d ha hb hc hd in
      let f = of_fits t (bit_xor a t) b (bit_xor c t) ht (xor_lt 32 a t ha ht) hb (xor_lt 32 c t hc ht) in
      omega arith

-- what holds of four words holds of each block
by_words : (P : ℕ → Type 0)
    → ((a b c d : ℕ) → a < 2 ^ 32 → b < 2 ^ 32 → c < 2 ^ 32 → d < 2 ^ 32 → P (of_words a b c d))
    → (x : ℕ) → x < 2 ^ 128 → P x
by_words P f x h = subst P (to_from x) (f (word3 x) (word2 x) (word1 x) (word0 x) (omega arith) (omega arith) (omega arith) (omega arith))

pub tower_undo : Undo tower_step tower_back
tower_undo =
    record {
      there_fits = by_words (λ x. tower_step x < 2 ^ 128) step_fits;
      back_fits = by_words (λ x. tower_back x < 2 ^ 128) back_fits;
      back_there = by_words (λ x. tower_back (tower_step x) ≡ x) back_step;
      there_back = by_words (λ x. tower_step (tower_back x) ≡ x) step_back;
    }
