-- One law for every width: halving undoes doubling, and doubling halving.
use Rattle.std.specs.Prelude.{◌≡◌, ℕ, suc, ◌+◌, ◌-◌, ◌*◌, ◌/◌, ◌%◌, ◌^◌, ◌<◌, bit_xor}
use Rattle.std.proofs.Common.{subst, ◌∙◌, ⊎_elim, pow-suc, mod-eq_of_lt}
use Rattle.std.proofs.Math.Path.{ap, ap₂}
use Rattle.std.proofs.Math.Nat.{div-eq_of_lt, mul-zero, mul-one, add_comm}
use native.Mathlib.Omega.{arith}
use Rattle.std.specs.Int.Bits.{xor_zero_r, xor_self, xor_assoc}
use Rattle.std.proofs.lemmas.Nat.{mod_low, shr_high, xor_mod, xor_lt}
use Rattle.std.proofs.lemmas.Bool.{cases_lt}
use Rattle.block.specs.Double.{double, halve}

module _ (j c : ℕ) (odd : c % 2 ≡ 1) (fits : c < 2 ^ suc j) where
  two_pow : 2 ^ suc j ≡ 2 ^ j * 2
  two_pow = pow-suc 2 j

  double_low : (r : ℕ) → r < 2 ^ j → double j c r ≡ r * 2
  unfolding double
  double_low r h =
      let p : r * 2 < 2 ^ suc j = omega (arith, two_pow) in
      ap₂ bit_xor (mod-eq_of_lt p) (ap (λ (t : ℕ). c * t) (div-eq_of_lt h) ∙ mul-zero c) ∙ xor_zero_r (r * 2)

  double_high : (r : ℕ) → r < 2 ^ j → double j c (1 * 2 ^ j + r) ≡ bit_xor (r * 2) c
  unfolding double
  double_high r h =
      let p : r * 2 < 2 ^ suc j = omega (arith, two_pow) in
      let e : (1 * 2 ^ j + r) * 2 ≡ 1 * 2 ^ suc j + r * 2 = omega (arith, two_pow) in
      ap₂ bit_xor (ap (λ (n : ℕ). n % 2 ^ suc j) e ∙ mod_low 1 (suc j) (r * 2) p) (ap (λ (t : ℕ). c * t) (shr_high 1 j r h) ∙ mul-one c)

  xor-twice : (a : ℕ) → bit_xor (bit_xor a c) c ≡ a
  xor-twice a = xor_assoc a c c ∙ ap (bit_xor a) (xor_self c) ∙ xor_zero_r a

  halve_even : (y : ℕ) → y % 2 ≡ 0 → halve j c y ≡ y / 2
  unfolding halve
  halve_even y e =
      let f : halve j c y ≡ bit_xor y (c * 0) / 2 + 0 * 2 ^ j = ap (λ (b : ℕ). bit_xor y (c * b) / 2 + b * 2 ^ j) e in
      let g : bit_xor y (c * 0) ≡ y = ap (bit_xor y) (mul-zero c) ∙ xor_zero_r y in
      f ∙ ap (λ (n : ℕ). n / 2 + 0 * 2 ^ j) g ∙ omega arith

  halve_odd : (y : ℕ) → y % 2 ≡ 1 → halve j c y ≡ 1 * 2 ^ j + bit_xor y c / 2
  unfolding halve
  halve_odd y e =
      let f : halve j c y ≡ bit_xor y (c * 1) / 2 + 1 * 2 ^ j = ap (λ (b : ℕ). bit_xor y (c * b) / 2 + b * 2 ^ j) e in
      f ∙ ap (λ (n : ℕ). bit_xor y n / 2 + 1 * 2 ^ j) (mul-one c) ∙ add_comm (bit_xor y c / 2) (1 * 2 ^ j)

  -- the lowest digit of a sum by digits
  xor_low : (a d : ℕ) → a % 2 ≡ d → bit_xor a c % 2 ≡ bit_xor d 1
  xor_low a d e = xor_mod a c 1 ∙ ap₂ bit_xor e odd

  halve_of_double_low : (r : ℕ) → r < 2 ^ j → halve j c (double j c r) ≡ r
  halve_of_double_low r h =
      let e = double_low r h in
      ap (halve j c) e ∙ halve_even (r * 2) (omega arith) ∙ omega arith

  halve_of_double_high : (r : ℕ) → r < 2 ^ j → halve j c (double j c (1 * 2 ^ j + r)) ≡ 1 * 2 ^ j + r
  halve_of_double_high r h =
      let z : r * 2 % 2 ≡ 0 = omega arith in
      ap (halve j c) (double_high r h) ∙ halve_odd (bit_xor (r * 2) c) (xor_low (r * 2) 0 z)
      ∙ ap (λ (n : ℕ). 1 * 2 ^ j + n / 2) (xor-twice (r * 2)) ∙ omega arith

  -- each number of j + 1 digits is one of j digits, or that and the top one
  by_top : (P : ℕ → Type 0) → ((r : ℕ) → r < 2 ^ j → P r) → ((r : ℕ) → r < 2 ^ j → P (1 * 2 ^ j + r)) → (x : ℕ) → x < 2 ^ suc j → P x
  by_top P lo hi x h =
      ⊎_elim (λ l. lo x l)
      (λ g.
      let e : 1 * 2 ^ j + (x - 2 ^ j) ≡ x = omega arith in
      let l : x - 2 ^ j < 2 ^ j = omega (arith, two_pow) in
      subst P e (hi (x - 2 ^ j) l))
      (cases_lt x (2 ^ j))

  by_low : (P : ℕ → Type 0) → ((y : ℕ) → y % 2 ≡ 0 → P y) → ((y : ℕ) → y % 2 ≡ 1 → P y) → (y : ℕ) → P y
  by_low P ev od y =
      ⊎_elim (λ (h : y % 2 < 1). ev y (omega arith)) (λ h. od y (omega arith)) (cases_lt (y % 2) 1)

  pub halve-double : (x : ℕ) → x < 2 ^ suc j → halve j c (double j c x) ≡ x
  halve-double = by_top (λ x. halve j c (double j c x) ≡ x) halve_of_double_low halve_of_double_high

  halve_fits' : (y : ℕ) → y < 2 ^ suc j → bit_xor y c / 2 < 2 ^ j
  halve_fits' y h = let f = xor_lt (suc j) y c h fits in omega (arith, two_pow)

  pub double-halve : (y : ℕ) → y < 2 ^ suc j → double j c (halve j c y) ≡ y
  double-halve =
      by_low (λ y. y < 2 ^ suc j → double j c (halve j c y) ≡ y)
      (λ y e h. let l : y / 2 < 2 ^ j = omega (arith, two_pow) in ap (double j c) (halve_even y e) ∙ double_low (y / 2) l ∙ omega arith)
      (λ y e h.
      let l = halve_fits' y h in
      let z = xor_low y 1 e in
      let d : bit_xor y c / 2 * 2 ≡ bit_xor y c = omega arith in
      ap (double j c) (halve_odd y e) ∙ double_high (bit_xor y c / 2) l ∙ ap (λ (n : ℕ). bit_xor n c) d ∙ xor-twice y)

  pub double_fits : (x : ℕ) → x < 2 ^ suc j → double j c x < 2 ^ suc j
  double_fits =
      by_top (λ x. double j c x < 2 ^ suc j)
      (λ r h. let e = double_low r h in omega (arith, two_pow))
      (λ r h. let e = double_high r h in let p : r * 2 < 2 ^ suc j = omega (arith, two_pow) in let f = xor_lt (suc j) (r * 2) c p fits in omega arith)

  pub halve_fits : (y : ℕ) → y < 2 ^ suc j → halve j c y < 2 ^ suc j
  halve_fits =
      by_low (λ y. y < 2 ^ suc j → halve j c y < 2 ^ suc j)
      (λ y e h. let f = halve_even y e in omega arith)
      (λ y e h. let f = halve_odd y e in let l = halve_fits' y h in omega (arith, two_pow))
