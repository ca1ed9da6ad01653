-- Maps of a column to a byte that keep sums: two that agree at a byte in one place agree on every column. So tests at each byte tell
-- that the two fixed polynomials undo each other, and that a product comes from few doublings.
use Rattle.std.specs.Prelude.{◌≡◌, refl, Bool, List, ℕ, ◌^◌, ◌<◌, T, eqb, get_or}
use Rattle.std.proofs.Common.{sym, ap, ap₂, ◌∙◌, arith, eqb→eq}
use Rattle.std.specs.Int.Bits.{bit_xor, xor_zero_r}
use Rattle.std.proofs.lemmas.Nat.{xor_lt}
use Rattle.block.specs.Additive.{double-xor}
use Rattle.block.specs.Double.{double}
use Rattle.block.specs.DoubleLaws.{double_fits}
use Rattle.block.specs.Xor.{xor-four}
use Rattle.gf256.specs.Field.{times, product, times_x_of}
use Rattle.gf256.specs.FieldLaws.{product-xor, product_fits}
use Rattle.gf256.specs.Tests.{both, both_left, both_right, upto, below}
use Rattle.gf256.specs.Column.{coefficient, mixing, mixing_back}

abbrev pub Byte : ℕ → Type 0
Byte x = x < 2 ^ 8

abbrev pub AllBytes : ℕ → ℕ → ℕ → ℕ → Type 0
AllBytes a b c d = Byte a × Byte b × Byte c × Byte d

abbrev Map : Type 0
Map = ℕ → ℕ → ℕ → ℕ → ℕ

abbrev at4 : (f : Map) {a a' b b' c c' d d' : ℕ} → a ≡ a' → b ≡ b' → c ≡ c' → d ≡ d' → f a b c d ≡ f a' b' c' d'
at4 f p q r s i = f (p i) (q i) (r i) (s i)

-- a map of columns to bytes that keeps sums
record Linear (f : Map) : Type 0 where
  fits : (a b c d : ℕ) → AllBytes a b c d → Byte (f a b c d)
  sums :
      (a b c d a' b' c' d' : ℕ) → AllBytes a b c d → AllBytes a' b' c' d'
      → f (bit_xor a a') (bit_xor b b') (bit_xor c c') (bit_xor d d') ≡ bit_xor (f a b c d) (f a' b' c' d')

first : Linear (λ a b c d. a)
first = record { fits = λ a b c d h. h.0; sums = λ a b c d a' b' c' d' h k. refl }

second : Linear (λ a b c d. b)
second = record { fits = λ a b c d h. h.1; sums = λ a b c d a' b' c' d' h k. refl }

third : Linear (λ a b c d. c)
third = record { fits = λ a b c d h. h.2; sums = λ a b c d a' b' c' d' h k. refl }

fourth : Linear (λ a b c d. d)
fourth = record { fits = λ a b c d h. h.3; sums = λ a b c d a' b' c' d' h k. refl }

-- the sum of two
added : (f g : Map) → Linear f → Linear g → Linear (λ a b c d. bit_xor (f a b c d) (g a b c d))
added f g u v =
    record {
      fits = λ a b c d h. xor_lt 8 (f a b c d) (g a b c d) (u.fits a b c d h) (v.fits a b c d h);
      sums =
          λ a b c d a' b' c' d' h k.
          ap₂ bit_xor (u.sums a b c d a' b' c' d' h k) (v.sums a b c d a' b' c' d' h k)
          ∙ xor-four (f a b c d) (f a' b' c' d') (g a b c d) (g a' b' c' d');
    }

-- one, times a constant
scaled : (n : ℕ) (f : Map) → Linear f → Linear (λ a b c d. product (f a b c d) n)
scaled n f u =
    record {
      fits = λ a b c d h. product_fits (f a b c d) n (u.fits a b c d h);
      sums =
          λ a b c d a' b' c' d' h k.
          ap (λ (x : ℕ). product x n) (u.sums a b c d a' b' c' d' h k)
          ∙ product-xor n (f a b c d) (f a' b' c' d') (u.fits a b c d h) (u.fits a' b' c' d' k);
    }

small : 0x1b < 2 ^ 8
small = omega arith

-- one, times x
raised : (f : Map) → Linear f → Linear (λ a b c d. times_x_of (f a b c d))
unfolding double
raised f u =
    record {
      fits = λ a b c d h. double_fits 7 0x1b refl small (f a b c d) (u.fits a b c d h);
      sums =
          λ a b c d a' b' c' d' h k.
          ap (λ (x : ℕ). times_x_of x) (u.sums a b c d a' b' c' d' h k)
          ∙ double-xor 7 0x1b (f a b c d) (f a' b' c' d') (u.fits a b c d h) (u.fits a' b' c' d' k);
    }

-- two agree at a byte in one place of a column
unfoldable unit_test : (f g : Map) → ℕ → Bool
unit_test f g k =
    both (both (eqb (f k 0 0 0) (g k 0 0 0)) (eqb (f 0 k 0 0) (g 0 k 0 0)))
    (both (eqb (f 0 0 k 0) (g 0 0 k 0)) (eqb (f 0 0 0 k) (g 0 0 0 k)))

units : (f g : Map) → T (upto (unit_test f g) 256) → (k : ℕ) → Byte k
    → (f k 0 0 0 ≡ g k 0 0 0) × (f 0 k 0 0 ≡ g 0 k 0 0) × (f 0 0 k 0 ≡ g 0 0 k 0) × (f 0 0 0 k ≡ g 0 0 0 k)
unfolding unit_test
units f g tests k h =
    let a : Bool = eqb (f k 0 0 0) (g k 0 0 0) in
    let b : Bool = eqb (f 0 k 0 0) (g 0 k 0 0) in
    let c : Bool = eqb (f 0 0 k 0) (g 0 0 k 0) in
    let d : Bool = eqb (f 0 0 0 k) (g 0 0 0 k) in
    let t : T (both (both a b) (both c d)) = below (unit_test f g) 256 tests k h in
    let l = both_left (both a b) (both c d) t in
    let u = both_right (both a b) (both c d) t in (
      eqb→eq (f k 0 0 0) (g k 0 0 0) (both_left a b l),
      eqb→eq (f 0 k 0 0) (g 0 k 0 0) (both_right a b l),
      eqb→eq (f 0 0 k 0) (g 0 0 k 0) (both_left c d u),
      eqb→eq (f 0 0 0 k) (g 0 0 0 k) (both_right c d u),
    )

-- a column is the sum of four with a byte in one place
parts : (f : Map) → Linear f → (a b c d : ℕ) → AllBytes a b c d
    → f a b c d ≡ bit_xor (bit_xor (f a 0 0 0) (f 0 b 0 0)) (bit_xor (f 0 0 c 0) (f 0 0 0 d))
parts f u a b c d h =
    let z : Byte 0 = omega arith in
    let ab : f a b 0 0 ≡ bit_xor (f a 0 0 0) (f 0 b 0 0) =
    sym (at4 f (xor_zero_r a) refl refl refl) ∙ u.sums a 0 0 0 0 b 0 0 (h.0, z, z, z) (z, h.1, z, z) in
    let cd : f 0 0 c d ≡ bit_xor (f 0 0 c 0) (f 0 0 0 d) =
    sym (at4 f refl refl (xor_zero_r c) refl) ∙ u.sums 0 0 c 0 0 0 0 d (z, z, h.2, z) (z, z, z, h.3) in
    sym (at4 f (xor_zero_r a) (xor_zero_r b) refl refl) ∙ u.sums a b 0 0 0 0 c d (h.0, h.1, z, z) (z, z, h.2, h.3) ∙ ap₂ bit_xor ab cd

agree : (f g : Map) → Linear f → Linear g → T (upto (unit_test f g) 256) → (a b c d : ℕ) → AllBytes a b c d → f a b c d ≡ g a b c d
agree f g u v tests a b c d h =
    parts f u a b c d h
    ∙ ap₂ bit_xor (ap₂ bit_xor (units f g tests a h.0).0 (units f g tests b h.1).1) (ap₂ bit_xor (units f g tests c h.2).2 (units f g tests d h.3).3)
    ∙ sym (parts g v a b c d h)

-- a coefficient of the product with a polynomial

linear : (p : List ℕ) → Linear (coefficient p)
linear p =
    added (λ a b c d. bit_xor (product a (get_or p 0 0)) (product b (get_or p 3 0))) (λ a b c d. bit_xor (product c (get_or p 2 0)) (product d (get_or p 1 0)))
    (added (λ a b c d. product a (get_or p 0 0)) (λ a b c d. product b (get_or p 3 0)) (scaled (get_or p 0 0) (λ a b c d. a) first) (scaled (get_or p 3 0) (λ a b c d. b) second))
    (added (λ a b c d. product c (get_or p 2 0)) (λ a b c d. product d (get_or p 1 0)) (scaled (get_or p 2 0) (λ a b c d. c) third) (scaled (get_or p 1 0) (λ a b c d. d) fourth))

pub coefficient_fits : (p : List ℕ) (a b c d : ℕ) → AllBytes a b c d → Byte (coefficient p a b c d)
coefficient_fits p = (linear p).fits

-- a coefficient of a column that is multiplied by p, and then by q
unfoldable pub twice : (p q : List ℕ) → Map
twice p q a b c d = coefficient q (coefficient p a b c d) (coefficient p b c d a) (coefficient p c d a b) (coefficient p d a b c)

twice_linear : (p q : List ℕ) → Linear (twice p q)
unfolding twice
twice_linear p q =
    let f = coefficient p in
    let u = linear p in
    let all : (a b c d : ℕ) → AllBytes a b c d → AllBytes (f a b c d) (f b c d a) (f c d a b) (f d a b c) =
    λ a b c d h.
    (u.fits a b c d h, u.fits b c d a (h.1, h.2, h.3, h.0), u.fits c d a b (h.2, h.3, h.0, h.1), u.fits d a b c (h.3, h.0, h.1, h.2)) in
    record {
      fits = λ a b c d h. (linear q).fits (f a b c d) (f b c d a) (f c d a b) (f d a b c) (all a b c d h);
      sums =
          λ a b c d a' b' c' d' h k.
          at4 (coefficient q) (u.sums a b c d a' b' c' d' h k) (u.sums b c d a b' c' d' a' (h.1, h.2, h.3, h.0) (k.1, k.2, k.3, k.0))
          (u.sums c d a b c' d' a' b' (h.2, h.3, h.0, h.1) (k.2, k.3, k.0, k.1))
          (u.sums d a b c d' a' b' c' (h.3, h.0, h.1, h.2) (k.3, k.0, k.1, k.2))
          ∙ (linear q).sums (f a b c d) (f b c d a) (f c d a b) (f d a b c) (f a' b' c' d') (f b' c' d' a') (f c' d' a' b') (f d' a' b' c')
          (all a b c d h) (all a' b' c' d' k);
    }

there_tests : T (upto (unit_test (twice mixing mixing_back) (λ a b c d. a)) 256)
unfolding unit_test twice product times
there_tests = tt

back_tests : T (upto (unit_test (twice mixing_back mixing) (λ a b c d. a)) 256)
unfolding unit_test twice product times
back_tests = tt

pub unmix_mix : (a b c d : ℕ) → AllBytes a b c d → twice mixing mixing_back a b c d ≡ a
unmix_mix = agree (twice mixing mixing_back) (λ a b c d. a) (twice_linear mixing mixing_back) first there_tests

pub mix_unmix : (a b c d : ℕ) → AllBytes a b c d → twice mixing_back mixing a b c d ≡ a
mix_unmix = agree (twice mixing_back mixing) (λ a b c d. a) (twice_linear mixing_back mixing) first back_tests

-- the same by few doublings: 2 a + 3 b + c + d is 2 (a + b) + (b + c + d)
abbrev pub mixed : Map
mixed a b c d = bit_xor (times_x_of (bit_xor a b)) (bit_xor b (bit_xor c d))

-- and 14 a + 11 b + 13 c + 9 d is 2 (2 (2 (a + b + c + d) + (a + c)) + (a + b)) + (b + c + d)
abbrev pub unmixed : Map
unmixed a b c d = bit_xor (times_x_of (bit_xor (times_x_of (bit_xor (times_x_of (bit_xor (bit_xor a b) (bit_xor c d))) (bit_xor a c))) (bit_xor a b))) (bit_xor b (bit_xor c d))

a+b : Linear (λ a b c d. bit_xor a b)
a+b = added (λ a b c d. a) (λ a b c d. b) first second

c+d : Linear (λ a b c d. bit_xor c d)
c+d = added (λ a b c d. c) (λ a b c d. d) third fourth

b+c+d : Linear (λ a b c d. bit_xor b (bit_xor c d))
b+c+d = added (λ a b c d. b) (λ a b c d. bit_xor c d) second c+d

mixed_linear : Linear mixed
mixed_linear = added (λ a b c d. times_x_of (bit_xor a b)) (λ a b c d. bit_xor b (bit_xor c d)) (raised (λ a b c d. bit_xor a b) a+b) b+c+d

mixed_tests : T (upto (unit_test mixed (coefficient mixing)) 256)
unfolding unit_test product times
mixed_tests = tt

pub mixed-right : (a b c d : ℕ) → AllBytes a b c d → mixed a b c d ≡ coefficient mixing a b c d
mixed-right = agree mixed (coefficient mixing) mixed_linear (linear mixing) mixed_tests

-- 2 (f + g)
step : (f g : Map) → Linear f → Linear g → Linear (λ a b c d. times_x_of (bit_xor (f a b c d) (g a b c d)))
step f g u v = raised (λ a b c d. bit_xor (f a b c d) (g a b c d)) (added f g u v)

unmixed_linear : Linear unmixed
unmixed_linear =
    let f : Map = λ a b c d. times_x_of (bit_xor (bit_xor a b) (bit_xor c d)) in
    let g : Map = λ a b c d. times_x_of (bit_xor (times_x_of (bit_xor (bit_xor a b) (bit_xor c d))) (bit_xor a c)) in
    let h : Map = λ a b c d. times_x_of (bit_xor (times_x_of (bit_xor (times_x_of (bit_xor (bit_xor a b) (bit_xor c d))) (bit_xor a c))) (bit_xor a b)) in
    added h (λ a b c d. bit_xor b (bit_xor c d))
    (step g (λ a b c d. bit_xor a b)
    (step f (λ a b c d. bit_xor a c) (step (λ a b c d. bit_xor a b) (λ a b c d. bit_xor c d) a+b c+d) (added (λ a b c d. a) (λ a b c d. c) first third)) a+b)
    b+c+d

unmixed_tests : T (upto (unit_test unmixed (coefficient mixing_back)) 256)
unfolding unit_test product times
unmixed_tests = tt

pub unmixed-right : (a b c d : ℕ) → AllBytes a b c d → unmixed a b c d ≡ coefficient mixing_back a b c d
unmixed-right = agree unmixed (coefficient mixing_back) unmixed_linear (linear mixing_back) unmixed_tests
