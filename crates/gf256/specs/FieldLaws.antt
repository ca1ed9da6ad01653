-- Products keep sums and stay in the field; and the inverse is one.
use Rattle.std.specs.Prelude.{◌≡◌, refl, Bool, ℕ, zero, suc, ◌*◌, ◌/◌, ◌%◌, ◌^◌, ◌<◌, T, eqb}
use Rattle.std.proofs.Common.{ap, ap₂, ◌∙◌, arith, eqb→eq}
use Rattle.std.specs.Int.Bits.{bit_xor}
use Rattle.std.proofs.lemmas.Nat.{xor_lt}
use Rattle.block.specs.Double.{double}
use Rattle.block.specs.DoubleLaws.{double_fits}
use Rattle.block.specs.Xor.{xor-four}
use Rattle.block.specs.Additive.{Additive, double-xor}
use Rattle.gf256.specs.Field.{times_x_of, times, product, power, squares, inverse, IsInverse}
use Rattle.gf256.specs.Tests.{upto, below, by_bytes}

scaled_xor : (x y b : ℕ) → b < 2 → bit_xor x y * b ≡ bit_xor (x * b) (y * b)
scaled_xor x y zero h =
    let p : x * 0 ≡ 0 = omega arith in
    let q : y * 0 ≡ 0 = omega arith in
    let e : bit_xor (x * 0) (y * 0) ≡ 0 = ap₂ bit_xor p q in
    omega arith
scaled_xor x y (suc zero) h =
    let p : x * 1 ≡ x = omega arith in
    let q : y * 1 ≡ y = omega arith in
    let e = ap₂ bit_xor p q in
    omega arith
scaled_xor x y (suc (suc b)) h = absurd (omega arith)

small : 0x1b < 2 ^ 8
small = omega arith

times-xor : (n k : ℕ) → Additive 8 (λ a. times n a k)
unfolding times double
times-xor zero k x y hx hy = refl
times-xor (suc n) k x y hx hy =
    ap₂ bit_xor (scaled_xor x y (k % 2) (omega arith))
    (ap (λ (m : ℕ). times n m (k / 2)) (double-xor 7 0x1b x y hx hy)
    ∙ times-xor n (k / 2) (times_x_of x) (times_x_of y) (double_fits 7 0x1b refl small x hx) (double_fits 7 0x1b refl small y hy))
    ∙ xor-four (x * (k % 2)) (y * (k % 2)) (times n (times_x_of x) (k / 2)) (times n (times_x_of y) (k / 2))

pub product-xor : (k : ℕ) → Additive 8 (λ a. product a k)
unfolding product
product-xor k = times-xor 8 k

times_fits : (n a k : ℕ) → a < 2 ^ 8 → times n a k < 2 ^ 8
unfolding times double
times_fits zero a k h = omega arith
times_fits (suc n) a k h =
    let d : k % 2 < 2 = omega arith in
    xor_lt 8 (a * (k % 2)) (times n (times_x_of a) (k / 2)) (scaled (k % 2) d) (times_fits n (times_x_of a) (k / 2) (double_fits 7 0x1b refl small a h))
  where
    scaled : (b : ℕ) → b < 2 → a * b < 2 ^ 8
    scaled zero g = omega arith
    scaled (suc zero) g = omega arith
    scaled (suc (suc b)) g = absurd (omega arith)

pub product_fits : (a k : ℕ) → a < 2 ^ 8 → product a k < 2 ^ 8
unfolding product
product_fits a k h = times_fits 8 a k h

pub times_two : (a : ℕ) → a < 2 ^ 8 → times_x_of a ≡ product a 2
unfolding product times
times_two = by_bytes (λ a. times_x_of a) (λ a. product a 2) tt

pub power_fits : (n : ℕ) → power 2 n < 2 ^ 8
unfolding power
power_fits zero = omega arith
power_fits (suc n) = product_fits (power 2 n) 2 (power_fits n)

unfoldable inverts : ℕ → Bool
inverts zero = eqb (inverse 0) 0
inverts (suc a) = eqb (product (suc a) (inverse (suc a))) 1

tested : T (upto inverts 256)
unfolding inverts inverse squares product times
tested = tt

told : (a : ℕ) → T (inverts a) → IsInverse a (inverse a)
unfolding inverts
told zero t = eqb→eq (inverse 0) 0 t
told (suc a) t = eqb→eq (product (suc a) (inverse (suc a))) 1 t

-- the power of an element that stands for its inverse is one
pub inverse-right : (a : ℕ) → a < 2 ^ 8 → IsInverse a (inverse a)
inverse-right a h = told a (below inverts 256 tested a h)
