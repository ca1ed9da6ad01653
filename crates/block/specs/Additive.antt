-- Doubling keeps sums by digits; and two maps that keep them agree if they agree at the powers of two.
use Rattle.std.specs.Prelude.{◌≡◌, ℕ, zero, suc, ◌+◌, ◌-◌, ◌*◌, ◌/◌, ◌%◌, ◌^◌, ◌<◌}
use Rattle.std.proofs.Common.{sym, ap, ap₂, subst, ◌∙◌, ⊎_elim, mul-zero, pow-suc, le_of_suc-le-suc, not-suc-le-zero, arith, pow_pos}
use Rattle.std.specs.Int.Bits.{bit_xor, xor_shifted, xor_zero_r, xor_self}
use Rattle.std.proofs.lemmas.Bool.{cases_lt}
use Rattle.std.proofs.lemmas.Nat.{shr_below, xor_mod, xor_shr, xor_block}
use Rattle.block.specs.Double.{double}
use Rattle.block.specs.Xor.{xor-four}

-- a number times the sum of two digits
pub bit_xor_lem : (c p q : ℕ) → p < 2 → q < 2 → c * bit_xor p q ≡ bit_xor (c * p) (c * q)
bit_xor_lem c zero q hp hq = sym (ap (λ (n : ℕ). bit_xor n (c * q)) (mul-zero c))
bit_xor_lem c (suc zero) zero hp hq = sym (ap (bit_xor (c * 1)) (mul-zero c) ∙ xor_zero_r (c * 1))
bit_xor_lem c (suc zero) (suc zero) hp hq = mul-zero c ∙ sym (xor_self (c * 1))
bit_xor_lem c (suc zero) (suc (suc q)) hp hq = absurd (not-suc-le-zero (le_of_suc-le-suc (le_of_suc-le-suc hq)))
bit_xor_lem c (suc (suc p)) q hp hq = absurd (not-suc-le-zero (le_of_suc-le-suc (le_of_suc-le-suc hp)))

twice-xor : (x y : ℕ) → bit_xor x y * 2 ≡ bit_xor (x * 2) (y * 2)
twice-xor x y =
    let e : bit_xor (x * 2 + 0) (y * 2 + 0) ≡ bit_xor x y * 2 + 0 = xor_block 1 x y 0 0 (omega arith) (omega arith) in
    let p : x * 2 + 0 ≡ x * 2 = omega arith in
    let q : y * 2 + 0 ≡ y * 2 = omega arith in
    let f = ap₂ bit_xor p q in
    omega arith

abbrev pub Additive : ℕ → (ℕ → ℕ) → Type 0
Additive k f = (x y : ℕ) → x < 2 ^ k → y < 2 ^ k → f (bit_xor x y) ≡ bit_xor (f x) (f y)

pub double-xor : (j c : ℕ) → Additive (suc j) (double j c)
unfolding double
double-xor j c x y hx hy =
    let m : ℕ = 2 ^ suc j in
    let tx : x / 2 ^ j < 2 = shr_below x 1 j (subst (λ (n : ℕ). x < 2 ^ n) (omega arith) hx) in
    let ty : y / 2 ^ j < 2 = shr_below y 1 j (subst (λ (n : ℕ). y < 2 ^ n) (omega arith) hy) in
    ap₂ bit_xor (ap (λ (n : ℕ). n % 2 ^ suc j) (twice-xor x y) ∙ xor_mod (x * 2) (y * 2) (suc j))
    (ap (λ (n : ℕ). c * n) (xor_shr x y j) ∙ bit_xor_lem c (x / 2 ^ j) (y / 2 ^ j) tx ty)
    ∙ xor-four ((x * 2) % 2 ^ suc j) ((y * 2) % 2 ^ suc j) (c * (x / 2 ^ j)) (c * (y / 2 ^ j))

at_zero : (k : ℕ) (f : ℕ → ℕ) → Additive k f → f 0 ≡ 0
at_zero k f a = a 0 0 (pow_pos k) (pow_pos k) ∙ xor_self (f 0)

pub agree : (k : ℕ) (f g : ℕ → ℕ) → Additive k f → Additive k g → ((i : ℕ) → i < k → f (2 ^ i) ≡ g (2 ^ i)) → (x : ℕ) → x < 2 ^ k → f x ≡ g x
agree zero f g af ag units x h =
    let e : x ≡ 0 = omega arith in
    ap f e ∙ at_zero 0 f af ∙ sym (at_zero 0 g ag) ∙ sym (ap g e)
agree (suc k) f g af ag units x h =
    let two = pow-suc 2 k in
    let p = pow_pos k in
    let less : Additive k f = λ u v hu hv. af u v (omega arith) (omega arith) in
    let less' : Additive k g = λ u v hu hv. ag u v (omega arith) (omega arith) in
    let rest = agree k f g less less' (λ i hi. units i (omega arith)) in
    ⊎_elim (λ l. rest x l)
    (λ u.
    let r : ℕ = x - 2 ^ k in
    let hr : x - 2 ^ k < 2 ^ k = omega arith in
    let top : 1 * 2 ^ k ≡ 2 ^ k = omega arith in
    let sum : 1 * 2 ^ k + (x - 2 ^ k) ≡ x = omega arith in
    let e : bit_xor (2 ^ k) (x - 2 ^ k) ≡ x = ap (λ (n : ℕ). bit_xor n (x - 2 ^ k)) (sym top) ∙ xor_shifted 1 k (x - 2 ^ k) hr ∙ sum in
    sym (ap f e) ∙ af (2 ^ k) (x - 2 ^ k) (omega arith) (omega arith)
    ∙ ap₂ bit_xor (units k (omega arith)) (rest (x - 2 ^ k) hr)
    ∙ sym (ag (2 ^ k) (x - 2 ^ k) (omega arith) (omega arith)) ∙ ap g e)
    (cases_lt x (2 ^ k))
