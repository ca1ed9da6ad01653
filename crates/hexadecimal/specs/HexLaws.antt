-- Bytes that are written as hexadecimal digits are spelled by them.
use Rattle.std.specs.Prelude.{◌≡◌, ℕ, ◌+◌, ◌-◌, ◌*◌, ◌/◌, ◌%◌, ◌<◌, ◌≤◌, List, [], ◌∷◌, ◌++◌, Some, refl}
use Rattle.std.proofs.Common.{ap, ◌∙◌, inl, inr, arith}
use Rattle.std.proofs.lemmas.Bool.{cases_lt, lt-ltb, le-ltb, le-leb, lt-leb}
use Rattle.std.specs.List.{AllByRecursion}
use Rattle.hexadecimal.specs.Hex.{digit_of, spelled, hex_char, hex_digits, Written}

decimal_digit : (v : ℕ) → v < 10 → digit_of (48 + v) ≡ Some v
decimal_digit v h =
    let low = le-leb 48 (48 + v) (omega arith) in
    let high = le-leb (48 + v) 57 (omega arith) in
    let same : 48 + v - 48 ≡ v = omega arith in
    rw (low, high) (ap Some same)

letter_digit : (v : ℕ) → 10 ≤ v → v < 16 → digit_of (87 + v) ≡ Some v
letter_digit v l h =
    let past = lt-leb (87 + v) 57 (omega arith) in
    let capital = lt-leb (87 + v) 70 (omega arith) in
    let a = le-leb 48 (87 + v) (omega arith) in
    let b = le-leb 65 (87 + v) (omega arith) in
    let c = le-leb 97 (87 + v) (omega arith) in
    let d = le-leb (87 + v) 102 (omega arith) in
    let same : 87 + v - 87 ≡ v = omega arith in
    rw (a, past, b, capital, c, d) (ap Some same)

pub digit_char : (v : ℕ) → v < 16 → digit_of (hex_char v) ≡ Some v
digit_char v h =
    elim (cases_lt v 10) [
      | inl l ↦ rw (lt-ltb v 10 l) (decimal_digit v l)
      | inr l ↦ rw (le-ltb v 10 l) (letter_digit v l h)
    ]

-- what is written is spelled
pub spelled_digits : (bs : List ℕ) → AllByRecursion (λ b. b < 256) bs → spelled (hex_digits bs) ≡ Some bs
unfolding spelled hex_digits
spelled_digits [] h = refl
spelled_digits (b ∷ bs) h =
    let high = digit_char (b / 16) (omega (arith, h.0)) in
    let low = digit_char (b % 16) (omega arith) in
    let whole : 16 * (b / 16) + b % 16 ≡ b = omega arith in
    rw (high, low, spelled_digits bs h.1) (ap (λ (x : ℕ). Some (x ∷ bs)) whole)

-- digits behind an empty text
pub written_digits : (front text bs : List ℕ) → text ≡ front ++ hex_digits bs → AllByRecursion (λ b. b < 256) bs → front ≡ [] → Written text bs
written_digits front text bs e small none =
    let alone = e ∙ ap (λ (f : List ℕ). f ++ hex_digits bs) none in
    record { digits = alone; back = ap spelled alone ∙ spelled_digits bs small }
