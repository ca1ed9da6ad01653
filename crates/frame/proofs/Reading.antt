-- Reading a number byte by byte.
use Rattle.std.proofs.Common.{◌≡◌, ℕ, ◌+◌, ◌*◌, ◌^◌, ◌<◌, ◌≤◌, List, [], ◌∷◌, ◌++◌, length, get_or, take, refl, ap, ◌∙◌, lt_of_lt_of_le, add-one, arith}
use native.Mathlib.Nat.{pow-le-pow_right, pow-succ'}
use Rattle.std.proofs.lemmas.List.{take_more}
use Rattle.block.specs.Bytes.{read_after, number_of}

read_append : (acc : ℕ) (xs : List ℕ) (b : ℕ) → read_after acc (xs ++ b ∷ []) ≡ read_after acc xs * 256 + b
read_append acc [] b = refl
read_append acc (x ∷ xs) b = read_append (acc * 256 + x) xs b

pub number_more : (i x : ℕ) (bs : List ℕ) → i < length bs → x ≡ number_of (take i bs) → 256 * x + get_or bs i 0 ≡ number_of (take (i + 1) bs)
number_more i x bs h e =
    let a = read_append 0 (take i bs) (get_or bs i 0) in
    let t : number_of (take (i + 1) bs) ≡ number_of (take i bs ++ get_or bs i 0 ∷ []) = ap number_of (take_more bs i 0 h) in
    omega arith

-- what at most seven bytes spell leaves room for one more
pub number_small : (i x : ℕ) → i ≤ 7 → x < 256 ^ i → x < 2 ^ 56
number_small i x l e = lt_of_lt_of_le e (pow-le-pow_right {n = 256} (omega arith) {j = 7} l)

pub number_grows : (i x b : ℕ) → b < 256 → x < 256 ^ i → 256 * x + b < 256 ^ (i + 1)
number_grows i x b h e =
    let p : 256 ^ (i + 1) ≡ 256 * 256 ^ i = ap (λ (n : ℕ). 256 ^ n) (add-one i) ∙ pow-succ' 256 i in
    omega arith
