-- Laws of bytes, and of the numbers that they spell.
use Rattle.std.specs.Prelude.{◌≡◌, ℕ, zero, suc, ◌+◌, ◌-◌, ◌*◌, ◌/◌, ◌%◌, ◌^◌, ◌<◌, ◌≤◌, List, [], ◌∷◌, ◌++◌, length, take, drop, replicate, bit_xor, slice_index, refl}
use Rattle.std.proofs.Common.{sym, ap, ap₂, ◌∙◌, mod-eq_of_lt, mul_assoc, add-mul, lt_of_lt_of_le, arith, length-take, pow-add}
use Rattle.std.proofs.Math.Nat.{pow-succ', mod-one, pow-le-pow_right}
use Rattle.std.proofs.Math.Arith.{mod-mul, digits_lt, digits_div}
use Rattle.std.proofs.lemmas.Nat.{xor_lt, xor_shr, xor_mod}
use Rattle.std.proofs.lemmas.List.{take_all}
use Rattle.block.specs.Bytes.{Bytes, none, more, bytes_of, read_after, number_of, block_at, stored_at, xor_bytes}
use Rattle.block.specs.Xor.{xor-twice}

pos : (n : ℕ) → 0 < 256 ^ n
pos n = pow-le-pow_right {n = 256} (omega arith) {i = 0} {j = n} (omega arith)

pub length_bytes : (n x : ℕ) → length (bytes_of n x) ≡ n
unfolding bytes_of
length_bytes zero x = refl
length_bytes (suc n) x = ap suc (length_bytes n x)

pub read_bytes : (n acc x : ℕ) → read_after acc (bytes_of n x) ≡ acc * 256 ^ n + x % 256 ^ n
unfolding bytes_of
read_bytes zero acc x = omega (arith, mod-one x)
read_bytes (suc n) acc x =
    let two : 0 < 256 = omega arith in
    let e : x % (256 * 256 ^ n) ≡ (x / 256 ^ n % 256) * 256 ^ n + x % 256 ^ n = mod-mul x {m = 256} {c = 256 ^ n} two (pos n) in
    let p : 256 ^ suc n ≡ 256 * 256 ^ n = pow-succ' 256 n in
    let q : x % 256 ^ suc n ≡ x % (256 * 256 ^ n) = ap (λ (m : ℕ). x % m) p in
    let r : (acc * 256 + x / 256 ^ n % 256) * 256 ^ n ≡ acc * 256 * 256 ^ n + (x / 256 ^ n % 256) * 256 ^ n = add-mul (acc * 256) (x / 256 ^ n % 256) (256 ^ n) in
    let s : acc * 256 * 256 ^ n ≡ acc * (256 * 256 ^ n) = mul_assoc acc 256 (256 ^ n) in
    let t : acc * 256 ^ suc n ≡ acc * (256 * 256 ^ n) = ap (λ (m : ℕ). acc * m) p in
    read_bytes n (acc * 256 + x / 256 ^ n % 256) x ∙ omega arith

pub number_bytes : (n x : ℕ) → x < 256 ^ n → number_of (bytes_of n x) ≡ x
number_bytes n x h = read_bytes n 0 x ∙ omega (arith, mod-eq_of_lt h)

-- where the digits after acc begin
read_split : (acc : ℕ) (bs : List ℕ) → Bytes bs → (r : ℕ) × (read_after acc bs ≡ acc * 256 ^ length bs + r) × (r < 256 ^ length bs)
read_split acc [] none = (0, omega arith, omega arith)
read_split acc (b ∷ bs) (more h hs) =
    let i = read_split (acc * 256 + b) bs hs in
    let n : ℕ = length bs in
    let p : 256 ^ suc n ≡ 256 * 256 ^ n = pow-succ' 256 n in
    let l : b * 256 ^ n + i.0 < 256 * 256 ^ n = digits_lt h i.2 in
    let r : (acc * 256 + b) * 256 ^ n ≡ acc * 256 * 256 ^ n + b * 256 ^ n = add-mul (acc * 256) b (256 ^ n) in
    let s : acc * 256 * 256 ^ n ≡ acc * (256 * 256 ^ n) = mul_assoc acc 256 (256 ^ n) in
    let t : acc * 256 ^ suc n ≡ acc * (256 * 256 ^ n) = ap (λ (m : ℕ). acc * m) p in
    let u = i.1 in
    (b * 256 ^ n + i.0, omega arith, omega arith)

pub bytes_read : (acc : ℕ) (bs : List ℕ) → Bytes bs → bytes_of (length bs) (read_after acc bs) ≡ bs
unfolding bytes_of
bytes_read acc [] none = refl
bytes_read acc (b ∷ bs) (more h hs) =
    let i = read_split (acc * 256 + b) bs hs in
    let n : ℕ = length bs in
    let d : read_after (acc * 256 + b) bs / 256 ^ n ≡ acc * 256 + b = ap (λ (m : ℕ). m / 256 ^ n) i.1 ∙ digits_div (acc * 256 + b) i.2 in
    let e : read_after (acc * 256 + b) bs / 256 ^ n % 256 ≡ b = omega arith in
    ap₂ (λ (y : ℕ) (ys : List ℕ). y ∷ ys) e (bytes_read (acc * 256 + b) bs hs)

pub read_fits : (bs : List ℕ) → Bytes bs → number_of bs < 256 ^ length bs
read_fits bs h = let i = read_split 0 bs h in let e = i.1 in let l = i.2 in omega arith

pub bytes_take : (n : ℕ) (bs : List ℕ) → Bytes bs → Bytes (take n bs)
bytes_take zero bs h = none
bytes_take (suc n) [] h = none
bytes_take (suc n) (b ∷ bs) (more h hs) = more h (bytes_take n bs hs)

pub bytes_drop : (n : ℕ) (bs : List ℕ) → Bytes bs → Bytes (drop n bs)
bytes_drop zero bs h = h
bytes_drop (suc n) [] h = none
bytes_drop (suc n) (b ∷ bs) (more h hs) = bytes_drop n bs hs

pub bytes_from : (bs : List ℕ) → ((i : ℕ) → slice_index bs i < 2 ^ 8) → Bytes bs
bytes_from [] h = none
bytes_from (b ∷ bs) h = more (h 0) (bytes_from bs (λ i. h (suc i)))

pub bytes_append : (xs ys : List ℕ) → Bytes xs → Bytes ys → Bytes (xs ++ ys)
bytes_append [] ys none k = k
bytes_append (x ∷ xs) ys (more h hs) k = more h (bytes_append xs ys hs k)

pub bytes_replicate : (n b : ℕ) → b < 256 → Bytes (replicate n b)
bytes_replicate zero b h = none
bytes_replicate (suc n) b h = more h (bytes_replicate n b h)

pub bytes_of_lem : (n x : ℕ) → Bytes (bytes_of n x)
unfolding bytes_of
bytes_of_lem zero x = none
bytes_of_lem (suc n) x = more (omega arith) (bytes_of_lem n x)

pub length-xor : (xs ys : List ℕ) → length xs ≤ length ys → length (xor_bytes xs ys) ≡ length xs
unfolding xor_bytes
length-xor [] ys h = refl
length-xor (x ∷ xs) [] h = absurd (omega arith)
length-xor (x ∷ xs) (y ∷ ys) h = ap suc (length-xor xs ys (omega arith))

pub xor_bytes_twice : (xs ys : List ℕ) → length xs ≤ length ys → xor_bytes (xor_bytes xs ys) ys ≡ xs
unfolding xor_bytes
xor_bytes_twice [] ys h = refl
xor_bytes_twice (x ∷ xs) [] h = absurd (omega arith)
xor_bytes_twice (x ∷ xs) (y ∷ ys) h = ap₂ (λ (a : ℕ) (v : List ℕ). a ∷ v) (xor-twice x y) (xor_bytes_twice xs ys (omega arith))

pub bytes_xor : (xs ys : List ℕ) → Bytes xs → Bytes ys → Bytes (xor_bytes xs ys)
unfolding xor_bytes
bytes_xor [] ys none k = none
bytes_xor (x ∷ xs) [] (more h hs) none = none
bytes_xor (x ∷ xs) (y ∷ ys) (more h hs) (more k ks) = more (xor_lt 8 x y h k) (bytes_xor xs ys hs ks)

pub number_same : (xs ys : List ℕ) → Bytes xs → Bytes ys → length xs ≡ length ys → number_of xs ≡ number_of ys → xs ≡ ys
number_same xs ys h k l e =
    sym (bytes_read 0 xs h) ∙ ap₂ (λ (n x : ℕ). bytes_of n x) l e ∙ bytes_read 0 ys k

pub at_most : (n : ℕ) (bs : List ℕ) → length (take n bs) ≤ n
at_most n bs = let e = length-take n bs in omega arith

pub short_fits : (bs : List ℕ) → Bytes bs → length bs ≤ 16 → number_of bs < 2 ^ 128
short_fits bs h l = lt_of_lt_of_le (read_fits bs h) (pow-le-pow_right {n = 256} (omega arith) {j = 16} l)

pub block_fits : (k : ℕ) (bs : List ℕ) → Bytes bs → block_at k bs < 2 ^ 128
block_fits k bs h = short_fits (take 16 (drop k bs)) (bytes_take 16 (drop k bs) (bytes_drop k bs h)) (at_most 16 (drop k bs))

-- the bytes of a sum are the sums of the bytes

shift_is : (n : ℕ) → 256 ^ n ≡ 2 ^ (8 * n)
shift_is zero = refl
shift_is (suc n) =
    let e : 8 * suc n ≡ 8 + 8 * n = omega arith in
    pow-succ' 256 n ∙ ap (λ (m : ℕ). 256 * m) (shift_is n) ∙ sym (pow-add 2 8 (8 * n)) ∙ ap (λ (m : ℕ). 2 ^ m) (sym e)

xor_byte : (x y n : ℕ) → bit_xor x y / 256 ^ n % 256 ≡ bit_xor (x / 256 ^ n % 256) (y / 256 ^ n % 256)
xor_byte x y n =
    let s : (v : ℕ) → v / 256 ^ n ≡ v / 2 ^ (8 * n) = λ v. ap (λ (m : ℕ). v / m) (shift_is n) in
    ap (λ (m : ℕ). m % 256) (s (bit_xor x y) ∙ xor_shr x y (8 * n))
    ∙ xor_mod (x / 2 ^ (8 * n)) (y / 2 ^ (8 * n)) 8
    ∙ ap₂ (λ (a b : ℕ). bit_xor (a % 256) (b % 256)) (sym (s x)) (sym (s y))

pub bytes_of_xor : (n x y : ℕ) → bytes_of n (bit_xor x y) ≡ xor_bytes (bytes_of n x) (bytes_of n y)
unfolding bytes_of xor_bytes
bytes_of_xor zero x y = refl
bytes_of_xor (suc n) x y = ap₂ (λ (a : ℕ) (v : List ℕ). a ∷ v) (xor_byte x y n) (bytes_of_xor n x y)

pub take-xor : (n : ℕ) (xs ys : List ℕ) → take n (xor_bytes xs ys) ≡ xor_bytes (take n xs) ys
unfolding xor_bytes
take-xor zero xs ys = refl
take-xor (suc n) [] ys = refl
take-xor (suc n) (x ∷ xs) [] = refl
take-xor (suc n) (x ∷ xs) (y ∷ ys) = ap (λ (v : List ℕ). bit_xor x y ∷ v) (take-xor n xs ys)

-- zeros in front say nothing
pub zeros_first : (n : ℕ) (bs : List ℕ) → number_of (replicate n 0 ++ bs) ≡ number_of bs
zeros_first zero bs = refl
zeros_first (suc n) bs = zeros_first n bs

-- where all 16 bytes are there
pub stored_whole : (at x : ℕ) (bs : List ℕ) → at + 16 ≤ length bs → stored_at at x bs ≡ take at bs ++ (bytes_of 16 x ++ drop (at + 16) bs)
unfolding stored_at
stored_whole at x bs h =
    let l = length_bytes 16 x in
    ap (λ (v : List ℕ). take at bs ++ (v ++ drop (at + 16) bs)) (take_all (length bs - at) (bytes_of 16 x) (omega arith))
