-- Laws of blocks, pieces, sums and fillings.
use Rattle.std.specs.Prelude.{◌≡◌, ℕ, zero, suc, ◌+◌, ◌-◌, ◌*◌, ◌/◌, ◌^◌, ◌<◌, ◌≤◌, ◌≢◌, ◌⊎◌, List, ◌∷◌, ◌++◌, length, take, drop, replicate, bit_xor, slice_index, refl}
use Rattle.std.proofs.Common.{sym, ap, ap₂, subst, ◌∙◌, append_assoc, inl, inr, ⊎_elim, arith, length-drop, length-append, length-take, take-add, ext_get_or, get_or-take, get_or-drop}
use Rattle.std.proofs.lemmas.Nat.{xor_lt}
use Rattle.std.proofs.Math.Seq.{take-append-add, drop-append-add}
use Rattle.std.proofs.lemmas.Bool.{cases_lt}
use Rattle.std.proofs.lemmas.List.{take_at, drop_at, drop-drop, take-take, drop-take, take-append-drop, length-take-le, append_cancel_left}
use Rattle.block.specs.Bytes.{Bytes, none, more, bytes_of, number_of, block_at, xor_bytes}
use Rattle.block.specs.BytesLaws.{length_bytes, number_bytes, bytes_read, bytes_take, bytes_drop, bytes_append, bytes_replicate, bytes_of_lem, number_same, at_most, short_fits, block_fits, take-xor, bytes_of_xor}
use Rattle.block.specs.Xor.{xor_cancel_right, xor_cancel_left}
use Rattle.block.specs.Cut.{before, block_count, last_bits, last_of, fill_with, through, sum_of, OneBlock}

-- fillings

long_enough : (b : ℕ) (bs : List ℕ) → length (take 16 (bs ++ b ∷ replicate 15 0)) ≡ 16
long_enough b bs = length-take-le 16 (bs ++ b ∷ replicate 15 0) (let e = length-append bs (b ∷ replicate 15 0) in omega arith)

fill_bytes : (b : ℕ) (bs : List ℕ) → b < 256 → Bytes bs → Bytes (take 16 (bs ++ b ∷ replicate 15 0))
fill_bytes b bs h k = bytes_take 16 (bs ++ b ∷ replicate 15 0) (bytes_append bs (b ∷ replicate 15 0) k (more h (bytes_replicate 15 0 (omega arith))))

pub fill_fits : (b : ℕ) (bs : List ℕ) → b < 256 → Bytes bs → fill_with b bs < 2 ^ 128
unfolding fill_with
fill_fits b bs h k = short_fits (take 16 (bs ++ b ∷ replicate 15 0)) (fill_bytes b bs h k) (at_most 16 (bs ++ b ∷ replicate 15 0))

fill_front : (b : ℕ) (bs : List ℕ) → length bs ≤ 16 → take (length bs) (take 16 (bs ++ b ∷ replicate 15 0)) ≡ bs
fill_front b bs l = take-take (length bs) 16 (bs ++ b ∷ replicate 15 0) l ∙ take_at bs (b ∷ replicate 15 0) (length bs) refl

pub fill_same : (b : ℕ) (xs ys : List ℕ) → b < 256 → Bytes xs → Bytes ys → length xs ≡ length ys → length xs ≤ 16 → fill_with b xs ≡ fill_with b ys → xs ≡ ys
unfolding fill_with
fill_same b xs ys h p q l s e =
    let f : take 16 (xs ++ b ∷ replicate 15 0) ≡ take 16 (ys ++ b ∷ replicate 15 0) =
    number_same (take 16 (xs ++ b ∷ replicate 15 0)) (take 16 (ys ++ b ∷ replicate 15 0)) (fill_bytes b xs h p) (fill_bytes b ys h q)
    (long_enough b xs ∙ sym (long_enough b ys)) e in
    sym (fill_front b xs s) ∙ ap₂ (λ (n : ℕ) (v : List ℕ). take n v) l f ∙ fill_front b ys (omega arith)

-- blocks

pub block-before : (k i : ℕ) (xs ys : List ℕ) → take (16 * k) xs ≡ take (16 * k) ys → i < k → block_at (16 * i) xs ≡ block_at (16 * i) ys
block-before k i xs ys e l =
    let way : (v : List ℕ) → take 16 (drop (16 * i) v) ≡ drop (16 * i) (take (16 * i + 16) (take (16 * k) v)) =
    λ v. sym (drop-take (16 * i) 16 v) ∙ ap (drop (16 * i)) (sym (take-take (16 * i + 16) (16 * k) v (omega arith))) in
    ap number_of (way xs ∙ ap (λ (v : List ℕ). drop (16 * i) (take (16 * i + 16) v)) e ∙ sym (way ys))

pub drop_after : (k i : ℕ) (xs ys : List ℕ) → drop (16 * k + 16) xs ≡ drop (16 * k + 16) ys → k < i → drop (16 * i) xs ≡ drop (16 * i) ys
drop_after k i xs ys e l =
    let n : 16 * k + 16 + (16 * i - (16 * k + 16)) ≡ 16 * i = omega arith in
    let way : (v : List ℕ) → drop (16 * i) v ≡ drop (16 * i - (16 * k + 16)) (drop (16 * k + 16) v) =
    λ v. ap (λ (m : ℕ). drop m v) (sym n) ∙ sym (drop-drop (16 * i - (16 * k + 16)) (16 * k + 16) v) in
    way xs ∙ ap (drop (16 * i - (16 * k + 16))) e ∙ sym (way ys)

pub block_after : (k i : ℕ) (xs ys : List ℕ) → drop (16 * k + 16) xs ≡ drop (16 * k + 16) ys → k < i → block_at (16 * i) xs ≡ block_at (16 * i) ys
block_after k i xs ys e l = ap (λ (v : List ℕ). number_of (take 16 v)) (drop_after k i xs ys e l)

length-block : (k : ℕ) (xs : List ℕ) → k + 16 ≤ length xs → length (take 16 (drop k xs)) ≡ 16
length-block k xs l = length-take-le 16 (drop k xs) (let d = length-drop k xs in omega arith)

pub block_same : (k : ℕ) (xs ys : List ℕ) → Bytes xs → Bytes ys → k + 16 ≤ length xs → k + 16 ≤ length ys
    → block_at k xs ≡ block_at k ys → take 16 (drop k xs) ≡ take 16 (drop k ys)
block_same k xs ys p q l m e =
    number_same (take 16 (drop k xs)) (take 16 (drop k ys)) (bytes_take 16 (drop k xs) (bytes_drop k xs p)) (bytes_take 16 (drop k ys) (bytes_drop k ys q))
    (length-block k xs l ∙ sym (length-block k ys m)) e

-- a block that is read and written again
pub block_again : (k : ℕ) (bs : List ℕ) → Bytes bs → k + 16 ≤ length bs → bytes_of 16 (block_at k bs) ≡ take 16 (drop k bs)
block_again k bs h l =
    ap (λ (m : ℕ). bytes_of m (block_at k bs)) (sym (length-block k bs l)) ∙ bytes_read 0 (take 16 (drop k bs)) (bytes_take 16 (drop k bs) (bytes_drop k bs h))

-- a string in three parts: before block k, block k, after it
in_three : (k : ℕ) (v : List ℕ) → v ≡ take k v ++ (take 16 (drop k v) ++ drop (k + 16) v)
in_three k v =
    sym (take-append-drop k v)
    ∙ ap (λ (w : List ℕ). take k v ++ w) (sym (take-append-drop 16 (drop k v)) ∙ ap (λ (w : List ℕ). take 16 (drop k v) ++ w) (drop-drop 16 k v))

-- through

pub length-through : (f : ℕ → ℕ → ℕ) (n : ℕ) (bs : List ℕ) → length (through f n bs) ≡ 16 * n
unfolding through
length-through f zero bs = refl
length-through f (suc n) bs =
    let e = length-through f n bs in
    let b = length_bytes 16 (f n (block_at (16 * n) bs)) in
    length-append (through f n bs) (bytes_of 16 (f n (block_at (16 * n) bs))) ∙ omega arith

pub bytes_through : (f : ℕ → ℕ → ℕ) (n : ℕ) (bs : List ℕ) → Bytes (through f n bs)
unfolding through
bytes_through f zero bs = none
bytes_through f (suc n) bs = bytes_append (through f n bs) (bytes_of 16 (f n (block_at (16 * n) bs))) (bytes_through f n bs) (bytes_of_lem 16 (f n (block_at (16 * n) bs)))

-- block k of the first n, which are followed by any rest
there : (f : ℕ → ℕ → ℕ) (n k : ℕ) (bs rest : List ℕ) → k < n → take 16 (drop (16 * k) (through f n bs ++ rest)) ≡ bytes_of 16 (f k (block_at (16 * k) bs))
unfolding through
there f zero k bs rest h = absurd (omega arith)
there f (suc n) k bs rest h =
    let a : through f n bs ++ bytes_of 16 (f n (block_at (16 * n) bs)) ++ rest ≡ through f n bs ++ (bytes_of 16 (f n (block_at (16 * n) bs)) ++ rest) =
    append_assoc (through f n bs) (bytes_of 16 (f n (block_at (16 * n) bs))) rest in
    ap (λ (v : List ℕ). take 16 (drop (16 * k) v)) a
    ∙ ⊎_elim (λ l. there f n k bs (bytes_of 16 (f n (block_at (16 * n) bs)) ++ rest) l)
    (λ g.
    let e : k ≡ n = omega arith in
    ap (take 16) (drop_at (through f n bs) (bytes_of 16 (f n (block_at (16 * n) bs)) ++ rest) (16 * k) (length-through f n bs ∙ ap (λ (m : ℕ). 16 * m) (sym e)))
    ∙ take_at (bytes_of 16 (f n (block_at (16 * n) bs))) rest 16 (length_bytes 16 (f n (block_at (16 * n) bs)))
    ∙ ap (λ (m : ℕ). bytes_of 16 (f m (block_at (16 * m) bs))) (sym e))
    (cases_lt k n)

abbrev pub Fits : (ℕ → ℕ → ℕ) → Type 0
Fits f = (i x : ℕ) → x < 2 ^ 128 → f i x < 2 ^ 128

pub block-through : (f : ℕ → ℕ → ℕ) → Fits f → (n k : ℕ) (bs rest : List ℕ) → Bytes bs → k < n
    → block_at (16 * k) (through f n bs ++ rest) ≡ f k (block_at (16 * k) bs)
block-through f fits n k bs rest h l =
    ap number_of (there f n k bs rest l) ∙ number_bytes 16 (f k (block_at (16 * k) bs)) (fits k (block_at (16 * k) bs) (block_fits (16 * k) bs h))

pub through_undo : (f g : ℕ → ℕ → ℕ) → Fits f → ((i x : ℕ) → x < 2 ^ 128 → g i (f i x) ≡ x)
    → (n k : ℕ) (bs rest : List ℕ) → Bytes bs → 16 * n ≤ length bs → k ≤ n → through g k (through f n bs ++ rest) ≡ take (16 * k) bs
unfolding through
through_undo f g fits back n zero bs rest h l le = refl
through_undo f g fits back n (suc k) bs rest h l le =
    let small : block_at (16 * k) bs < 2 ^ 128 = block_fits (16 * k) bs h in
    let u : g k (block_at (16 * k) (through f n bs ++ rest)) ≡ block_at (16 * k) bs =
    ap (g k) (block-through f fits n k bs rest h le) ∙ back k (block_at (16 * k) bs) small in
    let s : 16 * k + 16 ≡ 16 * suc k = omega arith in
    ap₂ (λ (a b : List ℕ). a ++ b) (through_undo f g fits back n k bs rest h l (omega arith)) (ap (bytes_of 16) u ∙ block_again (16 * k) bs h (omega arith))
    ∙ sym (take-add (16 * k) 16 bs) ∙ ap (λ (m : ℕ). take m bs) s

-- sums

pub sum_fits : (f : ℕ → ℕ → ℕ) → Fits f → (n : ℕ) (bs : List ℕ) → Bytes bs → sum_of f n bs < 2 ^ 128
unfolding sum_of
sum_fits f fits zero bs h = omega arith
sum_fits f fits (suc n) bs h =
    xor_lt 128 (sum_of f n bs) (f n (block_at (16 * n) bs)) (sum_fits f fits n bs h) (fits n (block_at (16 * n) bs) (block_fits (16 * n) bs h))

pub sum_same : (f g : ℕ → ℕ → ℕ) (n : ℕ) (xs ys : List ℕ) → ((i : ℕ) → i < n → f i (block_at (16 * i) xs) ≡ g i (block_at (16 * i) ys)) → sum_of f n xs ≡ sum_of g n ys
unfolding sum_of
sum_same f g zero xs ys h = refl
sum_same f g (suc n) xs ys h = ap₂ (λ (a b : ℕ). bit_xor a b) (sum_same f g n xs ys (λ i l. h i (omega arith))) (h n (omega arith))

-- where all terms but one agree, that one agrees if the sums do
pub sum_one : (f : ℕ → ℕ → ℕ) (n k : ℕ) (xs ys : List ℕ) → k < n
    → ((i : ℕ) → i < k → block_at (16 * i) xs ≡ block_at (16 * i) ys) → ((i : ℕ) → k < i → block_at (16 * i) xs ≡ block_at (16 * i) ys)
    → sum_of f n xs ≡ sum_of f n ys → f k (block_at (16 * k) xs) ≡ f k (block_at (16 * k) ys)
unfolding sum_of
sum_one f zero k xs ys l p q e = absurd (omega arith)
sum_one f (suc n) k xs ys l p q e =
    ⊎_elim
    (λ m.
    let last : f n (block_at (16 * n) xs) ≡ f n (block_at (16 * n) ys) = ap (f n) (q n m) in
    sum_one f n k xs ys m p q
    (xor_cancel_right (sum_of f n xs) (sum_of f n ys) (f n (block_at (16 * n) xs)) (e ∙ ap (bit_xor (sum_of f n ys)) (sym last))))
    (λ m.
    let at : n ≡ k = omega arith in
    let first : sum_of f n xs ≡ sum_of f n ys = sum_same f f n xs ys (λ i s. ap (f i) (p i (omega arith))) in
    let P : ℕ → Type 0 = λ j. f j (block_at (16 * j) xs) ≡ f j (block_at (16 * j) ys) in
    subst P at
    (xor_cancel_left (sum_of f n xs) (f n (block_at (16 * n) xs)) (f n (block_at (16 * n) ys)) (e ∙ ap (λ (s : ℕ). bit_xor s (f n (block_at (16 * n) ys))) (sym first))))
    (cases_lt k n)

-- the sum of the blocks before the last, through maps that lose nothing, and of the last, filled, tells strings apart that differ inside one block
pub sum_tells : (f : ℕ → ℕ → ℕ) → ((i x y : ℕ) → x < 2 ^ 128 → y < 2 ^ 128 → f i x ≡ f i y → x ≡ y)
    → (b : ℕ) → b < 256 → (xs ys : List ℕ) → Bytes xs → Bytes ys → OneBlock xs ys
    → bit_xor (sum_of f (before (length xs)) xs) (fill_with b (last_of xs)) ≢ bit_xor (sum_of f (before (length ys)) ys) (fill_with b (last_of ys))
sum_tells f inj b small xs ys hx hy o e =
    let k : ℕ = o.place in
    let n : ℕ = before (length xs) in
    let ll = o.long in
    let N : before (length ys) ≡ before (length xs) = ap before (sym o.long) in
    let e' : bit_xor (sum_of f (before (length xs)) xs) (fill_with b (drop (16 * before (length xs)) xs)) ≡ bit_xor (sum_of f (before (length xs)) ys) (fill_with b (drop (16 * before (length xs)) ys)) =
    e ∙ ap (λ (m : ℕ). bit_xor (sum_of f m ys) (fill_with b (drop (16 * m) ys))) N in
    ⊎_elim
    (λ (l : o.place < before (length xs)).
    let last : drop (16 * before (length xs)) xs ≡ drop (16 * before (length xs)) ys = drop_after o.place (before (length xs)) xs ys o.rest l in
    let sums : sum_of f (before (length xs)) xs ≡ sum_of f (before (length xs)) ys =
    xor_cancel_right (sum_of f (before (length xs)) xs) (sum_of f (before (length xs)) ys) (fill_with b (drop (16 * before (length xs)) xs))
    (e' ∙ ap (λ (v : List ℕ). bit_xor (sum_of f (before (length xs)) ys) (fill_with b v)) (sym last)) in
    let one : f o.place (block_at (16 * o.place) xs) ≡ f o.place (block_at (16 * o.place) ys) =
    sum_one f (before (length xs)) o.place xs ys l (λ i s. block-before o.place i xs ys o.front s) (λ i s. block_after o.place i xs ys o.rest s) sums in
    let at : block_at (16 * o.place) xs ≡ block_at (16 * o.place) ys =
    inj o.place (block_at (16 * o.place) xs) (block_at (16 * o.place) ys) (block_fits (16 * o.place) xs hx) (block_fits (16 * o.place) ys hy) one in
    let mid : take 16 (drop (16 * o.place) xs) ≡ take 16 (drop (16 * o.place) ys) =
    block_same (16 * o.place) xs ys hx hy (omega arith) (omega arith) at in
    o.unequal
    (in_three (16 * o.place) xs
    ∙ ap₂ (λ (u v : List ℕ). u ++ v) o.front (ap₂ (λ (u v : List ℕ). u ++ v) mid o.rest)
    ∙ sym (in_three (16 * o.place) ys)))
    (λ (l : before (length xs) ≤ o.place).
    let sums : sum_of f (before (length xs)) xs ≡ sum_of f (before (length xs)) ys =
    sum_same f f (before (length xs)) xs ys (λ i s. ap (f i) (block-before o.place i xs ys o.front (omega arith))) in
    let fills : fill_with b (drop (16 * before (length xs)) xs) ≡ fill_with b (drop (16 * before (length xs)) ys) =
    xor_cancel_left (sum_of f (before (length xs)) xs) (fill_with b (drop (16 * before (length xs)) xs)) (fill_with b (drop (16 * before (length xs)) ys))
    (e' ∙ ap (λ (s : ℕ). bit_xor s (fill_with b (drop (16 * before (length xs)) ys))) (sym sums)) in
    let lx = length-drop (16 * before (length xs)) xs in
    let ly = length-drop (16 * before (length xs)) ys in
    let last : drop (16 * before (length xs)) xs ≡ drop (16 * before (length xs)) ys =
    fill_same b (drop (16 * before (length xs)) xs) (drop (16 * before (length xs)) ys) small
    (bytes_drop (16 * before (length xs)) xs hx) (bytes_drop (16 * before (length xs)) ys hy) (omega arith) (omega arith) fills in
    let t : (v : List ℕ) → take (16 * before (length xs)) (take (16 * o.place) v) ≡ take (16 * before (length xs)) v =
    λ v. take-take (16 * before (length xs)) (16 * o.place) v (omega arith) in
    let front : take (16 * before (length xs)) xs ≡ take (16 * before (length xs)) ys =
    sym (t xs) ∙ ap (take (16 * before (length xs))) o.front ∙ t ys in
    o.unequal
    (sym (take-append-drop (16 * before (length xs)) xs)
    ∙ ap₂ (λ (u v : List ℕ). u ++ v) front last
    ∙ take-append-drop (16 * before (length xs)) ys))
    (cases_lt o.place (before (length xs)))

-- blocks that count from the end of some whole blocks in front
pub one_block_after : (n : ℕ) (head xs ys : List ℕ) → length head ≡ 16 * n → OneBlock xs ys → OneBlock (head ++ xs) (head ++ ys)
one_block_after n head xs ys l o =
    let k : ℕ = o.place in
    let a : length head + 16 * o.place ≡ 16 * (n + o.place) = omega arith in
    let b : length head + (16 * o.place + 16) ≡ 16 * (n + o.place) + 16 = omega arith in
    let front : (v : List ℕ) → take (16 * (n + o.place)) (head ++ v) ≡ head ++ take (16 * o.place) v =
    λ v. ap (λ (m : ℕ). take m (head ++ v)) (sym a) ∙ take-append-add head v (16 * o.place) in
    let rest : (v : List ℕ) → drop (16 * (n + o.place) + 16) (head ++ v) ≡ drop (16 * o.place + 16) v =
    λ v. ap (λ (m : ℕ). drop m (head ++ v)) (sym b) ∙ drop-append-add head v (16 * o.place + 16) in
    record {
      long = length-append head xs ∙ ap (λ (m : ℕ). length head + m) o.long ∙ sym (length-append head ys);
      place = n + o.place;
      front = front xs ∙ ap (λ (v : List ℕ). head ++ v) o.front ∙ sym (front ys);
      rest = rest xs ∙ o.rest ∙ sym (rest ys);
      unequal = λ e. o.unequal (append_cancel_left head xs ys e);
    }

-- equal bytes at every place outside one block, said by places
pub one_block_from : (k : ℕ) (xs ys : List ℕ) → length xs ≡ length ys → ((i : ℕ) → (i < 16 * k) ⊎ (16 * k + 16 ≤ i) → slice_index xs i ≡ slice_index ys i) → xs ≢ ys → OneBlock xs ys
one_block_from k xs ys l h u =
    let tx = length-take (16 * k) xs in
    let ty = length-take (16 * k) ys in
    let dx = length-drop (16 * k + 16) xs in
    let dy = length-drop (16 * k + 16) ys in
    record {
      long = l;
      place = k;
      front = ext_get_or 0 (take (16 * k) xs) (take (16 * k) ys) (omega arith)
          (λ i s. let s' : i < 16 * k = omega arith in get_or-take (16 * k) xs i 0 s' ∙ h i (inl s') ∙ sym (get_or-take (16 * k) ys i 0 s'));
      rest = ext_get_or 0 (drop (16 * k + 16) xs) (drop (16 * k + 16) ys) (omega arith)
          (λ i s. get_or-drop (16 * k + 16) xs i 0 ∙ h (16 * k + 16 + i) (inr (omega arith)) ∙ sym (get_or-drop (16 * k + 16) ys i 0));
      unequal = u;
    }

fill_back : (b : ℕ) (piece : List ℕ) → b < 256 → Bytes piece → bytes_of 16 (fill_with b piece) ≡ take 16 (piece ++ b ∷ replicate 15 0)
unfolding fill_with
fill_back b piece h k =
    ap (λ (m : ℕ). bytes_of m (number_of (take 16 (piece ++ b ∷ replicate 15 0)))) (sym (long_enough b piece)) ∙ bytes_read 0 (take 16 (piece ++ b ∷ replicate 15 0)) (fill_bytes b piece h k)

-- a piece with the pad, byte by byte, is the first bytes of the filled block with the pad
pub piece_is : (b pad : ℕ) (piece : List ℕ) → b < 256 → Bytes piece → length piece ≤ 16
    → xor_bytes piece (bytes_of 16 pad) ≡ take (length piece) (bytes_of 16 (bit_xor (fill_with b piece) pad))
piece_is b pad piece h k l =
    ap (λ (v : List ℕ). xor_bytes v (bytes_of 16 pad)) (sym (fill_front b piece l) ∙ ap (take (length piece)) (sym (fill_back b piece h k)))
    ∙ sym (take-xor (length piece) (bytes_of 16 (fill_with b piece)) (bytes_of 16 pad))
    ∙ ap (take (length piece)) (sym (bytes_of_xor 16 (fill_with b piece) pad))

-- one block for the empty string, else the length over 16, rounded up
pub count_none : block_count 0 ≡ 1
count_none = refl

pub count_some : (len : ℕ) → 0 < len → block_count len ≡ (len + 15) / 16
count_some len h = omega arith

pub bits_some : (len : ℕ) → 0 < len → (8 ≤ last_bits len) × (last_bits len ≤ 128) × (8 * len ≡ 128 * before len + last_bits len)
bits_some len h = (omega arith, omega arith, omega arith)

-- unequal bytes spell unequal numbers
pub numbers_tell : (xs ys : List ℕ) → Bytes xs → Bytes ys → OneBlock xs ys → number_of xs ≢ number_of ys
numbers_tell xs ys h k o e = o.unequal (number_same xs ys h k o.long e)
