-- Records written and read byte by byte, and one more record behind others.
use Rattle.std.proofs.Common.{◌≡◌, ℕ, suc, ◌+◌, ◌*◌, ◌/◌, ◌%◌, ◌<◌, List, [], ◌∷◌, ◌++◌, length, get_or, take, drop, sym, refl, ap, ◌∙◌, ap₂, append_assoc, div-one, arith, drop-cons, take-add, ℤ, w16, w8, Fits, SFits, to_z, of_z}
use Rattle.std.proofs.lemmas.List.{append-nil, take_more, drop_all}
use Rattle.std.proofs.lemmas.Int.{of_z-to_z, to_z-of_z}
pub use borrow.Author.Rules.{elem_Fits}
use Rattle.std.specs.Simd.{first_chunks}
use Rattle.block.specs.Bytes.{bytes_of}
use Rattle.block.specs.Bytes.Bytes.{none, more}
use Rattle.block.specs.BytesLaws.{bytes_read}
use Rattle.task.specs.declared.record.Offset.{Offset}
use Rattle.task.specs.Records.{record_of, packed}

pub written : (s : ℕ) (z : ℤ) → SFits w16 z → bytes_of 4 s ++ bytes_of 2 (of_z w16 z)
    ≡ s / 16777216 % 256 ∷ s / 65536 % 256 ∷ s / 256 % 256 ∷ s % 256 ∷ of_z w16 (to_z w16 (of_z w16 z)) / 256 % 256 ∷ of_z w16 (to_z w16 (of_z w16 z)) % 256 ∷ []
unfolding bytes_of
written s z fits = rw (to_z-of_z w16 z fits) (simp div-one)

-- a list of six, item by item
six : (bs : List ℕ) → length bs ≡ 6 → bs ≡ get_or bs 0 0 ∷ get_or bs 1 0 ∷ get_or bs 2 0 ∷ get_or bs 3 0 ∷ get_or bs 4 0 ∷ get_or bs 5 0 ∷ []
six bs long =
    let a = drop-cons bs 0 0 (omega arith) in
    let b = drop-cons bs 1 0 (omega arith) in
    let c = drop-cons bs 2 0 (omega arith) in
    let d = drop-cons bs 3 0 (omega arith) in
    let e = drop-cons bs 4 0 (omega arith) in
    let f = drop-cons bs 5 0 (omega arith) in
    let g : drop 6 bs ≡ [] = drop_all 6 bs (omega arith) in
    cc

four : (a b c d : ℕ) → a < 256 → b < 256 → c < 256 → d < 256 → bytes_of 4 (a * 16777216 + b * 65536 + c * 256 + d) ≡ a ∷ b ∷ c ∷ d ∷ []
four a b c d ha hb hc hd = ap (bytes_of 4) (omega arith) ∙ bytes_read 0 (a ∷ b ∷ c ∷ d ∷ []) (more ha (more hb (more hc (more hd none))))

two : (a b : ℕ) → a < 256 → b < 256 → bytes_of 2 (a * 256 + b) ≡ a ∷ b ∷ []
two a b ha hb = ap (bytes_of 2) (omega arith) ∙ bytes_read 0 (a ∷ b ∷ []) (more ha (more hb none))

-- the offset read from six bytes has them as its record; found by the read of the last byte
pub read : (bs : List ℕ) → length bs ≡ 6 → ((i : ℕ) → Fits w8 (get_or bs i 0)) → (get_or bs 5 0 ≡ get_or bs 5 0)
    × (bytes_of 4 (get_or bs 0 0 * 16777216 + get_or bs 1 0 * 65536 + get_or bs 2 0 * 256 + get_or bs 3 0) ++ bytes_of 2 (of_z w16 (to_z w16 (of_z w16 (to_z w16 (get_or bs 4 0 * 256 + get_or bs 5 0))))) ≡ bs)
read bs long fit =
    let small : (i : ℕ) → get_or bs i 0 < 256 = λ i. omega (arith, fit i) in
    let same = of_z-to_z w16 (get_or bs 4 0 * 256 + get_or bs 5 0) (omega (arith, small 4, small 5)) in
    (refl, rw (same, same) (ap₂ (λ (u v : List ℕ). u ++ v) (four _ _ _ _ (small 0) (small 1) (small 2) (small 3)) (two _ _ (small 4) (small 5)) ∙ sym (six bs long)))

-- that, with the bounds of an array's bytes
pub ruleset reading = (read, elem_Fits)

pub packed-append : (xs ys : List Offset) → packed (xs ++ ys) ≡ packed xs ++ packed ys
unfolding packed
packed-append [] ys = refl
packed-append (x ∷ xs) ys = ap (λ (v : List ℕ). record_of x ++ v) (packed-append xs ys) ∙ sym (append_assoc (record_of x) (packed xs) (packed ys))

pub packed_more : (xs : List Offset) (o : Offset) → packed (xs ++ o ∷ []) ≡ packed xs ++ record_of o
unfolding packed
packed_more xs o = packed-append xs (o ∷ []) ∙ ap (λ (v : List ℕ). packed xs ++ v) (append-nil (record_of o))

-- offsets of which each is the one of the next six bytes
pub unpacked : (os : List Offset) (bs : List ℕ) → ((i : ℕ) (d : Offset) → i < length os → record_of (get_or os i d) ≡ get_or (first_chunks 6 (length os) bs) i [])
    → packed os ≡ take (6 * length os) bs
unfolding packed
unpacked [] bs each = refl
unpacked (o ∷ os) bs each =
    let first : record_of o ≡ take 6 bs = each 0 o (omega arith) in
    let rest : packed os ≡ take (6 * length os) (drop 6 bs) = unpacked os (drop 6 bs) (λ i d h. each (suc i) d (omega arith)) in
    let n : 6 + 6 * length os ≡ 6 * suc (length os) = omega arith in
    ap₂ (λ (u v : List ℕ). u ++ v) first rest ∙ sym (take-add 6 (6 * length os) bs) ∙ ap (λ (k : ℕ). take k bs) n

-- the next record behind those of the offsets before, found by the read of its offset
pub packed_next : (os : List Offset) (i : ℕ) (d : Offset) → i < length os
    → (get_or os i d ≡ get_or os i d) × (packed (take (i + 1) os) ≡ packed (take i os) ++ record_of (get_or os i d))
packed_next os i d h = (refl, ap packed (take_more os i d h) ∙ packed_more (take i os) (get_or os i d))
