-- What reading and writing near the end of a slice comes to.
use Rattle.std.proofs.Common.{◌≡◌, ℕ, suc, ◌+◌, ◌-◌, ◌*◌, ◌/◌, ◌%◌, ◌<◌, ◌≤◌, List, [], ◌∷◌, ◌++◌, length, get_or, take, drop, set, replicate, sym, refl, ap, ◌∙◌, ap₂, append_assoc, arith, length-append, length-drop}
use borrow.Rule.Slice.PartMut.{put_mid}
use lib.ListN.{length-replicate}
use lib.Seq.{set_at, take-append-add}
use Rattle.std.proofs.lemmas.List.{take_all, drop_all, append-nil, drop-drop, take_at, drop_at, take_rest, take-append-le, take-take, take-replicate, drop-replicate, length-take-le}
use Rattle.std.proofs.lemmas.Slice.{put_mid-paste}
use Rattle.block.specs.Bytes.{Bytes, none, more, bytes_of, number_of, block_at, stored_at}
use Rattle.block.specs.BytesLaws.{zeros_first, stored_whole, length_bytes, bytes_read}
use Rattle.block.specs.Cut.{fill_with}

-- a short tail, written at the end of a block of zeros
pub loaded_tail : (at room : ℕ) (bs p block : List ℕ) → room ≡ length bs - at → room < 16 → p ≡ take (length bs - at) (drop at bs)
    → block ≡ put_mid (16 - room) (16 - (16 - room)) (replicate 16 0) p → block_at 0 block ≡ block_at at bs
loaded_tail at room bs p block r s e w =
    let q : p ≡ drop at bs = e ∙ take_rest bs at in
    let d = length-drop at bs in
    let lp : length p ≡ room = ap length q ∙ omega arith in
    let front : take (16 - room) (replicate 16 0) ≡ replicate (16 - room) 0 = take-replicate (16 - room) 16 0 (omega arith) in
    let dl : length (drop (16 - room) (replicate {A = ℕ} 16 0)) ≡ 16 - (16 - room) = length-drop (16 - room) (replicate 16 0) in
    let rest : drop (16 - (16 - room)) (drop (16 - room) (replicate 16 0)) ≡ [] = drop_all (16 - (16 - room)) (drop (16 - room) (replicate 16 0)) (omega arith) in
    let b : block ≡ replicate (16 - room) 0 ++ p =
    w ∙ ap₂ (λ (u v : List ℕ). u ++ (p ++ v)) front rest ∙ ap (λ (v : List ℕ). replicate (16 - room) 0 ++ v) (append-nil p) in
    let lb = length-append (replicate (16 - room) 0) p in
    let lz : length (replicate {A = ℕ} (16 - room) 0) ≡ 16 - room = length-replicate (16 - room) 0 in
    let l : length (replicate (16 - room) 0 ++ p) ≤ 16 = omega arith in
    ap (λ (v : List ℕ). number_of (take 16 v)) b
    ∙ ap number_of (take_all 16 (replicate (16 - room) 0 ++ p) l)
    ∙ zeros_first (16 - room) p
    ∙ ap number_of (q ∙ sym (take_all 16 (drop at bs) (omega arith)))

-- the first 16 of what begins at a place
pub loaded_first : (at : ℕ) (bs rest whole : List ℕ) → rest ≡ take (length bs - at) (drop at bs) → whole ≡ take 16 rest → block_at 0 whole ≡ block_at at bs
loaded_first at bs rest whole r w =
    ap number_of (ap (take 16) w ∙ take-take 16 16 rest (omega arith) ∙ ap (take 16) (r ∙ take_rest bs at))

-- n bytes written over those from a place on
paste : (n at : ℕ) (bs p q : List ℕ) → at + n ≤ length bs → p ≡ q → length q ≡ n → put_mid at (at + n - at) bs p ≡ take at bs ++ (q ++ drop (at + n) bs)
paste n at bs p q h e l =
    let k : n ≡ at + n - at = omega arith in
    put_mid-paste at (at + n - at) bs p q n e k (sym l)
    ∙ ap (λ (v : List ℕ). take at bs ++ v ++ drop (at + n) bs) (take_all n q (omega arith))
    ∙ append_assoc (take at bs) q (drop (at + n) bs)

cons : {a b : ℕ} {u v : List ℕ} → a ≡ b → u ≡ v → a ∷ u ≡ b ∷ v
cons e f = ap₂ (λ (x : ℕ) (xs : List ℕ). x ∷ xs) e f

-- the bytes of a block are those of its two halves
halves : (x : ℕ) → bytes_of 8 (x / 18446744073709551616) ++ bytes_of 8 (x % 18446744073709551616) ≡ bytes_of 16 x
unfolding bytes_of
halves x =
    cons (omega arith) (cons (omega arith) (cons (omega arith) (cons (omega arith) (cons (omega arith) (cons (omega arith) (cons (omega arith) (cons (omega arith)
    (cons (omega arith) (cons (omega arith) (cons (omega arith) (cons (omega arith) (cons (omega arith) (cons (omega arith) (cons (omega arith) (cons (omega arith)
    refl)))))))))))))))

-- a word's bytes turned around and written the last first are its bytes
pub turned : (v r : ℕ) → r ≡ v % 256 * 72057594037927936 + v / 256 % 256 * 281474976710656 + v / 65536 % 256 * 1099511627776 + v / 16777216 % 256 * 4294967296 + v / 4294967296 % 256 * 16777216 + v / 1099511627776 % 256 * 65536 + v / 281474976710656 % 256 * 256 + v / 72057594037927936 % 256
    → (r % 256) ∷ (r / 256 % 256) ∷ (r / 65536 % 256) ∷ (r / 16777216 % 256) ∷ (r / 4294967296 % 256) ∷ (r / 1099511627776 % 256) ∷ (r / 281474976710656 % 256) ∷ (r / 72057594037927936 % 256) ∷ [] ≡ bytes_of 8 v
unfolding bytes_of
turned v r e =
    let digits : List ℕ = (v % 256) ∷ (v / 256 % 256) ∷ (v / 65536 % 256) ∷ (v / 16777216 % 256) ∷ (v / 4294967296 % 256) ∷ (v / 1099511627776 % 256) ∷ (v / 281474976710656 % 256) ∷ (v / 72057594037927936 % 256) ∷ [] in
    let fit : Bytes ((v % 256) ∷ (v / 256 % 256) ∷ (v / 65536 % 256) ∷ (v / 16777216 % 256) ∷ (v / 4294967296 % 256) ∷ (v / 1099511627776 % 256) ∷ (v / 281474976710656 % 256) ∷ (v / 72057594037927936 % 256) ∷ []) = more (omega arith) (more (omega arith) (more (omega arith) (more (omega arith) (more (omega arith) (more (omega arith) (more (omega arith) (more (omega arith) (none)))))))) in
    let same : r ≡ number_of ((v % 256) ∷ (v / 256 % 256) ∷ (v / 65536 % 256) ∷ (v / 16777216 % 256) ∷ (v / 4294967296 % 256) ∷ (v / 1099511627776 % 256) ∷ (v / 281474976710656 % 256) ∷ (v / 72057594037927936 % 256) ∷ []) = e ∙ omega arith in
    let all : bytes_of 8 r ≡ (v % 256) ∷ (v / 256 % 256) ∷ (v / 65536 % 256) ∷ (v / 16777216 % 256) ∷ (v / 4294967296 % 256) ∷ (v / 1099511627776 % 256) ∷ (v / 281474976710656 % 256) ∷ (v / 72057594037927936 % 256) ∷ [] = ap (bytes_of 8) same ∙ bytes_read 0 digits fit in
    cons (omega (arith, ap (λ (l : List ℕ). get_or l 7 0) all))
    (cons (omega (arith, ap (λ (l : List ℕ). get_or l 6 0) all))
    (cons (omega (arith, ap (λ (l : List ℕ). get_or l 5 0) all))
    (cons (omega (arith, ap (λ (l : List ℕ). get_or l 4 0) all))
    (cons (omega (arith, ap (λ (l : List ℕ). get_or l 3 0) all))
    (cons (omega (arith, ap (λ (l : List ℕ). get_or l 2 0) all))
    (cons (omega (arith, ap (λ (l : List ℕ). get_or l 1 0) all))
    (cons (omega (arith, ap (λ (l : List ℕ). get_or l 0 0) all))
    refl)))))))

-- written one after the other
pub stored_halves : (at x : ℕ) (bs p q : List ℕ) → at + 16 ≤ length bs → p ≡ bytes_of 8 (x / 18446744073709551616) → q ≡ bytes_of 8 (x % 18446744073709551616)
    → put_mid (at + 8) (at + 16 - (at + 8)) (put_mid at (at + 8 - at) bs p) q ≡ stored_at at x bs
stored_halves at x bs p q h e f =
    let left : List ℕ = bytes_of 8 (x / 18446744073709551616) in
    let right : List ℕ = bytes_of 8 (x % 18446744073709551616) in
    let l : length (bytes_of 8 (x / 18446744073709551616)) ≡ 8 = length_bytes 8 (x / 18446744073709551616) in
    let r : length (bytes_of 8 (x % 18446744073709551616)) ≡ 8 = length_bytes 8 (x % 18446744073709551616) in
    let front : List ℕ = take at bs in
    let one : List ℕ = take at bs ++ (bytes_of 8 (x / 18446744073709551616) ++ drop (at + 8) bs) in
    let first : put_mid at (at + 8 - at) bs p ≡ take at bs ++ (bytes_of 8 (x / 18446744073709551616) ++ drop (at + 8) bs) = paste 8 at bs p left (omega arith) e l in
    let lf : length (take at bs) ≡ at = length-take-le at bs (omega arith) in
    let ld = length-drop (at + 8) bs in
    let lj : length (take at bs ++ bytes_of 8 (x / 18446744073709551616)) ≡ at + 8 = length-append (take at bs) left ∙ omega arith in
    let grouped : take at bs ++ (bytes_of 8 (x / 18446744073709551616) ++ drop (at + 8) bs) ≡ (take at bs ++ bytes_of 8 (x / 18446744073709551616)) ++ drop (at + 8) bs =
    sym (append_assoc front left (drop (at + 8) bs)) in
    let lo : length (take at bs ++ (bytes_of 8 (x / 18446744073709551616) ++ drop (at + 8) bs)) ≡ length bs =
    ap length grouped ∙ length-append (take at bs ++ bytes_of 8 (x / 18446744073709551616)) (drop (at + 8) bs) ∙ omega arith in
    let begins : take (at + 8) (take at bs ++ (bytes_of 8 (x / 18446744073709551616) ++ drop (at + 8) bs)) ≡ take at bs ++ bytes_of 8 (x / 18446744073709551616) =
    ap (take (at + 8)) grouped ∙ take_at (take at bs ++ bytes_of 8 (x / 18446744073709551616)) (drop (at + 8) bs) (at + 8) lj in
    let past : drop (at + 8 + 8) (take at bs ++ (bytes_of 8 (x / 18446744073709551616) ++ drop (at + 8) bs)) ≡ drop (at + 16) bs =
    sym (drop-drop 8 (at + 8) one)
    ∙ ap (drop 8) (ap (drop (at + 8)) grouped ∙ drop_at (take at bs ++ bytes_of 8 (x / 18446744073709551616)) (drop (at + 8) bs) (at + 8) lj)
    ∙ drop-drop 8 (at + 8) bs ∙ ap (λ (n : ℕ). drop n bs) (omega arith) in
    let width : at + 16 - (at + 8) ≡ at + 8 + 8 - (at + 8) = omega arith in
    ap₂ (λ (n : ℕ) (v : List ℕ). put_mid (at + 8) n v q) width first
    ∙ paste 8 (at + 8) one q right (omega arith) f r
    ∙ ap₂ (λ (u v : List ℕ). u ++ (right ++ v)) begins past
    ∙ append_assoc front left (right ++ drop (at + 16) bs)
    ∙ ap (λ (v : List ℕ). front ++ v) (sym (append_assoc left right (drop (at + 16) bs)) ∙ ap (λ (v : List ℕ). v ++ drop (at + 16) bs) (halves x))
    ∙ sym (stored_whole at x bs h)

-- over a block of its own
pub stored_own : (x : ℕ) (was out : List ℕ) → length was ≡ 16 → out ≡ stored_at 0 x was → out ≡ bytes_of 16 x
stored_own x was out l e =
    e ∙ stored_whole 0 x was (omega arith) ∙ ap (λ (v : List ℕ). bytes_of 16 x ++ v) (drop_all 16 was (omega arith)) ∙ append-nil (bytes_of 16 x)

pub stored_tail : (at x room : ℕ) (bs written p : List ℕ) → room ≡ length bs - at → room < 16 → written ≡ bytes_of 16 x → p ≡ take (room - 0) (drop 0 written)
    → put_mid at (length bs - at) bs p ≡ stored_at at x bs
unfolding stored_at
stored_tail at x room bs written p r s w e =
    let d = length-drop at bs in
    let q : p ≡ take (length bs - at) (bytes_of 16 x) = e ∙ ap₂ (λ (n : ℕ) (v : List ℕ). take n v) (omega arith) w in
    ap₂ (λ (u v : List ℕ). take at bs ++ (u ++ v)) q
    (drop_all (length bs - at) (drop at bs) (omega arith) ∙ sym (drop_all (at + 16) bs (omega arith)))

pub stored_none : (at x : ℕ) (bs : List ℕ) → length bs ≤ at → bs ≡ stored_at at x bs
unfolding stored_at
stored_none at x bs h =
    let z : length bs - at ≡ 0 = omega arith in
    sym (ap₂ (λ (u v : List ℕ). u ++ v) (take_all at bs h)
    (ap₂ (λ (n : ℕ) (v : List ℕ). take n (bytes_of 16 x) ++ v) z (drop_all (at + 16) bs (omega arith)))
    ∙ append-nil bs)

-- a piece at the start of a block of zeros, and a byte after it
fill_short : (b : ℕ) (piece : List ℕ) → length piece < 16
    → set (piece ++ drop (length piece) (replicate 16 0)) (length piece) b ≡ take 16 (piece ++ b ∷ replicate 15 0)
fill_short b piece h =
    let k : 16 - length piece ≡ suc (15 - length piece) = omega arith in
    let d : drop (length piece) (replicate 16 0) ≡ 0 ∷ replicate (15 - length piece) 0 = drop-replicate (length piece) 16 0 ∙ ap (λ (m : ℕ). replicate m 0) k in
    let a : length piece + suc (15 - length piece) ≡ 16 = omega arith in
    ap (λ (v : List ℕ). set (piece ++ v) (length piece) b) d
    ∙ set_at piece 0 (replicate (15 - length piece) 0) b (length piece) refl
    ∙ ap (λ (v : List ℕ). piece ++ b ∷ v) (sym (take-replicate (15 - length piece) 15 0 (omega arith)))
    ∙ sym (take-append-add piece (b ∷ replicate 15 0) (suc (15 - length piece)))
    ∙ ap (λ (m : ℕ). take m (piece ++ b ∷ replicate 15 0)) a

long_enough : (b : ℕ) (piece : List ℕ) → length (take 16 (piece ++ b ∷ replicate 15 0)) ≡ 16
long_enough b piece = length-take-le 16 (piece ++ b ∷ replicate 15 0) (let e = length-append piece (b ∷ replicate 15 0) in omega arith)

pub filled_short : (b n : ℕ) (piece p : List ℕ) → n ≡ length piece → n < 16 → p ≡ take n piece → block_at 0 (set (p ++ drop n (replicate 16 0)) n b) ≡ fill_with b piece
unfolding fill_with
filled_short b n piece p m h q =
    let f : set (p ++ drop n (replicate 16 0)) n b ≡ take 16 (piece ++ b ∷ replicate 15 0) =
    ap (λ (v : List ℕ). set (v ++ drop n (replicate 16 0)) n b) (q ∙ take_all n piece (omega arith))
    ∙ ap (λ (k : ℕ). set (piece ++ drop k (replicate 16 0)) k b) m ∙ fill_short b piece (omega arith) in
    ap number_of (ap (take 16) f ∙ take_all 16 (take 16 (piece ++ b ∷ replicate 15 0)) (let l = long_enough b piece in omega arith))

pub filled_long : (b n : ℕ) (piece p rest : List ℕ) → n ≡ 16 → 16 ≤ length piece → p ≡ take n piece → block_at 0 (p ++ rest) ≡ fill_with b piece
unfolding fill_with
filled_long b n piece p rest m h q =
    let l = length-take-le 16 piece h in
    let q' : p ≡ take 16 piece = q ∙ ap (λ (k : ℕ). take k piece) m in
    ap number_of
    (ap (λ (v : List ℕ). take 16 (v ++ rest)) q' ∙ take_at (take 16 piece) rest 16 l ∙ sym (take-append-le 16 piece (b ∷ replicate 15 0) h))
