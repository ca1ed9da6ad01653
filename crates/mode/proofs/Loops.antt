-- Loops that write along a slice: their steps and ends.
use Rattle.std.proofs.Common.{◌≡◌, ℕ, zero, suc, ◌+◌, ◌*◌, ◌<◌, List, [], ◌++◌, get_or, take, drop, sym, refl, ap, ◌∙◌, ap₂, append_assoc, add-one, arith}
use lib.Bits.{bit_xor}
use Rattle.std.specs.Simd.{first_chunks}
use Rattle.std.proofs.lemmas.List.{take_at, drop_at, drop-drop, take-take}
use Rattle.block.specs.Bytes.{bytes_of, number_of, block_at}
use Rattle.block.specs.Cut.{through, sum_of}
use Rattle.masking.specs.Steps.{times}
use Rattle.block.specs.CutLaws.{length-through, block-before}
use Rattle.mode.specs.Sealing.{Maps, masked}

-- block i of the blocks that a string is cut into
pub chunk_is : (n i : ℕ) (bs d : List ℕ) → i < n → get_or (first_chunks 16 n bs) i d ≡ take 16 (drop (16 * i) bs)
chunk_is zero i bs d h = absurd (omega arith)
chunk_is (suc n) zero bs d h = refl
chunk_is (suc n) (suc i) bs d h =
    let next : 16 + 16 * i ≡ 16 * suc i = omega arith in
    chunk_is n i (drop 16 bs) d (omega arith) ∙ ap (take 16) (drop-drop (16 * i) 16 bs ∙ ap (λ (k : ℕ). drop k bs) next)

-- a chunk of the blocks before the last is a block of the string
pub chunk_at : (n k i : ℕ) (bs front : List ℕ) (chunks : List (List ℕ)) → front ≡ take (16 * n) bs → chunks ≡ first_chunks 16 k front → i < k → i < n
    → block_at 0 (get_or chunks i []) ≡ block_at (16 * i) bs
chunk_at n k i bs front chunks f c h l =
    let same : take (16 * n) front ≡ take (16 * n) bs = ap (take (16 * n)) f ∙ take-take (16 * n) (16 * n) bs (omega arith) in
    ap (λ (v : List (List ℕ)). block_at 0 (get_or v i [])) c
    ∙ ap (block_at 0) (chunk_is k i front [] h)
    ∙ ap number_of (take-take 16 16 (drop (16 * i) front) (omega arith))
    ∙ block-before n i front bs same l

-- one more block

pub through_more : (f : ℕ → ℕ → ℕ) (n : ℕ) (bs : List ℕ) → through f (n + 1) bs ≡ through f n bs ++ bytes_of 16 (f n (block_at (16 * n) bs))
unfolding through
through_more f n bs = ap (λ (m : ℕ). through f m bs) (add-one n)

pub through_none : (f : ℕ → ℕ → ℕ) (bs o : List ℕ) → o ≡ through f 0 bs ++ o
unfolding through
through_none f bs o = refl

pub sum_none : (f : ℕ → ℕ → ℕ) (bs : List ℕ) → 0 ≡ sum_of f 0 bs
unfolding sum_of
sum_none f bs = refl

pub times_none : (d : ℕ → ℕ) (s : ℕ) → s ≡ times d 0 s
unfolding times
times_none d s = refl

-- written over the next place
pub through_again : (f : ℕ → ℕ → ℕ) (n y : ℕ) (bs o₀ o o' : List ℕ) → o ≡ through f n bs ++ drop (16 * n) o₀
    → o' ≡ take (16 * n) o ++ (bytes_of 16 y ++ drop (16 * n + 16) o) → y ≡ f n (block_at (16 * n) bs)
    → o' ≡ through f (n + 1) bs ++ drop (16 * (n + 1)) o₀
through_again f n y bs o₀ o o' e w v =
    let m = length-through f n bs in
    let p : List ℕ = through f n bs in
    let front : take (16 * n) o ≡ p = ap (take (16 * n)) e ∙ take_at p (drop (16 * n) o₀) (16 * n) m in
    let rest : drop (16 * n) o ≡ drop (16 * n) o₀ = ap (drop (16 * n)) e ∙ drop_at p (drop (16 * n) o₀) (16 * n) m in
    let past : drop (16 * n + 16) o ≡ drop (16 * n + 16) o₀ =
    sym (drop-drop 16 (16 * n) o) ∙ ap (drop 16) rest ∙ drop-drop 16 (16 * n) o₀ in
    let next : 16 * n + 16 ≡ 16 * (n + 1) = omega arith in
    w ∙ ap₂ (λ (a b : List ℕ). a ++ b) front (ap₂ (λ (a b : List ℕ). a ++ b) (ap (bytes_of 16) v) (past ∙ ap (λ (k : ℕ). drop k o₀) next))
    ∙ sym (append_assoc p (bytes_of 16 (f n (block_at (16 * n) bs))) (drop (16 * (n + 1)) o₀))
    ∙ ap (λ (a : List ℕ). a ++ drop (16 * (n + 1)) o₀) (sym (through_more f n bs))

pub sum_again : (f : ℕ → ℕ → ℕ) (n s y : ℕ) (bs : List ℕ) → s ≡ sum_of f n bs → y ≡ f n (block_at (16 * n) bs) → bit_xor s y ≡ sum_of f (n + 1) bs
unfolding sum_of
sum_again f n s y bs e v = ap₂ (λ (a b : ℕ). bit_xor a b) e v ∙ sym (ap (λ (m : ℕ). sum_of f m bs) (add-one n))

pub times_again : (d : ℕ → ℕ) (n s m r : ℕ) → m ≡ times d n s → r ≡ d m → r ≡ times d (n + 1) s
unfolding times
times_again d n s m r e q = q ∙ ap d e ∙ sym (ap (λ (k : ℕ). times d k s) (add-one n))

-- a block between two masks
pub masked_again : (w : Maps) (e : ℕ → ℕ) (s i x b m r : ℕ) → m ≡ times w.step (i + 1) s → x ≡ b → r ≡ e (bit_xor x m) → bit_xor r m ≡ masked w e s i b
unfolding masked
masked_again w e s i x b m r p q v =
    let p' : m ≡ times w.step (suc i) s = p ∙ ap (λ (k : ℕ). times w.step k s) (add-one i) in
    ap (λ (k : ℕ). bit_xor k m) v ∙ ap₂ (λ (k z : ℕ). bit_xor (e (bit_xor z k)) k) p' q
