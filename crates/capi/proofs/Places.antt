-- Blocks written over places of a string: the one that fills it, and one after another in place.
use Rattle.std.proofs.Common.{◌≡◌, ℕ, ◌+◌, ◌*◌, ◌/◌, ◌≤◌, List, ◌++◌, length, take, drop, sym, refl, ap, ◌∙◌, ap₂, append_assoc, add-one, arith}
use Rattle.std.proofs.lemmas.List.{append-nil, drop_all, take_at, drop_at, drop-drop}
use Rattle.block.specs.Bytes.{number_of, bytes_of, block_at, stored_at}
use Rattle.block.specs.BytesLaws.{stored_whole}
use Rattle.block.specs.Cut.{through}
use Rattle.block.specs.CutLaws.{length-through}
use Rattle.capi.specs.Answers.{mapped}

-- over 16 bytes
pub fills : (x : ℕ) (was out : List ℕ) → length was ≡ 16 → out ≡ stored_at 0 x was → out ≡ bytes_of 16 x
fills x was out l e =
    e ∙ stored_whole 0 x was (omega arith) ∙ ap (λ (v : List ℕ). bytes_of 16 x ++ v) (drop_all 16 was (omega arith)) ∙ append-nil (bytes_of 16 x)

pub first : (f : ℕ → ℕ) (o : List ℕ) → o ≡ through (λ i. f) 0 o ++ drop 0 o
unfolding through
first f o = refl

through_more : (f : ℕ → ℕ) (n : ℕ) (bs : List ℕ) → through (λ i. f) (n + 1) bs ≡ through (λ i. f) n bs ++ bytes_of 16 (f (block_at (16 * n) bs))
unfolding through
through_more f n bs = ap (λ (m : ℕ). through (λ i. f) m bs) (add-one n)

-- a turn reads the block that it writes
pub again : (f : ℕ → ℕ) (n x y : ℕ) (was out new : List ℕ) → out ≡ through (λ i. f) n was ++ drop (16 * n) was → x ≡ block_at (16 * n) out → y ≡ f x
    → 16 * n + 16 ≤ length out → new ≡ stored_at (16 * n) y out → new ≡ through (λ i. f) (n + 1) was ++ drop (16 * (n + 1)) was
again f n x y was out new e r v l w =
    let front : List ℕ = through (λ i. f) n was in
    let long = length-through (λ i. f) n was in
    let begins : take (16 * n) out ≡ through (λ i. f) n was = ap (take (16 * n)) e ∙ take_at (through (λ i. f) n was) (drop (16 * n) was) (16 * n) long in
    let rest : drop (16 * n) out ≡ drop (16 * n) was = ap (drop (16 * n)) e ∙ drop_at (through (λ i. f) n was) (drop (16 * n) was) (16 * n) long in
    let next : 16 * n + 16 ≡ 16 * (n + 1) = omega arith in
    let past : drop (16 * n + 16) out ≡ drop (16 * (n + 1)) was =
    sym (drop-drop 16 (16 * n) out) ∙ ap (drop 16) rest ∙ drop-drop 16 (16 * n) was ∙ ap (λ (k : ℕ). drop k was) next in
    let made : y ≡ f (block_at (16 * n) was) = v ∙ ap f (r ∙ ap (λ (u : List ℕ). number_of (take 16 u)) rest) in
    w ∙ stored_whole (16 * n) y out l
    ∙ ap₂ (λ (a b : List ℕ). a ++ b) begins (ap₂ (λ (a b : List ℕ). a ++ b) (ap (bytes_of 16) made) past)
    ∙ sym (append_assoc (through (λ i. f) n was) (bytes_of 16 (f (block_at (16 * n) was))) (drop (16 * (n + 1)) was))
    ∙ ap (λ (a : List ℕ). a ++ drop (16 * (n + 1)) was) (sym (through_more f n was))

pub ends : (f : ℕ → ℕ) (n : ℕ) (was out : List ℕ) → n ≡ length was / 16 → out ≡ through (λ i. f) n was ++ drop (16 * n) was → out ≡ mapped f was
unfolding mapped
ends f n was out q e = e ∙ ap (λ (k : ℕ). through (λ i. f) k was ++ drop (16 * k) was) q
