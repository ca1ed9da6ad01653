-- What the round keys that the code holds come to.
use Rattle.std.proofs.Common.{◌≡◌, ℕ, zero, suc, List, [], ◌∷◌, length, get_or, set, refl, ap}
use Rattle.aes.specs.State.{State}
use Rattle.aes.specs.RoundKeys.{cells_of}
use Rattle.aes.specs.declared.state.State.{State as RoundKey}

-- the state of the round key at a place
pub cells_at : (ks : List RoundKey) (n : ℕ) → (get_or ks n (record { cells = [] })).cells ≡ get_or (cells_of ks) n []
cells_at [] n = refl
cells_at (k ∷ ks) zero = refl
cells_at (k ∷ ks) (suc n) = cells_at ks n

pub cells_set : (ks : List RoundKey) (n : ℕ) (k : RoundKey) → cells_of (set ks n k) ≡ set (cells_of ks) n k.cells
cells_set [] n k = refl
cells_set (x ∷ ks) zero k = refl
cells_set (x ∷ ks) (suc n) k = ap (λ (v : List State). x.cells ∷ v) (cells_set ks n k)

pub cells_length : (ks : List RoundKey) → length (cells_of ks) ≡ length ks
cells_length [] = refl
cells_length (k ∷ ks) = ap suc (cells_length ks)
