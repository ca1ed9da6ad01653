-- The round keys as the code holds them, and the step from one to the next, by rows.
use Rattle.std.specs.Prelude.{ℕ, List, [], ◌∷◌, bit_xor, slice_index, slice_index_or}
use Rattle.gf256.specs.Substitution.{substituted}
use Rattle.aes.specs.State.{State, cell}
use Rattle.aes.specs.declared.state.State.{State as RoundKey}

-- the states of a list of round keys
abbrev pub cells_of : List RoundKey → List State
cells_of [] = []
cells_of (k ∷ ks) = k.cells ∷ cells_of ks

-- a row of the next round key: each byte adds the one on its left, and the first one t
abbrev pub next_row_of : List ℕ → ℕ → List ℕ
next_row_of w t =
    let p : ℕ = bit_xor (slice_index w 0) t in
    let q : ℕ = bit_xor (slice_index w 1) p in
    let u : ℕ = bit_xor (slice_index w 2) q in
    p ∷ q ∷ u ∷ bit_xor (slice_index w 3) u ∷ []

-- the next round key, under a round constant
abbrev pub next_key_of : ℕ → State → State
next_key_of c s =
    next_row_of (slice_index_or s 0 []) (bit_xor (substituted (cell s 1 3)) c) ∷ next_row_of (slice_index_or s 1 []) (substituted (cell s 2 3))
    ∷ next_row_of (slice_index_or s 2 []) (substituted (cell s 3 3)) ∷ next_row_of (slice_index_or s 3 []) (substituted (cell s 0 3)) ∷ []
