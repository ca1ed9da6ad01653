-- The four steps of a round on a state, each with its way back.
use Rattle.std.specs.Prelude.{◌≡◌, ℕ, ◌+◌, ◌%◌, ◌^◌, ◌<◌, List, [], ◌∷◌, bit_xor, slice_index, slice_index_or}
use Rattle.gf256.specs.Column.{coefficient, mixing, mixing_back}
use Rattle.gf256.specs.Substitution.{substituted, restored}
use Rattle.aes.specs.State.{State, cell}

-- each of four bytes through f
abbrev pub over_row : (ℕ → ℕ) → List ℕ → List ℕ
over_row f w = f (slice_index w 0) ∷ f (slice_index w 1) ∷ f (slice_index w 2) ∷ f (slice_index w 3) ∷ []

-- what P allows of a byte, or of four, is what f makes of it
abbrev pub Computes : (ℕ → ℕ → Type 0) → (ℕ → ℕ) → Type 0
Computes P f = (x y : ℕ) → x < 2 ^ 8 → P x y → y ≡ f x

abbrev pub ComputesOfFour : (ℕ → ℕ → ℕ → ℕ → ℕ → Type 0) → (ℕ → ℕ → ℕ → ℕ → ℕ) → Type 0
ComputesOfFour P f = (a b c d y : ℕ) → a < 2 ^ 8 → b < 2 ^ 8 → c < 2 ^ 8 → d < 2 ^ 8 → P a b c d y → y ≡ f a b c d

-- each of four rows through f
abbrev pub over_rows : (List ℕ → List ℕ) → State → State
over_rows f s = f (slice_index_or s 0 []) ∷ f (slice_index_or s 1 []) ∷ f (slice_index_or s 2 []) ∷ f (slice_index_or s 3 []) ∷ []

-- substitution: each byte by its own
abbrev pub sub_bytes_of : State → State
sub_bytes_of = over_rows (over_row substituted)

abbrev pub inv_sub_bytes_of : State → State
inv_sub_bytes_of = over_rows (over_row restored)

-- a row moved left by n places
abbrev pub row_turned : List ℕ → ℕ → List ℕ
row_turned w n = slice_index w n ∷ slice_index w ((n + 1) % 4) ∷ slice_index w ((n + 2) % 4) ∷ slice_index w ((n + 3) % 4) ∷ []

-- row r from column c on, counted round
abbrev pub row_from : State → ℕ → ℕ → List ℕ
row_from s r c = cell s r c ∷ cell s r ((c + 1) % 4) ∷ cell s r ((c + 2) % 4) ∷ cell s r ((c + 3) % 4) ∷ []

-- the rows after the first moved left by so many places
abbrev pub rows_shifted : ℕ → ℕ → ℕ → State → State
rows_shifted q u v s = row_from s 0 0 ∷ row_from s 1 q ∷ row_from s 2 u ∷ row_from s 3 v ∷ []

-- row shift: row r moves left by r places
abbrev pub shift_rows_of : State → State
shift_rows_of s = row_from s 0 0 ∷ row_from s 1 1 ∷ row_from s 2 2 ∷ row_from s 3 3 ∷ []

-- and right by r places
abbrev pub inv_shift_rows_of : State → State
inv_shift_rows_of s = row_from s 0 0 ∷ row_from s 1 3 ∷ row_from s 2 2 ∷ row_from s 3 1 ∷ []

-- a row of a state whose columns are multiplied by the polynomial p, from that row on, counted round
abbrev pub product_row : List ℕ → (a b c d : List ℕ) → List ℕ
product_row p a b c d =
    coefficient p (slice_index a 0) (slice_index b 0) (slice_index c 0) (slice_index d 0)
    ∷ coefficient p (slice_index a 1) (slice_index b 1) (slice_index c 1) (slice_index d 1)
    ∷ coefficient p (slice_index a 2) (slice_index b 2) (slice_index c 2) (slice_index d 2)
    ∷ coefficient p (slice_index a 3) (slice_index b 3) (slice_index c 3) (slice_index d 3)
    ∷ []

-- each column multiplied by the polynomial p
abbrev pub product_rows : List ℕ → (a b c d : List ℕ) → State
product_rows p a b c d = product_row p a b c d ∷ product_row p b c d a ∷ product_row p c d a b ∷ product_row p d a b c ∷ []

abbrev pub multiplied : List ℕ → State → State
multiplied p s = product_rows p (slice_index_or s 0 []) (slice_index_or s 1 []) (slice_index_or s 2 []) (slice_index_or s 3 [])

-- column mix: each column by the fixed polynomial
abbrev pub mix_columns_of : State → State
mix_columns_of = multiplied mixing

-- and by its inverse
abbrev pub inv_mix_columns_of : State → State
inv_mix_columns_of = multiplied mixing_back

abbrev pub sum_row_of : List ℕ → List ℕ → List ℕ
sum_row_of a k =
    bit_xor (slice_index a 0) (slice_index k 0) ∷ bit_xor (slice_index a 1) (slice_index k 1)
    ∷ bit_xor (slice_index a 2) (slice_index k 2) ∷ bit_xor (slice_index a 3) (slice_index k 3) ∷ []

-- key addition: byte by byte, its own way back
abbrev pub add_round_key_of : State → State → State
add_round_key_of s k =
    sum_row_of (slice_index_or s 0 []) (slice_index_or k 0 []) ∷ sum_row_of (slice_index_or s 1 []) (slice_index_or k 1 [])
    ∷ sum_row_of (slice_index_or s 2 []) (slice_index_or k 2 []) ∷ sum_row_of (slice_index_or s 3 []) (slice_index_or k 3 []) ∷ []
