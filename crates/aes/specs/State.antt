-- The state of the cipher: four rows of four bytes. Byte i of a block lies in row i mod 4 and column i / 4.
use Rattle.std.specs.Prelude.{◌≡◌, ℕ, ◌+◌, ◌^◌, ◌<◌, List, [], ◌∷◌, slice_index, slice_index_or}
use Rattle.block.specs.Bytes.{bytes_of, number_of}

abbrev pub State : Type 0
State = List (List ℕ)

-- the byte at a row and a column
abbrev pub cell : State → ℕ → ℕ → ℕ
cell s r c = slice_index (slice_index_or s r []) c

-- the row r of sixteen bytes
abbrev pub row_of : List ℕ → ℕ → List ℕ
row_of bs r = slice_index bs r ∷ slice_index bs (r + 4) ∷ slice_index bs (r + 8) ∷ slice_index bs (r + 12) ∷ []

abbrev pub rows_of : List ℕ → State
rows_of bs = row_of bs 0 ∷ row_of bs 1 ∷ row_of bs 2 ∷ row_of bs 3 ∷ []

-- s is the rows of sixteen bytes
pub record IsRowsOf (bs : List ℕ) (s : State) : Type 0 where
  pub rows : s ≡ rows_of bs
  pub bytes : (i : ℕ) → slice_index bs i < 2 ^ 8

-- a column, and what comes after it
abbrev pub column_then : State → ℕ → List ℕ → List ℕ
column_then s c rest = cell s 0 c ∷ cell s 1 c ∷ cell s 2 c ∷ cell s 3 c ∷ rest

-- the sixteen bytes of a state, column after column
abbrev pub bytes_in : State → List ℕ
bytes_in s = column_then s 0 (column_then s 1 (column_then s 2 (column_then s 3 [])))

-- the state that a block begins as, and the block that a state stands for
unfoldable pub state_of : ℕ → State
state_of x = rows_of (bytes_of 16 x)

unfoldable pub block_of : State → ℕ
block_of s = number_of (bytes_in s)
