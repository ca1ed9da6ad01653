-- States of bytes, and the blocks that they stand for.
use Rattle.std.specs.Prelude.{◌≡◌, ℕ, zero, suc, ◌%◌, ◌^◌, ◌<◌, List, [], ◌∷◌, length, slice_index, refl}
use Rattle.std.proofs.Common.{sym, ap, ◌∙◌, arith}
use Rattle.block.specs.Bytes.{Bytes, none, more, bytes_of, number_of}
use Rattle.block.specs.BytesLaws.{number_bytes, bytes_read, read_fits}
use Rattle.aes.specs.State.{State, cell, rows_of, bytes_in, state_of, block_of}

pub data Row : List ℕ → Type 0 where
  row : {a b c d : ℕ} → a < 2 ^ 8 → b < 2 ^ 8 → c < 2 ^ 8 → d < 2 ^ 8 → Row (a ∷ b ∷ c ∷ d ∷ [])

-- four rows of four bytes
pub data Square : State → Type 0 where
  square : {p q u v : List ℕ} → Row p → Row q → Row u → Row v → Square (p ∷ q ∷ u ∷ v ∷ [])

row_cells : {w : List ℕ} → Row w → (j : ℕ) → slice_index w j < 2 ^ 8
row_cells (row a b c d) zero = a
row_cells (row a b c d) (suc zero) = b
row_cells (row a b c d) (suc (suc zero)) = c
row_cells (row a b c d) (suc (suc (suc zero))) = d
row_cells (row a b c d) (suc (suc (suc (suc j)))) = omega arith

pub square_cells : {s : State} → Square s → (i j : ℕ) → cell s i j < 2 ^ 8
square_cells (square p q u v) zero j = row_cells p j
square_cells (square p q u v) (suc zero) j = row_cells q j
square_cells (square p q u v) (suc (suc zero)) j = row_cells u j
square_cells (square p q u v) (suc (suc (suc zero))) j = row_cells v j
square_cells (square p q u v) (suc (suc (suc (suc i)))) j = omega arith

pub block_state : (x : ℕ) → x < 2 ^ 128 → block_of (state_of x) ≡ x
unfolding block_of state_of bytes_of
block_state x h = number_bytes 16 x h

bytes_in_lem : {s : State} → Square s → Bytes (bytes_in s)
bytes_in_lem (square (row a e i m) (row b f j n) (row c g k o) (row d h l r)) =
    more a (more b (more c (more d (more e (more f (more g (more h (more i (more j (more k (more l (more m (more n (more o (more r none)))))))))))))))

-- a square is its sixteen bytes
square_bytes : {s : State} → Square s → (rows_of (bytes_in s) ≡ s) × (length (bytes_in s) ≡ 16)
square_bytes (square (row a e i m) (row b f j n) (row c g k o) (row d h l r)) = (refl, refl)

pub state_block : {s : State} → Square s → state_of (block_of s) ≡ s
unfolding block_of state_of
state_block {s} h =
    ap rows_of (ap (λ (n : ℕ). bytes_of n (number_of (bytes_in s))) (sym (square_bytes h).1) ∙ bytes_read 0 (bytes_in s) (bytes_in_lem h)) ∙ (square_bytes h).0

pub block_fits : {s : State} → Square s → block_of s < 2 ^ 128
unfolding block_of
block_fits {s} h = read_fits (bytes_in s) (bytes_in_lem h)

-- sixteen bytes make a square
pub rows_square : (bs : List ℕ) → ((i : ℕ) → slice_index bs i < 2 ^ 8) → Square (rows_of bs)
rows_square bs h = square (row (h 0) (h 4) (h 8) (h 12)) (row (h 1) (h 5) (h 9) (h 13)) (row (h 2) (h 6) (h 10) (h 14)) (row (h 3) (h 7) (h 11) (h 15))

low : (n : ℕ) → n % 256 < 2 ^ 8
low n = omega arith

bytes_cells : (n x i : ℕ) → slice_index (bytes_of n x) i < 2 ^ 8
unfolding bytes_of
bytes_cells zero x i = omega arith
bytes_cells (suc n) x zero = omega arith
bytes_cells (suc n) x (suc i) = bytes_cells n x i

pub state_square : (x : ℕ) → Square (state_of x)
unfolding state_of
state_square x = rows_square (bytes_of 16 x) (bytes_cells 16 x)
