-- How a string of bytes is cut into blocks, and what is made of its blocks.
use Rattle.std.specs.Prelude.{◌≡◌, ℕ, zero, suc, ◌+◌, ◌-◌, ◌*◌, ◌/◌, ◌≢◌, List, [], ◌∷◌, ◌++◌, length, take, drop, replicate, bit_xor}
use Rattle.block.specs.Bytes.{bytes_of, number_of, block_at}

-- how many blocks of a string of so many bytes come before its last one
abbrev pub before : ℕ → ℕ
before len = (len - 1) / 16

-- how many blocks it has: the empty string has one, of no bytes
abbrev pub block_count : ℕ → ℕ
block_count len = before len + 1

-- how many bits its last block has
abbrev pub last_bits : ℕ → ℕ
last_bits len = 8 * (len - 16 * before len)

-- the bytes of its last block
abbrev pub last_of : List ℕ → List ℕ
last_of bs = drop (16 * before (length bs)) bs

-- the block that begins with a piece, goes on with one byte and ends with zeros, as far as there is room
unfoldable pub fill_with : ℕ → List ℕ → ℕ
fill_with b piece = number_of (take 16 (piece ++ b ∷ replicate 15 0))

-- a last block, filled with the byte 0x80 and then zeros
abbrev pub filled : List ℕ → ℕ
filled piece = fill_with 0x80 piece

-- a last piece, filled with zeros alone
abbrev pub zero_filled : List ℕ → ℕ
zero_filled piece = fill_with 0 piece

-- the first n blocks, block i through f i, counted from 0
unfoldable pub through : (ℕ → ℕ → ℕ) → ℕ → List ℕ → List ℕ
through f zero bs = []
through f (suc n) bs = through f n bs ++ bytes_of 16 (f n (block_at (16 * n) bs))

-- the sum by exclusive or of the first n blocks, block i through f i
unfoldable pub sum_of : (ℕ → ℕ → ℕ) → ℕ → List ℕ → ℕ
sum_of f zero bs = 0
sum_of f (suc n) bs = bit_xor (sum_of f n bs) (f n (block_at (16 * n) bs))

-- equally long and unequal, with unequal bytes in one block alone
pub record OneBlock (xs ys : List ℕ) : Type 0 where
  pub long : length xs ≡ length ys
  pub place : ℕ
  pub front : take (16 * place) xs ≡ take (16 * place) ys
  pub rest : drop (16 * place + 16) xs ≡ drop (16 * place + 16) ys
  pub unequal : xs ≢ ys
