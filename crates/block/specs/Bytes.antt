-- Bytes and the numbers that they spell, the first byte the most significant.
use Rattle.std.specs.Prelude.{ℕ, zero, suc, ◌+◌, ◌-◌, ◌*◌, ◌/◌, ◌%◌, ◌^◌, ◌<◌, List, [], ◌∷◌, ◌++◌, length, take, drop, bit_xor}

-- each number of the list is a byte
pub data Bytes : List ℕ → Type 0 where
  none : Bytes []
  more : {b : ℕ} {bs : List ℕ} → b < 256 → Bytes bs → Bytes (b ∷ bs)

-- the n low bytes of x, the most significant first
unfoldable pub bytes_of : ℕ → ℕ → List ℕ
bytes_of zero x = []
bytes_of (suc n) x = x / 256 ^ n % 256 ∷ bytes_of n x

-- what digits to base 256 say, after those that said acc
abbrev pub read_after : ℕ → List ℕ → ℕ
read_after acc [] = acc
read_after acc (b ∷ bs) = read_after (acc * 256 + b) bs

-- the number that bytes spell
abbrev pub number_of : List ℕ → ℕ
number_of bs = read_after 0 bs

-- the number at a place: of the n bytes from there on, or of as many as there are
abbrev pub number_at : ℕ → ℕ → List ℕ → ℕ
number_at n at bs = number_of (take n (drop at bs))

-- the block at a place
abbrev pub block_at : ℕ → List ℕ → ℕ
block_at at bs = number_at 16 at bs

-- the bytes with a block written over the 16 from a place on, or over as many as there are
unfoldable pub stored_at : ℕ → ℕ → List ℕ → List ℕ
stored_at at x bs = take at bs ++ (take (length bs - at) (bytes_of 16 x) ++ drop (at + 16) bs)

-- exclusive or, byte by byte, as far as both go
unfoldable pub xor_bytes : List ℕ → List ℕ → List ℕ
xor_bytes [] ys = []
xor_bytes (x ∷ xs) [] = []
xor_bytes (x ∷ xs) (y ∷ ys) = bit_xor x y ∷ xor_bytes xs ys
