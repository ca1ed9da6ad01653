-- The substitution of a byte: its inverse in the field, and then a map of its digits; and the way back.
use Rattle.std.specs.Prelude.{ℕ, ◌+◌, ◌-◌, ◌*◌, ◌/◌, ◌%◌, ◌^◌}
use Rattle.std.specs.Int.Bits.{bit_xor}
use Rattle.gf256.specs.Field.{inverse}

-- a byte, rotated left by k places: digit i is digit i - k, counted round
abbrev pub rotated : ℕ → ℕ → ℕ
rotated k b = (b * 2 ^ k) % 256 + b / 2 ^ (8 - k)

-- digit i is the sum of the digits i, i - 1, i - 2, i - 3 and i - 4, counted round, and of digit i of 0x63
unfoldable pub bit_map : ℕ → ℕ
bit_map b = bit_xor b (bit_xor (rotated 1 b) (bit_xor (rotated 2 b) (bit_xor (rotated 3 b) (bit_xor (rotated 4 b) 0x63))))

-- digit i is the sum of the digits i - 1, i - 3 and i - 6, counted round, and of digit i of 0x05
unfoldable pub bit_map_back : ℕ → ℕ
bit_map_back b = bit_xor (rotated 1 b) (bit_xor (rotated 3 b) (bit_xor (rotated 6 b) 0x05))

unfoldable pub substituted : ℕ → ℕ
substituted b = bit_map (inverse b)

unfoldable pub restored : ℕ → ℕ
restored b = inverse (bit_map_back b)
