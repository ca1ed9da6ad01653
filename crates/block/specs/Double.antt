-- Doubling in a field of 2 ^ (j + 1) elements, as arithmetic: shift left by one, and xor c if a one fell out.
use Rattle.std.specs.Prelude.{ℕ, suc, ◌+◌, ◌*◌, ◌/◌, ◌%◌, ◌^◌, bit_xor}

unfoldable pub double : ℕ → ℕ → ℕ → ℕ
double j c x = bit_xor ((x * 2) % 2 ^ suc j) (c * (x / 2 ^ j))

unfoldable pub halve : ℕ → ℕ → ℕ → ℕ
halve j c y = bit_xor y (c * (y % 2)) / 2 + (y % 2) * 2 ^ j
