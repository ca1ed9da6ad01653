-- The field of 256 elements: a byte is a polynomial over the digits 0 and 1, taken modulo x^8 + x^4 + x^3 + x + 1.
use Rattle.std.specs.Prelude.{◌≡◌, ℕ, zero, suc, ◌*◌, ◌/◌, ◌%◌, ◌^◌}
use Rattle.std.specs.Int.Bits.{bit_xor}

-- an element times x: doubled, modulo the polynomial
abbrev pub times_x_of : ℕ → ℕ
times_x_of a = bit_xor ((a * 2) % 2 ^ 8) (0x1b * (a / 2 ^ 7))

-- a times b, of which the n low digits are read
unfoldable pub times : ℕ → ℕ → ℕ → ℕ
times zero a b = 0
times (suc n) a b = bit_xor (a * (b % 2)) (times n (times_x_of a) (b / 2))

-- the product of two elements
unfoldable pub product : ℕ → ℕ → ℕ
product a b = times 8 a b

-- an element to the power n
unfoldable pub power : ℕ → ℕ → ℕ
power a zero = 1
power a (suc n) = product (power a n) a

-- s ^ 1 * s ^ 2 * s ^ 4 .., n factors
unfoldable pub squares : ℕ → ℕ → ℕ
squares zero s = 1
squares (suc n) s = product s (squares n (product s s))

-- the inverse, and 0 for 0: a ^ 254, since a ^ 255 is 1 unless a is 0, and 254 = 2 + 4 + .. + 128
unfoldable pub inverse : ℕ → ℕ
inverse a = squares 7 (product a a)

-- i is the inverse of a, which 0 stands for where there is none
abbrev pub IsInverse : ℕ → ℕ → Type 0
IsInverse zero i = i ≡ 0
IsInverse (suc a) i = product (suc a) i ≡ 1
