-- A column of four elements as a polynomial, its constant coefficient first, taken modulo x^4 + 1.
use Rattle.std.specs.Prelude.{ℕ, List, [], ◌∷◌, get_or}
use Rattle.std.specs.Int.Bits.{bit_xor}
use Rattle.gf256.specs.Field.{product}

-- coefficient i of the product of p and w, where w's coefficients i, i + 1, i + 2 and i + 3, counted round, are a, b, c and d:
-- the powers of x that meet there have exponents whose sum is i, counted round
abbrev pub coefficient : List ℕ → ℕ → ℕ → ℕ → ℕ → ℕ
coefficient p a b c d =
    bit_xor (bit_xor (product a (get_or p 0 0)) (product b (get_or p 3 0))) (bit_xor (product c (get_or p 2 0)) (product d (get_or p 1 0)))

-- 03 x^3 + 01 x^2 + 01 x + 02, by which a column is multiplied when it is mixed
abbrev pub mixing : List ℕ
mixing = 0x02 ∷ 0x01 ∷ 0x01 ∷ 0x03 ∷ []

-- its inverse, 0b x^3 + 0d x^2 + 09 x + 0e
abbrev pub mixing_back : List ℕ
mixing_back = 0x0e ∷ 0x09 ∷ 0x0d ∷ 0x0b ∷ []
