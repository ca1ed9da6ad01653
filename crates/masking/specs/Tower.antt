-- A block as four words of 32 bits, and the step of the tower on them.
use Rattle.std.specs.Prelude.{ℕ, ◌+◌, ◌*◌, ◌/◌, ◌%◌, ◌^◌, bit_xor}
use Rattle.block.specs.Double.{double, halve}

abbrev pub word3 : ℕ → ℕ
word3 x = x / 2 ^ 96

abbrev pub word2 : ℕ → ℕ
word2 x = x / 2 ^ 64 % 2 ^ 32

abbrev pub word1 : ℕ → ℕ
word1 x = x / 2 ^ 32 % 2 ^ 32

abbrev pub word0 : ℕ → ℕ
word0 x = x % 2 ^ 32

abbrev pub of_words : ℕ → ℕ → ℕ → ℕ → ℕ
of_words a b c d = ((a * 2 ^ 32 + b) * 2 ^ 32 + c) * 2 ^ 32 + d

abbrev pub alpha : ℕ → ℕ
alpha = double 31 0x0a000021

abbrev pub alpha_back : ℕ → ℕ
alpha_back = halve 31 0x0a000021

abbrev pub tower_step : ℕ → ℕ
tower_step x = of_words (bit_xor (word2 x) (word3 x)) (word1 x) (bit_xor (word0 x) (word3 x)) (alpha (word3 x))

-- the words that a step came from: the leftmost first
abbrev pub tower_back : ℕ → ℕ
tower_back y =
    let t : ℕ = alpha_back (word0 y) in
    of_words t (bit_xor (word3 y) t) (word2 y) (bit_xor (word1 y) t)
