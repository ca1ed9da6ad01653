-- Doubling in the field of 2 ^ 128 elements modulo x^128 + x^7 + x^2 + x + 1.
use Rattle.std.specs.Prelude.{ℕ}
use Rattle.block.specs.Double.{double, halve}

abbrev pub doubled : ℕ → ℕ
doubled = double 127 0x87

abbrev pub undoubled : ℕ → ℕ
undoubled = halve 127 0x87
