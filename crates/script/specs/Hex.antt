-- Bytes as hexadecimal text.
use Rattle.std.specs.Prelude.{ℕ, List, [], ◌∷◌, codes}
use Rattle.hexadecimal.specs.Hex.{hex_digits}

-- the empty string is -
abbrev pub hex_text_of : List ℕ → List ℕ
hex_text_of [] = codes "-"
hex_text_of (b ∷ bs) = hex_digits (b ∷ bs)
