-- The line that a refusal is written as.
use Rattle.std.specs.Prelude.{ℕ, List, ◌++◌, codes, decimal}
use Rattle.layer.specs.declared.Layer.{Layer}
use Rattle.layer.specs.Layers.{name_of}

-- as in "2 at 0 in mode: no message seals to these bytes"
abbrev pub line_of : ℕ → ℕ → Layer → List ℕ → List ℕ
line_of number place layer reason = decimal number ++ (codes " at " ++ (decimal place ++ (codes " in " ++ (name_of layer ++ (codes ": " ++ reason)))))
