-- The numbers and the names of the layers.
use Rattle.std.specs.Prelude.{ℕ, List, codes}
use Rattle.layer.specs.declared.Layer.{Layer}
use Rattle.layer.specs.declared.Layer.TheVariants.{Mode, Frame, Station}

abbrev pub value_of : Layer → ℕ
value_of Mode = 1
value_of Frame = 2
value_of Station = 3

-- the word that a printed refusal has for it
abbrev pub name_of : Layer → List ℕ
name_of Mode = codes "mode"
name_of Frame = codes "frame"
name_of Station = codes "station"
