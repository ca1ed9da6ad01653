-- The number, the place, the layer and the reason of each refusal of a mode.
use Rattle.std.specs.Prelude.{ℕ, List, codes}
use Rattle.layer.specs.declared.Layer.{Layer}
use Rattle.layer.specs.declared.Layer.TheVariants.{Mode}
use Rattle.mode.specs.declared.fault.ModeFault.{ModeFault}
use Rattle.mode.specs.declared.fault.ModeFault.TheVariants.{OutputLength, NotSealed}

abbrev pub number_of : ModeFault → ℕ
number_of OutputLength = 1
number_of NotSealed = 2

abbrev pub place_of : ModeFault → ℕ
place_of fault = 0

abbrev pub layer_of : ModeFault → Layer
layer_of fault = Mode

-- why, in plain words
abbrev pub reason_of : ModeFault → List ℕ
reason_of OutputLength = codes "the output buffer is not of the message's length"
reason_of NotSealed = codes "no message seals to these bytes"
