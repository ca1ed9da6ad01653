-- The records that probe offsets travel in.
use Rattle.std.specs.Prelude.{ℕ, List, [], ◌∷◌, ◌++◌}
use Rattle.std.specs.Int.{w16}
use Rattle.std.proofs.Common.{of_z}
use Rattle.block.specs.Bytes.{bytes_of}
use Rattle.task.specs.declared.record.Offset.{Offset}

-- six bytes: the serial in four, then the hundredths in two, as two's complement
abbrev pub record_of : Offset → List ℕ
record_of o = bytes_of 4 o.serial ++ bytes_of 2 (of_z w16 o.hundredths)

-- one record behind the other
unfoldable pub packed : List Offset → List ℕ
packed [] = []
packed (o ∷ os) = record_of o ++ packed os
