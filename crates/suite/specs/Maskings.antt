-- The maps of a masking chosen at run time.
use Rattle.std.specs.Prelude.{ℕ}
use Rattle.block.specs.Maps.{Undo, same, undo_same}
use Rattle.masking.specs.Doubling.{doubled, undoubled}
use Rattle.masking.specs.DoublingLaws.{doubling_undo}
use Rattle.masking.specs.Tower.{tower_step, tower_back}
use Rattle.masking.specs.TowerLaws.{tower_undo}
use Rattle.suite.specs.declared.maskings.AnyMasking.{AnyMasking}
use Rattle.suite.specs.declared.maskings.AnyMasking.TheVariants.{Idle, Doubling, Tower}

abbrev pub onward_of : AnyMasking → ℕ → ℕ
onward_of Idle = same
onward_of Doubling = doubled
onward_of Tower = tower_step

abbrev pub inward_of : AnyMasking → ℕ → ℕ
inward_of Idle = same
inward_of Doubling = undoubled
inward_of Tower = tower_back

pub masking_undo : (m : AnyMasking) → Undo (onward_of m) (inward_of m)
masking_undo Idle = undo_same
masking_undo Doubling = doubling_undo
masking_undo Tower = tower_undo
