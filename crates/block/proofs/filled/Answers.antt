use Rattle.std.proofs.Common.{arith}
use native.Mathlib.Nat.{sub-zero}
use Rattle.block.proofs.Places.{filled_short, filled_long}
use Rattle.block.proofs.filled.Goals as goal

pub returns-then-n-lt16 : goal.returns-then-n-lt16
returns-then-n-lt16 c =
    simp sub-zero
    (filled_short c.args.byte c.min-n.result c.args.piece.now c.copy_from_slice.new.self
    (omega arith) c.if-n-lt16.true (simp sub-zero at c.copy_from_slice.ensures.after))

pub returns-else-n-lt16 : goal.returns-else-n-lt16
returns-else-n-lt16 c =
    filled_long c.args.byte c.min-n.result c.args.piece.now c.copy_from_slice.new.self _
    (omega arith) (omega arith) (simp sub-zero at c.copy_from_slice.ensures.after)
