use Rattle.std.proofs.Common.{arith}
use Rattle.block.proofs.Places.{stored_tail, stored_none}
use Rattle.block.proofs.store.Goals as goal

pub returns-then-room-gt0 : goal.returns-then-room-gt0
returns-then-room-gt0 c =
    stored_tail c.args.at c.args.block c.saturating_sub-room.result c.args.bytes.now c.bytes_of.result c.copy_from_slice.new.self
    (omega arith) c.if-room-ge16.false c.bytes_of.ensures c.copy_from_slice.ensures.after

pub returns-else-room-gt0 : goal.returns-else-room-gt0
returns-else-room-gt0 c = stored_none c.args.at c.args.block c.args.bytes.now (omega arith)
