-- The bytes so far are the records of the offsets before this one.
use Rattle.std.proofs.Common.{◌≡◌, take, vec_items}
use Rattle.task.specs.Records.{packed}
use Rattle.task.proofs.record.pack.Given as goal

abbrev pub invariant-loop-offset : goal.invariant-loop-offset
invariant-loop-offset l = vec_items l.bytes ≡ packed (take l.offset-index l.offsets)
