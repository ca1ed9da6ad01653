-- The digits of the groups so far are written, and those of the rest are left.
use Rattle.std.proofs.Common.{◌≡◌}
use Rattle.std.specs.Fmt.{IsPlainFormatter}
use Rattle.std.specs.Slice.Iter.{chunks_rest, chunks_size}
use Rattle.hexadecimal.proofs.Writing.{SoFar}
use Rattle.hexadecimal.proofs.DigitsDisplay.fmt.Given as goal

abbrev pub invariant-loop-group : goal.invariant-loop-group
invariant-loop-group g l = record {
  can_next : (goal.iterator-loop-group g).can_next l.group-iterator;
  finite : (goal.iterator-loop-group g).is_finite l.group-iterator;
  size : chunks_size l.group-iterator ≡ 32;
  so_far : IsPlainFormatter l.fn.f → SoFar g.W.Write.write_str_gives l.fn.f l.f (chunks_rest l.group-iterator) l.fn.self.0.now;
}
