-- The bytes so far come before those that the rest of the text spells.
use Rattle.std.proofs.Common.{◌≡◌, vec_items}
use Rattle.std.specs.Slice.Iter.{chunks_rest, chunks_size}
use Rattle.hexadecimal.specs.Hex.{spelled}
use Rattle.hexadecimal.proofs.Spelling.{after}
use Rattle.hexadecimal.proofs.bytes.Given as goal

abbrev pub invariant-loop-pair : goal.invariant-loop-pair
invariant-loop-pair l = record {
  can_next : (goal.iterator-loop-pair).can_next l.pair-iterator;
  finite : (goal.iterator-loop-pair).is_finite l.pair-iterator;
  size : chunks_size l.pair-iterator ≡ 2;
  so_far : spelled l.text ≡ after (vec_items l.spelled) (spelled (chunks_rest l.pair-iterator));
}
