-- Each turn writes the digits of one more group.
use Rattle.std.proofs.Common.{refl, ap, rules, ◌∙◌}
use Rattle.std.proofs.lemmas.List.{nil_from_length}
use Rattle.std.specs.Slice.Iter.{chunks_rest}
use Rattle.hexadecimal.proofs.Writing.{none_yet, one_group, all_written}
use Rattle.hexadecimal.proofs.DigitsDisplay.fmt.Goals as goal

pub loop-group-init : goal.loop-group-init
loop-group-init g c =
    let all = ap chunks_rest c.into_iter-group-iterator.ensures.into_iter_gives ∙ c.chunks-group-items.ensures.rest in
    record { can_next = search rules; finite = tt; size = search rules; so_far = λ plain. none_yet _ _ _ _ (search rules) all }

pub loop-group-preserved : goal.loop-group-preserved
loop-group-preserved g c =
    let steps = c.in-Some.ensures.steps in
    record {
      can_next = search rules;
      finite = tt;
      size = steps.0 ∙ c.loop-group.invariant.size;
      so_far = λ plain.
          let so = c.loop-group.invariant.so_far plain in
          one_group _ _ _ _ _ _ c.in-Some.group.now _ c.in_ok-text.text.now so steps.1.0 (c.in_ok-text.ensures ∙ c.group_digits-digits.ensures)
          (c.in_ok-write_str.ensures.writes so.wrote.plain refl);
    }

pub returns-clause-writes : goal.returns-clause-writes
returns-clause-writes g c = λ plain ok. all_written _ _ _ _ _ (c.loop-group.invariant.so_far plain) (nil_from_length _ c.in-None.ensures.steps.1.0)
