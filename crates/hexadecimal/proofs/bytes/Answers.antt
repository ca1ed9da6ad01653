-- Each turn adds the byte of one more pair. That a text spells bytes is said in two ways, of which one follows from the other.
use Rattle.std.proofs.Common.{◌∙◌, sym, rules}
use Rattle.std.proofs.lemmas.List.{nil_from_length}
use Rattle.hexadecimal.proofs.Spelling.{one_more, no_byte, all_read}
use Rattle.hexadecimal.proofs.Spells.{none_spells, spelled_spells}
use Rattle.hexadecimal.proofs.bytes.Goals as goal

pub loop-pair-preserved : goal.loop-pair-preserved
loop-pair-preserved c =
    let size = c.loop-pair.invariant.size in
    let steps = c.in-Some.ensures.steps in
    let so_far = one_more c.args.text.now _ _ _ c.in-Some.pair.now _ c.in-Some-byte.byte c.loop-pair.invariant.so_far steps.1.0 (rw size at steps.1.1) steps.1.2 (sym c.in-Some-byte.ensures) c.in_ok-push.ensures.items in
    record { can_next = search rules; finite = tt; size = steps.0 ∙ size; so_far = so_far }

pub returns-in_default-clause-spelled : goal.returns-in_default-clause-spelled
returns-in_default-clause-spelled c =
    let steps = c.in-Some.ensures.steps in
    no_byte c.args.text.now _ _ _ _ c.loop-pair.invariant.so_far steps.1.0 (rw c.loop-pair.invariant.size at steps.1.1) steps.1.2 (sym c.in_default.ensures)

pub returns-in_default-clause-spells : goal.returns-in_default-clause-spells
returns-in_default-clause-spells c = none_spells c.args.text.now (returns-in_default-clause-spelled c)

pub returns-then-is_odd-clause-spells : goal.returns-then-is_odd-clause-spells
returns-then-is_odd-clause-spells c = none_spells c.args.text.now (c.is_odd.ensures.nothing c.if-is_odd.true)

pub returns-clause-spelled : goal.returns-clause-spelled
returns-clause-spelled c = all_read c.args.text.now _ _ c.loop-pair.invariant.so_far (nil_from_length _ c.in-None.ensures.steps.1.0)

pub returns-clause-spells : goal.returns-clause-spells
returns-clause-spells c = spelled_spells c.args.text.now _ (returns-clause-spelled c)
