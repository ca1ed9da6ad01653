use Rattle.std.proofs.Common.{◌<◌, length, refl, ◌∙◌, arith}
use Rattle.block.proofs.Places.{loaded_first, loaded_tail}
use Rattle.block.proofs.load.Goals as goal

pub returns-in-Some-first_chunk : goal.returns-in-Some-first_chunk
returns-in-Some-first_chunk c =
    c.spelled.ensures
    ∙ loaded_first c.args.at c.args.bytes.now c.in-Some.rest.now c.in-Some-first_chunk.whole.now
    c.in-Some.ensures.lookup.0.2 c.in-Some-first_chunk.ensures.cases.same

pub returns : goal.returns
returns c =
    let few : length c.in-Some.rest.now < 16 = omega (arith, c.in_default-first_chunk.ensures) in
    c.spelled-2.ensures
    ∙ loaded_tail c.args.at (length c.in-Some.rest.now) c.args.bytes.now c.copy_from_slice.new.self _
    (omega (arith, c.in-Some.ensures.lookup)) few (c.copy_from_slice.ensures.after ∙ c.in-Some.ensures.lookup.0.2) refl
