-- A word that does not begin with + is parsed as its digits say.
use Rattle.std.proofs.Common.{◌∙◌, rules}
use Rattle.script.proofs.Numbers.{bounded, no_plus}
use Rattle.script.proofs.value.number.Goals as goal

pub returns : goal.returns
returns c =
    c.ok_or.ensures.value
    ∙ bounded c.args.most c.args.word.now c.parse.result c.filter.result c.parse.ensures.value.0 (no_plus _ c.if-starts_with.ensures.cases) c.ranges.most.fits
    (rw c.ok.ensures.value at c.filter.ensures) (λ x b k. search rules)
