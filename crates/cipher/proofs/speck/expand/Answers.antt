use Rattle.std.proofs.Common.{arith}
use Rattle.cipher.specs.Speck.{joined}
use Rattle.cipher.proofs.Rounds.{expanding_first, expanding_more, expanded_fit}
use Rattle.cipher.proofs.speck.expand.Goals as goal

pub loop-i-init : goal.loop-i-init
loop-i-init c = expanding_first c.from-words.result.left c.from-words.result.right (omega arith) (omega arith)

pub loop-i-preserved : goal.loop-i-preserved
loop-i-preserved c =
    expanding_more (joined c.from-words.result.left c.from-words.result.right) c.loop-i.i c.loop-i.words.left c.loop-i.words.right
    c.round-words.result.left c.round-words.result.right c.loop-i.round_key-items
    (omega arith) c.round-words.ensures.left c.round-words.ensures.right c.loop-i.invariant

pub returns-clause-fit : goal.returns-clause-fit
returns-clause-fit c =
    expanded_fit (joined c.from-words.result.left c.from-words.result.right) c.loop-i.i c.loop-i.words.left c.loop-i.words.right
    c.loop-i.round_key-items (omega arith) c.loop-i.invariant
