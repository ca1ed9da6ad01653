use Rattle.std.proofs.Common.{arith}
use Rattle.cipher.specs.Speck.{joined}
use Rattle.cipher.proofs.Rounds.{behind_more, behind_done}
use Rattle.cipher.proofs.speck.Speck.rounds_back.Goals as goal

pub loop-key-preserved : goal.loop-key-preserved
loop-key-preserved c =
    behind_more c.args.self.now.keys c.loop-key.key-iterator.iter.rest.now c.next.new.self.iter.rest.now
    c.in-Some.key.now (joined c.args.words.left c.args.words.right)
    c.loop-key.words.left c.loop-key.words.right c.round_back-words.result.left c.round_back-words.result.right
    (omega arith) c.in-Some.ensures.steps c.round_back-words.ensures.left c.round_back-words.ensures.right c.loop-key.invariant

pub returns : goal.returns
returns c =
    behind_done c.args.self.now.keys c.loop-key.key-iterator.iter.rest.now (joined c.args.words.left c.args.words.right)
    c.loop-key.words.left c.loop-key.words.right c.in-None.ensures.steps.0 c.loop-key.invariant
