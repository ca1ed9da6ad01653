use Rattle.std.proofs.Common.{arith}
use Rattle.cipher.specs.Speck.{joined}
use Rattle.cipher.proofs.Rounds.{ahead_more, ahead_done}
use Rattle.cipher.proofs.speck.Speck.rounds.Goals as goal

pub loop-key-preserved : goal.loop-key-preserved
loop-key-preserved c =
    ahead_more c.args.self.now.keys c.args.self.now.fit (joined c.args.words.left c.args.words.right)
    c.loop-key.key-index c.loop-key.words.left c.loop-key.words.right c.round-words.result.left c.round-words.result.right
    (omega arith) c.round-words.ensures.left c.round-words.ensures.right c.loop-key.invariant

pub returns : goal.returns
returns c =
    ahead_done c.args.self.now.keys (joined c.args.words.left c.args.words.right)
    c.loop-key.key-index c.loop-key.words.left c.loop-key.words.right (omega arith) c.loop-key.invariant
