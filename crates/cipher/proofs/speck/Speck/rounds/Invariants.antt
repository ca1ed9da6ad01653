use Rattle.cipher.specs.Speck.{joined}
use Rattle.cipher.proofs.Rounds.{Ahead}
use Rattle.cipher.proofs.speck.Speck.rounds.Given as goal

abbrev pub invariant-loop-key : goal.invariant-loop-key
invariant-loop-key l = Ahead l.self.keys (joined l.initial.words.left l.initial.words.right) l.key-index l.words.left l.words.right
