use Rattle.cipher.specs.Speck.{joined}
use Rattle.cipher.proofs.Rounds.{Behind}
use Rattle.cipher.proofs.speck.Speck.rounds_back.Given as goal

abbrev pub invariant-loop-key : goal.invariant-loop-key
invariant-loop-key l = Behind l.self.keys l.key-iterator.iter.rest.now (joined l.initial.words.left l.initial.words.right) l.words.left l.words.right
