use Rattle.cipher.specs.Speck.{joined}
use Rattle.cipher.proofs.Rounds.{Expanding}
use Rattle.cipher.proofs.speck.expand.Given as goal

abbrev pub invariant-loop-i : goal.invariant-loop-i
invariant-loop-i l = Expanding (joined l.initial.words.left l.initial.words.right) l.round_key-items l.i l.words.left l.words.right
