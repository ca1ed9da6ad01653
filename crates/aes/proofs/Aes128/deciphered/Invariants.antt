use Rattle.aes.proofs.Rounds.{Deciphering}
use Rattle.aes.proofs.Aes128.deciphered.Given as goal

abbrev pub invariant-loop-key : goal.invariant-loop-key
invariant-loop-key l = Deciphering l.self.keys l.key-iterator.iter.rest.now l.initial.s.cells l.s.cells
