use Rattle.aes.proofs.Words.{Expanding}
use Rattle.aes.proofs.expansion.expand.Given as goal

abbrev pub invariant-loop-round_key : goal.invariant-loop-round_key
invariant-loop-round_key l = Expanding l.initial.next.cells l.round_key-index l.constant l.next.cells l.round_key-items
