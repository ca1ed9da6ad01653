use Rattle.std.proofs.Common.{◌≡◌, ℕ}
use Rattle.block.specs.Maps.{IsBlock}
use Rattle.block.specs.Maps.{Computes}
use Rattle.masking.specs.Steps.{times}
use Rattle.masking.proofs.turned.Given as goal

abbrev pub invariant-loop : goal.invariant-loop
invariant-loop g l = record {
  fits : IsBlock l.reached;
  reached : (f : ℕ → ℕ) → Computes (goal.F-post g l.turn) f → l.reached ≡ times f l.counter l.block;
}
