use Rattle.std.proofs.Common.{ℕ}
use Rattle.mode.specs.Pairs.{maps}
use Rattle.block.specs.Maps.{Computes}
use Rattle.mode.specs.Body.{BlocksDone}
use Rattle.mode.proofs.pair.Keyed.cipher_blocks.Given as goal

abbrev pub invariant-loop-i : goal.invariant-loop-i
invariant-loop-i g l =
    (e : ℕ → ℕ) → Computes (goal.F-post g l.map) e → BlocksDone (maps g.C.Cipher g.M.Masking l.self.pair.now) e l.first l.i l.input l.initial.out l.out l.sums
