use Rattle.std.proofs.Common.{◌≡◌, ◌*◌, ◌++◌, drop}
use Rattle.block.specs.Cut.{through}
use Rattle.capi.proofs.blocks.encrypt_each.Given as goal

abbrev pub invariant-loop-i : goal.invariant-loop-i
invariant-loop-i g l = l.bytes ≡ through (λ i. g.C.Cipher.forward l.cipher) l.i l.initial.bytes ++ drop (16 * l.i) l.initial.bytes
