use Rattle.std.proofs.Common.{◌≡◌}
use Rattle.aes.specs.Cipher.{up_to}
use Rattle.aes.specs.RoundKeys.{cells_of}
use Rattle.aes.proofs.Aes128.enciphered.Given as goal

abbrev pub invariant-loop-key : goal.invariant-loop-key
invariant-loop-key l = l.s.cells ≡ up_to (cells_of l.self.keys) l.key-index l.initial.s.cells
