-- The digits of the bytes so far; the array keeps its length.
use Rattle.std.proofs.Common.{◌≡◌, ◌*◌, length, take}
use Rattle.hexadecimal.specs.Hex.{hex_digits}
use Rattle.hexadecimal.proofs.group_digits.Given as goal

abbrev pub invariant-loop-i : goal.invariant-loop-i
invariant-loop-i l = (length l.digits ≡ 64) × (take (2 * l.i) l.digits ≡ hex_digits (take l.i l.group))
