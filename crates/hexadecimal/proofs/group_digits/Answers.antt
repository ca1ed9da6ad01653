-- Each turn writes the two digits of one more byte.
use Rattle.std.proofs.Common.{refl, arith, ◌*◌, ◌+◌, ◌<◌, length}
use Rattle.hexadecimal.specs.Hex.{hex_digits}
use Rattle.hexadecimal.proofs.Writing.{digits_more, length_twice}
use Rattle.hexadecimal.proofs.group_digits.Goals as goal

pub loop-i-init : goal.loop-i-init
unfolding hex_digits
loop-i-init c = (refl, refl)

pub loop-i-preserved : goal.loop-i-preserved
loop-i-preserved c =
    let long = c.loop-i.invariant.0 in
    let room : 2 * c.loop-i.i + 1 < length c.loop-i.digits = omega (arith, long, c.loop-i-test.true, c.requires) in (
      length_twice _ _ _ _ _ long,
      digits_more c.args.group.now c.loop-i.digits c.loop-i.i _ _ c.loop-i-test.true room c.loop-i.invariant.1 c.character.ensures c.character-in-loop-i.ensures,
    )
