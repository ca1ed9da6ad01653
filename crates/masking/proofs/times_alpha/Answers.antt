use Rattle.std.proofs.Common.{◌≡◌, refl, rules, ap, ◌∙◌, arith}
use Rattle.block.specs.Double.{double}
use Rattle.block.specs.DoubleLaws.{double_fits}
use Rattle.masking.proofs.times_alpha.Goals as goal

pub overflow_cast-result : goal.overflow_cast-result
overflow_cast-result c =
    let same : c.into.result ≡ c.args.w = search rules in
    let e : c.double.result ≡ double 31 0x0a000021 c.args.w = c.double.ensures ∙ ap (double 31 0x0a000021) same in
    omega (arith, double_fits 31 0x0a000021 refl (omega arith) c.args.w (omega arith))
