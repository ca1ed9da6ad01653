use Rattle.std.proofs.Common.{◌≡◌, refl, rules, ap, ◌∙◌, arith}
use Rattle.block.specs.Double.{halve}
use Rattle.block.specs.DoubleLaws.{halve_fits}
use Rattle.masking.proofs.over_alpha.Goals as goal

pub overflow_cast-result : goal.overflow_cast-result
overflow_cast-result c =
    let same : c.into.result ≡ c.args.w = search rules in
    let e : c.halve.result ≡ halve 31 0x0a000021 c.args.w = c.halve.ensures ∙ ap (halve 31 0x0a000021) same in
    omega (arith, halve_fits 31 0x0a000021 refl (omega arith) c.args.w (omega arith))
