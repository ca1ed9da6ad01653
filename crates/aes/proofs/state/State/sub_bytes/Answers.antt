use Rattle.gf256.specs.Substitution.{substituted}
use Rattle.aes.proofs.state.State.sub_bytes.Goals as goal

pub returns : goal.returns
returns c = c.each.ensures substituted (λ x y h p. p.0)
