use Rattle.masking.specs.StepsLaws.{steps_add}
use Rattle.masking.proofs.steps.Goals as goal

pub returns-then-i-lt0-clause-add : goal.returns-then-i-lt0-clause-add
returns-then-i-lt0-clause-add g c =
    steps_add (g.M.Masking.onward c.args.masking.now) (g.M.Masking.inward c.args.masking.now) (g.M.Masking.laws c.args.masking.now)

pub returns-else-i-lt0-clause-add : goal.returns-else-i-lt0-clause-add
returns-else-i-lt0-clause-add g c =
    steps_add (g.M.Masking.onward c.args.masking.now) (g.M.Masking.inward c.args.masking.now) (g.M.Masking.laws c.args.masking.now)
