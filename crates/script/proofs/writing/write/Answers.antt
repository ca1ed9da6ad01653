use Rattle.std.proofs.lemmas.Result.{IfOk-weaker}
use Rattle.script.proofs.Back.{writes}
use Rattle.script.proofs.writing.write.Goals as goal

pub returns-clause-back : goal.returns-clause-back
returns-clause-back c = IfOk-weaker c.to_string.result _ _ (λ t e. writes c.args.call.now _ e) c.to_string.ensures.ok
