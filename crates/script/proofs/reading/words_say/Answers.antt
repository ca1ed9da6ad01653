-- The first word names no setting, so it names a call.
use Rattle.std.proofs.Common.{rules}
use Rattle.script.proofs.Saying.{says_call}
use Rattle.script.proofs.reading.words_say.Goals as goal

pub returns-in_err-call-in_default-kind-clause-says : goal.returns-in_err-call-in_default-kind-clause-says
returns-in_err-call-in_default-kind-clause-says c =
    let says = says_call _ _ _ c.in-Some.ensures.steps c.in_default-kind.not-cipher c.in_default-kind.not-masking in search rules

pub returns-in_ok-call-in_default-kind-clause-says : goal.returns-in_ok-call-in_default-kind-clause-says
returns-in_ok-call-in_default-kind-clause-says c =
    let says = says_call _ _ _ c.in-Some.ensures.steps c.in_default-kind.not-cipher c.in_default-kind.not-masking in search rules
