-- The word is the name of no masking.
use Rattle.std.proofs.Common.{rules}
use Rattle.script.proofs.Saying.{says_no_masking}
use Rattle.script.proofs.reading.masking.Goals as goal

pub returns-in_err-masking : goal.returns-in_err-masking
returns-in_err-masking c = let says = says_no_masking _ _ _ c.in_ok-word.ensures.begins c.in_err-masking.ensures.value in search rules
