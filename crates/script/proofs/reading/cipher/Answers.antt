-- The first word is not inverse, so it names the cipher.
use Rattle.std.proofs.Common.{rules}
use Rattle.script.proofs.Saying.{says_plain}
use Rattle.script.proofs.reading.cipher.Goals as goal

pub returns-in_err-plain-in_default : goal.returns-in_err-plain-in_default
returns-in_err-plain-in_default c = let says = says_plain _ _ _ c.in_ok-first.ensures.begins c.in_default.not-inverse in search rules

pub returns-in_ok-plain-in_default : goal.returns-in_ok-plain-in_default
returns-in_ok-plain-in_default c = let says = says_plain _ _ _ c.in_ok-first.ensures.begins c.in_default.not-inverse in search rules
