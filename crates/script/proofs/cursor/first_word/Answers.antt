-- The spaces before the first word go, and then the text up to the next space is a word.
use Rattle.std.proofs.Common.{Some, None, ◌∙◌, arith}
use Rattle.std.proofs.lemmas.Str.Pattern.{split_parts}
use Rattle.script.proofs.Pieces.{trimmed, starts_solid, piece_begins, piece_some, last_some, last_none, is_long, is_none}
use Rattle.script.proofs.cursor.first_word.Goals as goal

pub returns-then-is_empty : goal.returns-then-is_empty
returns-then-is_empty c =
    let cut = c.trim_start_matches-text.ensures.matches in
    trimmed c.args.text.now cut.0.0 _ cut.0.1 ∙ last_none _ (is_none c.is_empty.result _ c.is_empty.ensures c.if-is_empty.true)

pub returns-in-Some : goal.returns-in-Some
returns-in-Some c =
    let cut = c.trim_start_matches-text.ensures.matches in
    let left = c.trim_start_matches-text.result.now in
    let parts = split_parts 32 left (Some c.in-Some.parts) c.in-Some.ensures.cases (omega arith) in
    trimmed c.args.text.now cut.0.0 _ cut.0.1
    ∙ piece_some left c.in-Some.parts.0.now c.in-Some.parts.1.now parts.0 parts.1 (piece_begins left _ _ parts.0 (starts_solid left cut.1))

pub returns-in-None : goal.returns-in-None
returns-in-None c =
    let cut = c.trim_start_matches-text.ensures.matches in
    let left = c.trim_start_matches-text.result.now in
    let solid = split_parts 32 left None c.in-None.ensures.cases (omega arith) in
    trimmed c.args.text.now cut.0.0 _ cut.0.1 ∙ last_some left solid (is_long c.is_empty.result left c.is_empty.ensures c.if-is_empty.false)
