use Rattle.std.proofs.Common.{◌∙◌, ◌*◌, ◌<◌, ℕ, ap, rules, get_or, w32}
use Rattle.std.specs.Int.{rotate_left, to_be_bytes}
use Rattle.aes.proofs.Rows.{turned_as}
use Rattle.aes.proofs.state.turned.Goals as goal

pub returns : goal.returns
returns c =
    let fits : (i : ℕ) → get_or c.args.row i 0 < 256 = search rules in
    let e = c.rotate_left.ensures ∙ ap (λ (n : ℕ). rotate_left w32 n (8 * c.args.n)) c.from_be_bytes.ensures in
    c.to_be_bytes.ensures ∙ ap (to_be_bytes w32) e ∙ turned_as c.args.row fits c.args.n c.requires
