use Rattle.std.proofs.Common.{◌≡◌, ◌/◌, ◌%◌, [], get_or, ap, ◌∙◌, arith}
use Rattle.block.specs.Bytes.{number_of}
use Rattle.aes.specs.State.{State, column_then}
use Rattle.aes.specs.RoundKeys.{cells_of}
use Rattle.aes.specs.declared.state.State.{State as RoundKey}
use Rattle.aes.proofs.Keys.{cells_at}
use Rattle.aes.proofs.Aes128.word.Goals as goal

pub returns : goal.returns
returns c =
    let found = c.in_ok-key.ensures.lookup.3 in
    let e : c.in_ok-key.key.now.cells ≡ get_or (cells_of c.args.self.now.keys) (c.args.i / 4) [] =
    ap (λ (k : RoundKey). k.cells) (found.1 (record { cells = [] })) ∙ cells_at c.args.self.now.keys (c.args.i / 4) in
    (omega (arith, found.0), c.column.ensures ∙ ap (λ (s : State). number_of (column_then s (c.args.i % 4) [])) e)
