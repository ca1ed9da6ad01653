use Rattle.std.proofs.Common.{◌≡◌, ap, ◌∙◌, div-one}
use Rattle.block.specs.Bytes.{bytes_of}
use Rattle.aes.specs.State.{state_of, rows_of}
use Rattle.aes.proofs.state.StateFromBlock.from.Goals as goal

pub returns : goal.returns
unfolding state_of bytes_of
returns c =
    let e : c.to_be_bytes.result ≡ bytes_of 16 c.args.block = simp div-one c.to_be_bytes.ensures in
    c.from.ensures.rows ∙ ap rows_of e
