use Rattle.std.proofs.Common.{◌∙◌, arith}
use Rattle.aes.specs.State.{block_of}
use Rattle.aes.proofs.state.BlockFromState.from.Goals as goal

pub returns : goal.returns
unfolding block_of
returns c = c.from_be_bytes.ensures ∙ omega arith
