use Rattle.std.proofs.Common.{◌∙◌}
use Rattle.block.proofs.Places.{turned, stored_halves}
use Rattle.block.proofs.store_whole.Goals as goal

pub returns : goal.returns
returns c =
    stored_halves c.args.at c.args.block c.args.bytes.now c.copy_from_slice.new.self c.copy_from_slice-2.new.self c.requires
    (c.copy_from_slice.ensures.after ∙ (c.to_le_bytes.ensures ∙ turned _ c.swap_bytes.result c.swap_bytes.ensures))
    (c.copy_from_slice-2.ensures.after ∙ (c.to_le_bytes-2.ensures ∙ turned _ c.swap_bytes-2.result c.swap_bytes-2.ensures))
