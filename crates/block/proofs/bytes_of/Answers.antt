use Rattle.std.proofs.Common.{refl}
use Rattle.block.proofs.Places.{stored_own}
use Rattle.block.proofs.bytes_of.Goals as goal

pub returns : goal.returns
returns c = stored_own c.args.block _ c.store_whole.new.bytes refl c.store_whole.ensures
