use Rattle.std.proofs.Common.{◌≡◌}
use Rattle.block.specs.Cut.{sum_of}
use Rattle.masking.specs.Steps.{times}
use Rattle.mode.specs.Sealing.{header_block}
use Rattle.mode.specs.Pairs.{maps}
use Rattle.mode.proofs.pair.Keyed.header_tag.Given as goal

abbrev pub invariant-loop-block : goal.invariant-loop-block
invariant-loop-block g l =
    record {
      mask_is : l.mask ≡ times (g.M.Masking.onward l.self.pair.now.masking) l.block-index l.kappa;
      sum_is : l.sum ≡ sum_of (header_block (maps g.C.Cipher g.M.Masking l.self.pair.now)) l.block-index l.header;
    }
