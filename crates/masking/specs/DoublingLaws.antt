-- Doubling and its way back undo each other.
use Rattle.std.specs.Prelude.{◌^◌, ◌<◌, refl}
use Rattle.std.proofs.Common.{arith}
use Rattle.block.specs.Maps.{Undo}
use Rattle.block.specs.DoubleLaws.{halve-double, double-halve, double_fits, halve_fits}
use Rattle.masking.specs.Doubling.{doubled, undoubled}

pub doubling_undo : Undo doubled undoubled
doubling_undo =
    let f : 0x87 < 2 ^ 128 = omega arith in
    record {
      there_fits = double_fits 127 0x87 refl f;
      back_fits = halve_fits 127 0x87 refl f;
      back_there = halve-double 127 0x87 refl f;
      there_back = double-halve 127 0x87 refl f;
    }
