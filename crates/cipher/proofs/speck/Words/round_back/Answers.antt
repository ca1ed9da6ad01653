use Rattle.std.proofs.Common.{◌+◌, ◌-◌, ◌%◌, ◌^◌, ◌∙◌, arith}
use lib.Bits.{bit_xor, xor_lt}
use Rattle.cipher.specs.Speck.{old_left, old_right}
use Rattle.cipher.proofs.Rounds.{right_3, left_8}
use Rattle.cipher.proofs.speck.Words.round_back.Goals as goal

pub returns : goal.returns
unfolding old_left old_right
returns c =
    record {
      left =
          c.rotate_left-left.ensures
          ∙ left_8 ((bit_xor c.args.self.left c.args.key + (2 ^ 64 - c.rotate_right-right.result)) % 2 ^ 64) (omega arith);
      right =
          c.rotate_right-right.ensures
          ∙ right_3 (bit_xor c.args.self.right c.args.self.left) (xor_lt 64 c.args.self.right c.args.self.left (omega arith) (omega arith));
    }
