use Rattle.std.proofs.Common.{ℕ, ◌+◌, ◌%◌, ◌^◌, ap, ◌∙◌, arith}
use lib.Bits.{bit_xor}
use Rattle.cipher.specs.Speck.{new_left, new_right}
use Rattle.cipher.proofs.Rounds.{right_8, left_3}
use Rattle.cipher.proofs.speck.Words.round.Goals as goal

pub returns : goal.returns
unfolding new_left new_right
returns c =
    record {
      left = ap (λ (n : ℕ). bit_xor ((n + c.args.self.right) % 2 ^ 64) c.args.key) (c.rotate_right.ensures ∙ right_8 c.args.self.left (omega arith));
      right =
          ap (λ (n : ℕ). bit_xor n (bit_xor ((c.rotate_right.result + c.args.self.right) % 2 ^ 64) c.args.key))
          (c.rotate_left.ensures ∙ left_3 c.args.self.right (omega arith));
    }
