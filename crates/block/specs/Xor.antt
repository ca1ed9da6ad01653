-- Laws of exclusive or.
use Rattle.std.specs.Prelude.{◌≡◌, ℕ, bit_xor}
use Rattle.std.proofs.Common.{sym, ap, ◌∙◌}
use Rattle.std.proofs.lemmas.Nat.{xor_lt, xor_comm}
use Rattle.std.specs.Int.Bits.{xor_assoc, xor_self, xor_zero_r}
use Rattle.block.specs.Maps.{IsBlock, Undo}

pub xor-twice : (a k : ℕ) → bit_xor (bit_xor a k) k ≡ a
xor-twice a k = xor_assoc a k k ∙ ap (bit_xor a) (xor_self k) ∙ xor_zero_r a

pub xor_cancel_right : (a b k : ℕ) → bit_xor a k ≡ bit_xor b k → a ≡ b
xor_cancel_right a b k e = sym (xor-twice a k) ∙ ap (λ (x : ℕ). bit_xor x k) e ∙ xor-twice b k

pub xor_cancel_left : (k a b : ℕ) → bit_xor k a ≡ bit_xor k b → a ≡ b
xor_cancel_left k a b e = xor_cancel_right a b k (xor_comm a k ∙ e ∙ xor_comm k b)

-- two sums of two, in another order
pub xor-four : (a b c d : ℕ) → bit_xor (bit_xor a b) (bit_xor c d) ≡ bit_xor (bit_xor a c) (bit_xor b d)
xor-four a b c d =
    xor_assoc a b (bit_xor c d)
    ∙ ap (bit_xor a) (sym (xor_assoc b c d) ∙ ap (λ (n : ℕ). bit_xor n d) (xor_comm b c) ∙ xor_assoc c b d)
    ∙ sym (xor_assoc a c (bit_xor b d))

-- adding a block undoes itself
pub xor_undo : (k : ℕ) → IsBlock k → Undo (λ x. bit_xor x k) (λ x. bit_xor x k)
xor_undo k h =
    record {
      there_fits = λ x hx. xor_lt 128 x k hx h;
      back_fits = λ x hx. xor_lt 128 x k hx h;
      back_there = λ x hx. xor-twice x k;
      there_back = λ x hx. xor-twice x k;
    }
