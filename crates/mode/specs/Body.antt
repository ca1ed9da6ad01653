-- What the steps of sealing and opening leave behind them.
use Rattle.std.specs.Prelude.{◌≡◌, ℕ, ◌*◌, List, ◌++◌, length, drop}
use Rattle.mode.specs.declared.value.Mode.{Mode}
use Rattle.mode.specs.declared.pair.Sums.{Sums}
use Rattle.mode.specs.declared.pair.Body.{Body}
use Rattle.block.specs.Cut.{before, block_count, through, sum_of}
use Rattle.masking.specs.Steps.{times}
use Rattle.mode.specs.Sealing.{Maps, gamma, sealing, masked, pad_of, body}

-- the first n blocks are ciphered into the output through e, the rest of which is as it was; the sums are of what was read and written
pub record BlocksDone (w : Maps) (e : ℕ → ℕ) (first n : ℕ) (input was out : List ℕ) (sums : Sums) : Type 0 where
  pub out_is : out ≡ through (masked w e first) n input ++ drop (16 * n) was
  pub read_is : sums.read ≡ sum_of (λ i x. x) n input
  pub written_is : sums.written ≡ sum_of (masked w e first) n input
  pub mask_is : sums.mask ≡ times w.step n first

-- a whole string is ciphered
pub record BodyDone (w : Maps) (mode : Mode) (nonce : ℕ) (input out : List ℕ) (done : Body) : Type 0 where
  pub out_is : out ≡ body (masked w (sealing w mode) (gamma w nonce)) (pad_of w nonce (length input)) input
  pub read_is : done.read ≡ sum_of (λ i x. x) (before (length input)) input
  pub written_is : done.written ≡ sum_of (masked w (sealing w mode) (gamma w nonce)) (before (length input)) input
  pub mask_is : done.mask ≡ times w.step (block_count (length input)) (gamma w nonce)
  pub pad_is : done.pad ≡ pad_of w nonce (length input)
