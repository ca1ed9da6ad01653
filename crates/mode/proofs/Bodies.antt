-- The loop over the blocks before the last, and the last piece after it.
use Rattle.std.proofs.Common.{◌≡◌, ℕ, ◌+◌, ◌-◌, ◌*◌, ◌≤◌, List, ◌++◌, length, take, drop, sym, ap, ◌∙◌, subst, ap₂, arith, length-append, length-drop}
use lib.Bits.{bit_xor}
use Rattle.std.proofs.lemmas.List.{take_at, drop_all, append-nil}
use Rattle.block.specs.Bytes.{Bytes, bytes_of, block_at, stored_at, xor_bytes}
use Rattle.block.specs.BytesLaws.{stored_whole, bytes_drop}
use Rattle.block.specs.Cut.{before, block_count, last_bits, last_of, zero_filled, through}
use Rattle.block.specs.CutLaws.{length-through, piece_is}
use Rattle.masking.specs.Steps.{times}
use Rattle.mode.specs.declared.value.Mode.{Mode}
use Rattle.mode.specs.declared.pair.Sums.{Sums}
use Rattle.mode.specs.Sealing.{Maps, delta_one_of, gamma, sealing, masked, pad_of, body}
use Rattle.mode.specs.Body.{BlocksDone, BodyDone}
use Rattle.mode.proofs.Loops.{through_none, sum_none, times_none, through_again, sum_again, times_again, masked_again}

pub body_none : (w : Maps) (e : ℕ → ℕ) (first : ℕ) (input was : List ℕ) → BlocksDone w e first 0 input was was record { read = 0; written = 0; mask = first }
body_none w e first input was =
    record {
      out_is = through_none (masked w e first) input was;
      read_is = sum_none (λ i x. x) input;
      written_is = sum_none (masked w e first) input;
      mask_is = times_none w.step first;
    }

pub body_again : (w : Maps) (e : ℕ → ℕ) (first n : ℕ) (input was out new : List ℕ) (sums : Sums) (x z next : ℕ)
    → BlocksDone w e first n input was out sums → next ≡ w.step sums.mask → x ≡ block_at (16 * n) input → z ≡ e (bit_xor x next)
    → 16 * n + 16 ≤ length out → new ≡ stored_at (16 * n) (bit_xor z next) out
    → BlocksDone w e first (n + 1) input was new record { read = bit_xor sums.read x; written = bit_xor sums.written (bit_xor z next); mask = next }
body_again w e first n input was out new sums x z next t s r v l o =
    let m : next ≡ times w.step (n + 1) first = times_again w.step n first sums.mask next t.mask_is s in
    let f : bit_xor z next ≡ masked w e first n (block_at (16 * n) input) = masked_again w e first n x (block_at (16 * n) input) next z m r v in
    record {
      out_is = through_again (masked w e first) n (bit_xor z next) input was out new t.out_is (o ∙ stored_whole (16 * n) (bit_xor z next) out l) f;
      read_is = sum_again (λ i y. y) n sums.read x input t.read_is r;
      written_is = sum_again (masked w e first) n sums.written (bit_xor z next) input t.written_is f;
      mask_is = m;
    }

-- the last piece, written after the blocks
ends : (f : ℕ → ℕ → ℕ) (pad at : ℕ) (input was out new : List ℕ) → Bytes input → length was ≡ length input → at ≡ 16 * before (length input)
    → out ≡ through f (before (length input)) input ++ drop (16 * before (length input)) was
    → new ≡ stored_at at (bit_xor (zero_filled (last_of input)) pad) out
    → new ≡ body f pad input
unfolding body stored_at
ends f pad at input was out new h l a e s =
    let front : List ℕ = through f (before (length input)) input in
    let y : ℕ = bit_xor (zero_filled (last_of input)) pad in
    let lf = length-through f (before (length input)) input in
    let lw = length-drop (16 * before (length input)) was in
    let li = length-drop (16 * before (length input)) input in
    let lo : length out ≡ length input = ap length e ∙ length-append front (drop (16 * before (length input)) was) ∙ omega arith in
    let n : length out - at ≡ length (last_of input) = omega arith in
    let piece : take (length out - at) (bytes_of 16 y) ≡ xor_bytes (last_of input) (bytes_of 16 pad) =
    ap (λ (k : ℕ). take k (bytes_of 16 y)) n ∙ sym (piece_is 0 pad (last_of input) (omega arith) (bytes_drop (16 * before (length input)) input h) (omega arith)) in
    s
    ∙ ap₂ (λ (u v : List ℕ). u ++ v)
    (ap (take at) e ∙ take_at front (drop (16 * before (length input)) was) at (omega arith))
    (ap₂ (λ (u v : List ℕ). u ++ v) piece (drop_all (at + 16) out (omega arith)) ∙ append-nil (xor_bytes (last_of input) (bytes_of 16 pad)))

pub body_ends : (w : Maps) (mode : Mode) (nonce delta first at : ℕ) (input was out new : List ℕ) (sums : Sums) (mask pad bits : ℕ)
    → Bytes input → delta ≡ delta_one_of w → first ≡ w.forward (bit_xor nonce delta) → length was ≡ length input
    → BlocksDone w (sealing w mode) first (before (length input)) input was out sums
    → at ≡ 16 * before (length input) → mask ≡ w.step sums.mask → bits ≡ last_bits (length input) → pad ≡ w.forward (bit_xor bits mask)
    → new ≡ stored_at at (bit_xor (zero_filled (last_of input)) pad) out
    → BodyDone w mode nonce input new record { read = sums.read; written = sums.written; mask = mask; pad = pad }
unfolding gamma pad_of
body_ends w mode nonce delta first at input was out new sums mask pad bits h d m₀ l t a m b p x =
    let g : first ≡ gamma w nonce = m₀ ∙ ap (λ (y : ℕ). w.forward (bit_xor nonce y)) d in
    let P : ℕ → Type 0 = λ y. BlocksDone w (sealing w mode) y (before (length input)) input was out sums in
    let t' : BlocksDone w (sealing w mode) (gamma w nonce) (before (length input)) input was out sums = subst P g t in
    let m' : mask ≡ times w.step (block_count (length input)) (gamma w nonce) = times_again w.step (before (length input)) (gamma w nonce) sums.mask mask t'.mask_is m in
    let p' : pad ≡ pad_of w nonce (length input) = p ∙ ap₂ (λ (y z : ℕ). w.forward (bit_xor y z)) b m' in
    record {
      out_is =
          ends (masked w (sealing w mode) (gamma w nonce)) pad at input was out new h l a t'.out_is x
          ∙ ap (λ (y : ℕ). body (masked w (sealing w mode) (gamma w nonce)) y input) p';
      read_is = t'.read_is;
      written_is = t'.written_is;
      mask_is = m';
      pad_is = p';
    }
