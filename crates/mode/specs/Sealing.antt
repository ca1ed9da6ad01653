-- The two sealing modes, over plain maps on blocks.
use Rattle.std.specs.Prelude.{◌≡◌, ℕ, zero, suc, ◌+◌, Bool, true, false, ◌≢◌, List, [], ◌∷◌, ◌++◌, length, ℤ, pos, negsuc, ◌==◌, bit_xor}
use Rattle.block.specs.Bytes.{Bytes, bytes_of, xor_bytes}
use Rattle.block.specs.Cut.{before, block_count, last_bits, last_of, filled, zero_filled, through, sum_of, OneBlock}
use Rattle.block.specs.Maps.{Undo}
use Rattle.masking.specs.Steps.{Γ}
use Rattle.mode.specs.declared.value.Mode.{Mode}
use Rattle.mode.specs.declared.value.Mode.TheVariants.{Forward, Dual}

-- what a cipher and a masking mean
pub record Maps : Type 0 where
  pub forward : ℕ → ℕ
  pub backward : ℕ → ℕ
  pub step : ℕ → ℕ
  pub back : ℕ → ℕ

pub record Lawful (w : Maps) : Type 0 where
  pub cipher : Undo w.forward w.backward
  pub masking : Undo w.step w.back

-- the mask at place i of those that begin at x
abbrev pub mask : Maps → ℕ → ℤ → ℕ
mask w x i = Γ w.step w.back x i

-- the fixed string, as a block
abbrev pub fixed : ℕ
fixed = 1

unfoldable pub delta_zero_of : Maps → ℕ
delta_zero_of w = w.forward fixed

unfoldable pub delta_one_of : Maps → ℕ
delta_one_of w = w.step (delta_zero_of w)

-- header tag

-- where a header's masks begin
unfoldable pub kappa : Maps → ℕ
kappa w = w.forward (delta_zero_of w)

-- block i of a header that is not its last, counted from 0
unfoldable pub header_block : Maps → ℕ → ℕ → ℕ
header_block w i x = w.forward (bit_xor x (mask w (kappa w) (pos (suc i))))

-- what is added to the last block, after n blocks: whether it is full
unfoldable pub closing : Maps → ℕ → Bool → ℕ
closing w zero false = mask w (kappa w) (negsuc 0)
closing w zero true = mask w (kappa w) (negsuc 1)
closing w (suc n) false = mask w (kappa w) (pos (suc (suc n)))
closing w (suc n) true = 0

unfoldable pub some_header_tag : Maps → List ℕ → ℕ
some_header_tag w header =
    w.forward
    (bit_xor (bit_xor (sum_of (header_block w) (before (length header)) header) (filled (last_of header)))
    (closing w (before (length header)) (last_bits (length header) == 128)))

unfoldable pub header_tag_of : Maps → List ℕ → ℕ
header_tag_of w [] = 0
header_tag_of w (b ∷ bs) = some_header_tag w (b ∷ bs)

-- message

-- where a message's masks begin
unfoldable pub gamma : Maps → ℕ → ℕ
gamma w nonce = w.forward (bit_xor nonce (delta_one_of w))

-- which map seals the blocks before the last, and which opens them
abbrev pub sealing : Maps → Mode → ℕ → ℕ
sealing w Forward = w.forward
sealing w Dual = w.backward

abbrev pub opening : Maps → Mode → ℕ → ℕ
opening w Forward = w.backward
opening w Dual = w.forward

-- block i, counted from 0, through e between two masks
unfoldable pub masked : Maps → (ℕ → ℕ) → ℕ → ℕ → ℕ → ℕ
masked w e first i x = bit_xor (e (bit_xor x (mask w first (pos (suc i))))) (mask w first (pos (suc i)))

-- the pad of a message of so many bytes
unfoldable pub pad_of : Maps → ℕ → ℕ → ℕ
pad_of w nonce len = w.forward (bit_xor (last_bits len) (mask w (gamma w nonce) (pos (block_count len))))

-- the blocks before the last through f, and the last piece with the pad
unfoldable pub body : (ℕ → ℕ → ℕ) → ℕ → List ℕ → List ℕ
body f pad bs = through f (before (length bs)) bs ++ xor_bytes (last_of bs) (bytes_of 16 pad)

unfoldable pub sealed_bytes : Maps → Mode → ℕ → List ℕ → List ℕ
sealed_bytes w mode nonce message = body (masked w (sealing w mode) (gamma w nonce)) (pad_of w nonce (length message)) message

unfoldable pub opened_bytes : Maps → Mode → ℕ → List ℕ → List ℕ
opened_bytes w mode nonce sealed = body (masked w (opening w mode) (gamma w nonce)) (pad_of w nonce (length sealed)) sealed

-- the tag of a message of so many bytes, from the sum of its blocks before the last and its last sealed piece
unfoldable pub tag_from_header : Maps → ℕ → ℕ → ℕ → List ℕ → ℕ
tag_from_header w nonce len sum piece =
    w.forward
    (bit_xor (bit_xor (bit_xor (bit_xor sum (zero_filled piece)) (mask w (gamma w nonce) (pos (block_count len + 1)))) (delta_one_of w)) (pad_of w nonce len))

unfoldable pub message_tag_of : Maps → ℕ → List ℕ → ℕ
message_tag_of w nonce message =
    tag_from_header w nonce (length message) (sum_of (λ i x. x) (before (length message)) message)
    (xor_bytes (last_of message) (bytes_of 16 (pad_of w nonce (length message))))

unfoldable pub tag_of : Maps → ℕ → List ℕ → List ℕ → ℕ
tag_of w nonce header message = bit_xor (message_tag_of w nonce message) (header_tag_of w header)

-- a message seals, under a nonce and a header, to these bytes and this tag
pub record Seals (w : Maps) (mode : Mode) (nonce : ℕ) (header message sealed : List ℕ) (tag : ℕ) : Type 0 where
  pub bytes : Bytes message
  pub sealed_is : sealed ≡ sealed_bytes w mode nonce message
  pub tag_is : tag ≡ tag_of w nonce header message

-- the same header, sealed bytes and tag, but for unequal bytes inside just one block of one of them
pub data Apart (header sealed : List ℕ) (tag : ℕ) : List ℕ → List ℕ → ℕ → Type 0 where
  in_header : {other : List ℕ} → OneBlock header other → Apart header sealed tag other sealed tag
  in_sealed : {other : List ℕ} → OneBlock sealed other → Apart header sealed tag header other tag
  in_tag : {other : ℕ} → tag ≢ other → Apart header sealed tag header sealed other
