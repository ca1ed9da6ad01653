-- Speck128/128, as its designers define it: two words of 64 bits, 32 rounds, and a key schedule that runs the same round.
use Rattle.std.specs.Prelude.{◌≡◌, ℕ, zero, suc, ◌+◌, ◌-◌, ◌*◌, ◌/◌, ◌%◌, ◌^◌, List, [], ◌∷◌, bit_xor}
use Rattle.block.specs.Bytes.{block_at}

-- a block is its left word, then its right word
abbrev pub left_of : ℕ → ℕ
left_of b = b / 2 ^ 64

abbrev pub right_of : ℕ → ℕ
right_of b = b % 2 ^ 64

abbrev pub joined : ℕ → ℕ → ℕ
joined x y = x * 2 ^ 64 + y

-- x and y are the two words of a block
pub record IsWordsOf (b x y : ℕ) : Type 0 where
  pub left : x ≡ left_of b
  pub right : y ≡ right_of b
  pub whole : joined x y ≡ b

-- a word with its n low bits moved to the top
abbrev pub rotated_right : ℕ → ℕ → ℕ
rotated_right n w = w % 2 ^ n * 2 ^ (64 - n) + w / 2 ^ n

-- a word with its n high bits moved to the bottom
abbrev pub rotated_left : ℕ → ℕ → ℕ
rotated_left n w = rotated_right (64 - n) w

-- what a round under the key k makes of the left word, and then of the right one
unfoldable pub new_left : ℕ → ℕ → ℕ → ℕ
new_left k x y = bit_xor ((rotated_right 8 x + y) % 2 ^ 64) k

unfoldable pub new_right : ℕ → ℕ → ℕ
new_right x y = bit_xor (rotated_left 3 y) x

unfoldable pub round : ℕ → ℕ → ℕ
round k b = joined (new_left k (left_of b) (right_of b)) (new_right (new_left k (left_of b) (right_of b)) (right_of b))

-- the words that a round came from: the right one first
unfoldable pub old_right : ℕ → ℕ → ℕ
old_right x y = rotated_right 3 (bit_xor y x)

unfoldable pub old_left : ℕ → ℕ → ℕ → ℕ
old_left k x y = rotated_left 8 ((bit_xor x k + (2 ^ 64 - y)) % 2 ^ 64)

unfoldable pub round_back_of : ℕ → ℕ → ℕ
round_back_of k b = joined (old_left k (left_of b) (old_right (left_of b) (right_of b))) (old_right (left_of b) (right_of b))

-- a round for each round key, the first key first
unfoldable pub encrypted : List ℕ → ℕ → ℕ
encrypted [] b = b
encrypted (k ∷ ks) b = encrypted ks (round k b)

-- and the way back, the last key first
unfoldable pub decrypted : List ℕ → ℕ → ℕ
decrypted [] b = b
decrypted (k ∷ ks) b = round_back_of k (decrypted ks b)

-- the next n round keys: each is the right word after a round whose key is the round's own number, counted from i
unfoldable pub next_keys : ℕ → ℕ → ℕ → List ℕ
next_keys zero i b = []
next_keys (suc n) i b = right_of (round i b) ∷ next_keys n (suc i) (round i b)

-- 32 round keys from a block: the first is its right word
unfoldable pub keys_from : ℕ → List ℕ
keys_from b = right_of b ∷ next_keys 31 0 b

-- the round keys of a key of 16 bytes
abbrev pub round_keys : List ℕ → List ℕ
round_keys key = keys_from (block_at 0 key)
