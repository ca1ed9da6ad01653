-- The cipher of ten rounds under eleven round keys, and the inverse cipher.
use Rattle.std.specs.Prelude.{ℕ, zero, suc, List, [], slice_index_or}
use Rattle.aes.specs.State.{State, state_of, block_of}
use Rattle.aes.specs.Steps.{sub_bytes_of, inv_sub_bytes_of, shift_rows_of, inv_shift_rows_of, mix_columns_of, inv_mix_columns_of, add_round_key_of}
use Rattle.aes.specs.KeyExpansion.{round_keys}

-- a round, and the last one, which mixes no columns
unfoldable pub round : State → State → State
round k s = add_round_key_of (mix_columns_of (shift_rows_of (sub_bytes_of s))) k

unfoldable pub last_round : State → State → State
last_round k s = add_round_key_of (shift_rows_of (sub_bytes_of s)) k

-- the rounds from key 1 up to key n
unfoldable pub up_to : List State → ℕ → State → State
up_to ks zero s = s
up_to ks (suc n) s = round (slice_index_or ks (suc n) []) (up_to ks n s)

-- all ten, after the first key is added
unfoldable pub enciphered : List State → State → State
enciphered ks s = last_round (slice_index_or ks 10 []) (up_to ks 9 (add_round_key_of s (slice_index_or ks 0 [])))

abbrev pub cipher : List State → ℕ → ℕ
cipher ks x = block_of (enciphered ks (state_of x))

-- a round of the inverse cipher, and its last one
unfoldable pub inv_round_of : State → State → State
inv_round_of k s = inv_mix_columns_of (add_round_key_of (inv_sub_bytes_of (inv_shift_rows_of s)) k)

unfoldable pub inv_last_round : State → State → State
inv_last_round k s = add_round_key_of (inv_sub_bytes_of (inv_shift_rows_of s)) k

-- the rounds of the inverse cipher from key n down to key 1
unfoldable pub down_from : List State → ℕ → State → State
down_from ks zero s = s
down_from ks (suc n) s = down_from ks n (inv_round_of (slice_index_or ks (suc n) []) s)

-- all ten, after the last key is added
unfoldable pub deciphered : List State → State → State
deciphered ks s = inv_last_round (slice_index_or ks 0 []) (down_from ks 9 (add_round_key_of s (slice_index_or ks 10 [])))

abbrev pub inv_cipher : List State → ℕ → ℕ
inv_cipher ks y = block_of (deciphered ks (state_of y))

-- the block cipher under a key of sixteen bytes, and the way back
abbrev pub aes128 : List ℕ → ℕ → ℕ
aes128 key = cipher (round_keys key)

abbrev pub inv_aes128 : List ℕ → ℕ → ℕ
inv_aes128 key = inv_cipher (round_keys key)
