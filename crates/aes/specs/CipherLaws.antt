-- The cipher and the inverse cipher undo each other, for all round keys of bytes.
use Rattle.std.specs.Prelude.{ℕ, zero, suc, ◌^◌, ◌<◌, List, [], slice_index_or}
use Rattle.block.specs.Maps.{Undo}
use Rattle.aes.specs.State.{State, cell}
use Rattle.aes.specs.Steps.{sub_bytes_of, inv_sub_bytes_of, shift_rows_of, inv_shift_rows_of, mix_columns_of, inv_mix_columns_of, add_round_key_of}
use Rattle.aes.specs.Cipher.{round, last_round, up_to, enciphered, cipher, inv_round_of, inv_last_round, down_from, deciphered, inv_cipher}
use Rattle.aes.specs.Layers.{Layer, then, on_blocks, substitution, shift, mix, KeyBytes, key_addition}

-- substitution and row shift
half : Layer (λ s. shift_rows_of (sub_bytes_of s)) (λ s. inv_sub_bytes_of (inv_shift_rows_of s))
half = then sub_bytes_of inv_sub_bytes_of shift_rows_of inv_shift_rows_of substitution shift

-- key addition, substitution and row shift
keyed : (k : State) → KeyBytes k → Layer (λ s. shift_rows_of (sub_bytes_of (add_round_key_of s k))) (λ s. add_round_key_of (inv_sub_bytes_of (inv_shift_rows_of s)) k)
keyed k h = then (λ s. add_round_key_of s k) (λ s. add_round_key_of s k) (λ s. shift_rows_of (sub_bytes_of s)) (λ s. inv_sub_bytes_of (inv_shift_rows_of s)) (key_addition k h) half

-- each byte of each round key is one
abbrev pub AllKeyBytes : List State → Type 0
AllKeyBytes ks = (n i j : ℕ) → cell (slice_index_or ks n []) i j < 2 ^ 8

module _ (ks : List State) (fit : AllKeyBytes ks) where
  -- n rounds, with the substitution and the row shift of the next one
  rounds : (n : ℕ) → Layer (λ s. shift_rows_of (sub_bytes_of (up_to ks n (add_round_key_of s (slice_index_or ks 0 []))))) (λ s. inv_last_round (slice_index_or ks 0 []) (down_from ks n s))
  unfolding up_to down_from round inv_round_of inv_last_round
  rounds zero = keyed (slice_index_or ks 0 []) (fit 0)
  rounds (suc n) =
      then (λ s. shift_rows_of (sub_bytes_of (up_to ks n (add_round_key_of s (slice_index_or ks 0 []))))) (λ s. inv_last_round (slice_index_or ks 0 []) (down_from ks n s))
      (λ s. shift_rows_of (sub_bytes_of (add_round_key_of (mix_columns_of s) (slice_index_or ks (suc n) []))))
      (λ s. inv_mix_columns_of (add_round_key_of (inv_sub_bytes_of (inv_shift_rows_of s)) (slice_index_or ks (suc n) [])))
      (rounds n)
      (then mix_columns_of inv_mix_columns_of (λ s. shift_rows_of (sub_bytes_of (add_round_key_of s (slice_index_or ks (suc n) []))))
      (λ s. add_round_key_of (inv_sub_bytes_of (inv_shift_rows_of s)) (slice_index_or ks (suc n) [])) mix (keyed (slice_index_or ks (suc n) []) (fit (suc n))))

  all_rounds : Layer (enciphered ks) (deciphered ks)
  unfolding enciphered deciphered last_round
  all_rounds =
      then (λ s. shift_rows_of (sub_bytes_of (up_to ks 9 (add_round_key_of s (slice_index_or ks 0 []))))) (λ s. inv_last_round (slice_index_or ks 0 []) (down_from ks 9 s))
      (λ s. add_round_key_of s (slice_index_or ks 10 [])) (λ s. add_round_key_of s (slice_index_or ks 10 [])) (rounds 9) (key_addition (slice_index_or ks 10 []) (fit 10))

  pub cipher_undo : Undo (cipher ks) (inv_cipher ks)
  cipher_undo = on_blocks (enciphered ks) (deciphered ks) all_rounds
