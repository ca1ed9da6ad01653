-- The worked example of FIPS 197, at the definition: key 2b7e.., both ways, through the key expansion.
use Rattle.std.proofs.Common.{◌≡◌, ℕ, List, [], ◌∷◌, get_or, refl}
use Rattle.block.specs.Bytes.{bytes_of, number_of}
use Rattle.gf256.specs.Field.{times, product, power, squares, inverse}
use Rattle.gf256.specs.Substitution.{bit_map, bit_map_back, substituted, restored}
use Rattle.aes.specs.State.{state_of, block_of}
use Rattle.aes.specs.KeyExpansion.{next_word_of, words_from, expanded_key, by_four, round_keys}
use Rattle.aes.specs.Cipher.{round, last_round, up_to, enciphered, inv_round_of, inv_last_round, down_from, deciphered, aes128, inv_aes128}

abbrev key : List ℕ
key = 0x2b ∷ 0x7e ∷ 0x15 ∷ 0x16 ∷ 0x28 ∷ 0xae ∷ 0xd2 ∷ 0xa6 ∷ 0xab ∷ 0xf7 ∷ 0x15 ∷ 0x88 ∷ 0x09 ∷ 0xcf ∷ 0x4f ∷ 0x3c ∷ []

entry : substituted 0x53 ≡ 0xed
unfolding substituted bit_map inverse squares product times
entry = refl

last_word : number_of (get_or (expanded_key key) 43 []) ≡ 0xb6630ca6
unfolding expanded_key words_from next_word_of substituted bit_map inverse squares power product times
last_word = refl

there : aes128 key 0x3243f6a8885a308d313198a2e0370734 ≡ 0x3925841d02dc09fbdc118597196a0b32
unfolding round_keys by_four expanded_key words_from next_word_of enciphered up_to round last_round state_of block_of bytes_of substituted bit_map inverse squares power product times
there = refl

back : inv_aes128 key 0x3925841d02dc09fbdc118597196a0b32 ≡ 0x3243f6a8885a308d313198a2e0370734
unfolding round_keys by_four expanded_key words_from next_word_of deciphered down_from inv_round_of inv_last_round state_of block_of bytes_of substituted restored bit_map bit_map_back inverse squares power product times
back = refl
