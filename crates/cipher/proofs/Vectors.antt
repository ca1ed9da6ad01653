-- The designers' worked example of Speck128/128, at the definition.
use Rattle.std.proofs.Common.{◌≡◌, ℕ, List, refl}
use Rattle.block.specs.Bytes.{bytes_of}
use Rattle.cipher.specs.Speck.{new_left, new_right, round, old_left, old_right, round_back_of, encrypted, decrypted, next_keys, keys_from, round_keys}

abbrev key : List ℕ
key = bytes_of 16 0x0f0e0d0c0b0a09080706050403020100

known : encrypted (round_keys key) 0x6c617669757165207469206564616d20 ≡ 0xa65d9851797832657860fedf5c570d18
unfolding encrypted round new_left new_right next_keys keys_from bytes_of
known = refl

known_back : decrypted (round_keys key) 0xa65d9851797832657860fedf5c570d18 ≡ 0x6c617669757165207469206564616d20
unfolding decrypted round_back_of old_left old_right round new_left new_right next_keys keys_from bytes_of
known_back = refl
