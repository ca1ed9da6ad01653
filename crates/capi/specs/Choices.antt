-- The ciphers and maskings by their numbers, and what they mean under a key.
use Rattle.std.specs.Prelude.{◌≡◌, ℕ, ◌⊎◌, List, Ok, Err, Result, ◌≢◌, MatchResult}
use Rattle.aes.specs.Cipher.{cipher, inv_cipher}
use Rattle.aes.specs.KeyExpansion.{round_keys as aes_keys}
use Rattle.cipher.specs.Speck.{encrypted, decrypted, round_keys as speck_keys}
use Rattle.masking.specs.Doubling.{doubled, undoubled}
use Rattle.masking.specs.Tower.{tower_step, tower_back}
use Rattle.mode.specs.Sealing.{Maps}
use Rattle.capi.specs.declared.choices.NotMade.{NotMade}
use Rattle.capi.specs.declared.choices.NotMade.TheVariants.{UnknownCipher, UnknownMasking, KeyLength, NonceLength, TagLength, UnknownMode}
use Rattle.capi.specs.declared.choices.CipherChoice.{CipherChoice}
use Rattle.capi.specs.declared.choices.CipherChoice.TheVariants.{Aes, Speck}
use Rattle.capi.specs.declared.choices.MaskingChoice.{MaskingChoice}
use Rattle.capi.specs.declared.choices.MaskingChoice.TheVariants.{Doubling, Tower}
use Rattle.capi.specs.declared.choices.KeyedCipher.{KeyedCipher}
use Rattle.capi.specs.declared.choices.Choice.{Choice}

-- the number of a cipher, and of a masking
abbrev pub cipher_number : CipherChoice → ℕ
cipher_number Aes = 1
cipher_number Speck = 2

abbrev pub masking_number : MaskingChoice → ℕ
masking_number Doubling = 1
masking_number Tower = 2

-- one of the two numbers
abbrev pub OneOrTwo : ℕ → Type 0
OneOrTwo n = (n ≡ 1) ⊎ (n ≡ 2)

-- what a number names, or that it names nothing
abbrev pub CipherOf : ℕ → Result CipherChoice NotMade → Type 0
CipherOf n r = MatchResult r (λ choice. n ≡ cipher_number choice) (λ why. (why ≡ UnknownCipher) × (OneOrTwo n → ⊥))

abbrev pub MaskingOf : ℕ → Result MaskingChoice NotMade → Type 0
MaskingOf n r = MatchResult r (λ choice. n ≡ masking_number choice) (λ why. (why ≡ UnknownMasking) × (OneOrTwo n → ⊥))

-- which cipher a number and the length of a key choose, or why none
abbrev pub CipherIs : ℕ → ℕ → Result KeyedCipher NotMade → Type 0
CipherIs n key (Ok keyed) = (n ≡ cipher_number keyed.cipher) × (key ≡ 16)
CipherIs n key (Err UnknownCipher) = OneOrTwo n → ⊥
CipherIs n key (Err KeyLength) = OneOrTwo n × (key ≢ 16)
CipherIs n key (Err UnknownMasking) = ⊥
CipherIs n key (Err NonceLength) = ⊥
CipherIs n key (Err TagLength) = ⊥
CipherIs n key (Err UnknownMode) = ⊥

-- which cipher and masking two numbers and the length of a key choose, or why none
abbrev pub Chooses : ℕ → ℕ → ℕ → Result Choice NotMade → Type 0
Chooses c m key (Ok choice) = (c ≡ cipher_number choice.keyed.cipher) × (m ≡ masking_number choice.masking) × (key ≡ 16)
Chooses c m key (Err UnknownCipher) = OneOrTwo c → ⊥
Chooses c m key (Err KeyLength) = OneOrTwo c × (key ≢ 16)
Chooses c m key (Err UnknownMasking) = OneOrTwo c × (key ≡ 16) × (OneOrTwo m → ⊥)
Chooses c m key (Err NonceLength) = ⊥
Chooses c m key (Err TagLength) = ⊥
Chooses c m key (Err UnknownMode) = ⊥

-- the two maps of a chosen cipher under a key
abbrev pub forward_under : List ℕ → CipherChoice → ℕ → ℕ
forward_under key Aes = cipher (aes_keys key)
forward_under key Speck = encrypted (speck_keys key)

abbrev pub backward_under : List ℕ → CipherChoice → ℕ → ℕ
backward_under key Aes = inv_cipher (aes_keys key)
backward_under key Speck = decrypted (speck_keys key)

-- the two maps of a cipher, with those of a chosen masking
abbrev pub masked_by : MaskingChoice → (ℕ → ℕ) → (ℕ → ℕ) → Maps
masked_by Doubling forward backward = record { forward = forward; backward = backward; step = doubled; back = undoubled }
masked_by Tower forward backward = record { forward = forward; backward = backward; step = tower_step; back = tower_back }

-- the maps of a chosen cipher under a key, with those of a chosen masking
abbrev pub maps_under : CipherChoice → MaskingChoice → List ℕ → Maps
maps_under cipher masking key = masked_by masking (forward_under key cipher) (backward_under key cipher)
