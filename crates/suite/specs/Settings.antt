-- The maps of the cipher that a setting names, the masking that one names, and the words for maskings.
use Rattle.std.specs.Prelude.{ℕ, List, codes}
use Rattle.block.specs.Maps.{same}
use Rattle.aes.specs.Cipher.{cipher, inv_cipher}
use Rattle.aes.specs.KeyExpansion.{round_keys as aes_keys}
use Rattle.cipher.specs.Speck.{encrypted, decrypted, round_keys as speck_keys}
use Rattle.suite.specs.declared.maskings.AnyMasking.{AnyMasking}
use Rattle.suite.specs.declared.maskings.AnyMasking.TheVariants.{Doubling as ByDoubling, Tower as ByTower}
use Rattle.suite.specs.declared.settings.CipherSetting.{CipherSetting}
use Rattle.suite.specs.declared.settings.CipherSetting.TheVariants.{Plain, Inverse}
use Rattle.suite.specs.declared.settings.MaskingSetting.{MaskingSetting}
use Rattle.suite.specs.declared.settings.MaskingSetting.TheVariants.{Doubling, Tower}
use Rattle.suite.specs.declared.settings.PlainSetting.{PlainSetting}
use Rattle.suite.specs.declared.settings.PlainSetting.TheVariants.{Identity, Aes, Speck}

abbrev pub plain_forward : PlainSetting → ℕ → ℕ
plain_forward Identity = same
plain_forward (Aes key) = cipher (aes_keys key)
plain_forward (Speck key) = encrypted (speck_keys key)

abbrev pub plain_backward : PlainSetting → ℕ → ℕ
plain_backward Identity = same
plain_backward (Aes key) = inv_cipher (aes_keys key)
plain_backward (Speck key) = decrypted (speck_keys key)

-- swapped for the inverse
abbrev pub forward_for : CipherSetting → ℕ → ℕ
forward_for (Plain plain) = plain_forward plain
forward_for (Inverse plain) = plain_backward plain

abbrev pub backward_for : CipherSetting → ℕ → ℕ
backward_for (Plain plain) = plain_backward plain
backward_for (Inverse plain) = plain_forward plain

-- the masking of that name
abbrev pub masking_for : MaskingSetting → AnyMasking
masking_for Doubling = ByDoubling
masking_for Tower = ByTower

abbrev pub word_of : MaskingSetting → List ℕ
word_of Doubling = codes "doubling"
word_of Tower = codes "tower"
