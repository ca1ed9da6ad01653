-- The maps of a cipher chosen at run time: those of the cipher that it holds, swapped where it holds an inverse.
use Rattle.std.specs.Prelude.{ℕ}
use Rattle.block.specs.Maps.{Undo, same, undo_same, undo_swap}
use Rattle.aes.specs.Cipher.{cipher, inv_cipher}
use Rattle.aes.specs.CipherLaws.{cipher_undo}
use Rattle.aes.specs.RoundKeys.{cells_of}
use Rattle.cipher.specs.Speck.{encrypted, decrypted}
use Rattle.cipher.specs.SpeckLaws.{speck_undo}
use Rattle.suite.specs.declared.ciphers.Plain.{Plain}
use Rattle.suite.specs.declared.ciphers.Plain.TheVariants.{Identity, Aes, Speck}
use Rattle.suite.specs.declared.ciphers.AnyCipher.{AnyCipher}
use Rattle.suite.specs.declared.ciphers.AnyCipher.TheVariants.{Forward, Inverse}

abbrev pub plain_forward : Plain → ℕ → ℕ
plain_forward (Identity c) = same
plain_forward (Aes c) = cipher (cells_of c.keys)
plain_forward (Speck c) = encrypted c.keys

abbrev pub plain_backward : Plain → ℕ → ℕ
plain_backward (Identity c) = same
plain_backward (Aes c) = inv_cipher (cells_of c.keys)
plain_backward (Speck c) = decrypted c.keys

pub plain_undo : (p : Plain) → Undo (plain_forward p) (plain_backward p)
plain_undo (Identity c) = undo_same
plain_undo (Aes c) = cipher_undo (cells_of c.keys) c.fit
plain_undo (Speck c) = speck_undo c.keys c.fit

abbrev pub forward_of : AnyCipher → ℕ → ℕ
forward_of (Forward p) = plain_forward p
forward_of (Inverse c) = plain_backward c.inner

abbrev pub backward_of : AnyCipher → ℕ → ℕ
backward_of (Forward p) = plain_backward p
backward_of (Inverse c) = plain_forward c.inner

pub any_undo : (c : AnyCipher) → Undo (forward_of c) (backward_of c)
any_undo (Forward p) = plain_undo p
any_undo (Inverse c) = undo_swap (plain_forward c.inner) (plain_backward c.inner) (plain_undo c.inner)
