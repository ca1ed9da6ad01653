-- Every row holds by computation, once it is said that each message is of bytes.
use Prim.Native.Nat.{ℕ, ◌<◌}
use mathlib.Core.List.{List, [], ◌∷◌}
use mathlib.Core.Path.{◌≡◌, refl}
use lib.Dec.{lit<}
use Rattle.block.specs.Bytes.{Bytes, none, more, bytes_of, xor_bytes}
use Rattle.block.specs.BytesLaws.{bytes_append, bytes_replicate}
use Rattle.block.specs.Cut.{fill_with, through, sum_of}
use Rattle.block.specs.Double.{double, halve}
use Rattle.masking.specs.Steps.{times}
use Rattle.mode.specs.declared.value.Mode.TheVariants.{Forward, Dual}
use Rattle.mode.specs.Sealing.{delta_zero_of, delta_one_of, kappa, header_block, closing, some_header_tag, header_tag_of, gamma, masked, pad_of, body, sealed_bytes, tag_from_header, message_tag_of, tag_of, Seals}
use Rattle.worked.specs.Rows.{plain, one, table, AllHold, TableHolds}
use Rattle.worked.proofs.rows.Goals as goal

-- a message seals in both modes, from its three equations
both : (header message bytes : List ℕ) (tag : ℕ) → Bytes message → bytes ≡ sealed_bytes plain Forward 0 message → bytes ≡ sealed_bytes plain Dual 0 message
    → tag ≡ tag_of plain 0 header message → Seals plain Forward 0 header message bytes tag × Seals plain Dual 0 header message bytes tag
both header message bytes tag b s d t = (record { bytes = b; sealed_is = s; tag_is = t }, record { bytes = b; sealed_is = d; tag_is = t })

byte : (b : ℕ) → b < 256 → Bytes (b ∷ [])
byte b h = more h none

one_bytes : Bytes one
one_bytes = bytes_append (0 ∷ []) _ (byte 0 (lit< tt)) (bytes_append _ (1 ∷ []) (bytes_replicate 14 0 (lit< tt)) (byte 1 (lit< tt)))

all_hold : AllHold table
unfolding double halve bytes_of fill_with xor_bytes through sum_of times delta_zero_of delta_one_of kappa header_block closing some_header_tag header_tag_of gamma masked pad_of body sealed_bytes tag_from_header message_tag_of tag_of
all_hold = (
  both _ _ _ _ none refl refl refl,
  (
    both _ _ _ _ (byte 0xa5 (lit< tt)) refl refl refl,
    (
      both _ _ _ _ one_bytes refl refl refl,
      (
        both _ _ _ _ (bytes_append one _ one_bytes (byte 0xff (lit< tt))) refl refl refl,
        (
          both _ _ _ _ none refl refl refl,
          (refl, (refl, (refl, (refl, (refl, (refl, tt)))))),
        ),
      ),
    ),
  ),
)

pub returns-clause-hold : goal.returns-clause-hold
unfolding TableHolds
returns-clause-hold c = all_hold
