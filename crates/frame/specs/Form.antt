-- What a frame is: its head, its parts, and which messages seal to it.
use Rattle.std.specs.Prelude.{◌≡◌, ℕ, ◌+◌, ◌*◌, ◌≤◌, min, ◌≢◌, List, ◌∷◌, ◌++◌, length, take, drop, replicate}
use Rattle.block.specs.Bytes.{Bytes, bytes_of, number_of, block_at}
use Rattle.mode.specs.declared.value.Mode.{Mode}
use Rattle.mode.specs.Values.{mode_value}
use Rattle.mode.specs.Sealing.{Maps, Seals, sealed_bytes, tag_of}
use Rattle.frame.specs.Fields.{mode_byte, clear_length, sealed_length, sealed_start, tag_start, AllHold}

-- a head's 32 bytes, for a clear part of h and a message of p bytes
unfoldable pub head_of : Mode → (h p sender number : ℕ) → List ℕ
head_of mode h p sender number =
    mode_value mode ∷ 0 ∷ (bytes_of 2 h ++ (bytes_of 2 p ++ (bytes_of 2 32 ++ (bytes_of 2 (32 + h) ++ (bytes_of 2 (32 + h + p)
    ++ (replicate 4 0 ++ (sender ∷ (replicate 7 0 ++ (replicate 2 0 ++ bytes_of 6 number)))))))))

-- the mode's header: head and clear part together
abbrev pub header_from : Mode → (sender number : ℕ) (clear message : List ℕ) → List ℕ
header_from mode sender number clear message = head_of mode (length clear) (length message) sender number ++ clear

-- the frame that a message is sealed into; the nonce is bytes 16 to 31
unfoldable pub frame_of : Maps → Mode → (sender number : ℕ) (clear message : List ℕ) → List ℕ
frame_of w mode sender number clear message =
    let header : List ℕ = header_from mode sender number clear message in
    header ++ (sealed_bytes w mode (block_at 16 header) message ++ bytes_of 16 (tag_of w (block_at 16 header) header message))

-- the parts of a frame, by its head
abbrev pub header_of : List ℕ → List ℕ
header_of f = take (sealed_start f) f

abbrev pub clear_part : List ℕ → List ℕ
clear_part f = take (clear_length f) (drop 32 f)

abbrev pub sealed_part : List ℕ → List ℕ
sealed_part f = take (sealed_length f) (drop (sealed_start f) f)

abbrev pub tag_part : List ℕ → List ℕ
tag_part f = take 16 (drop (tag_start f) f)

abbrev pub nonce_of : List ℕ → ℕ
nonce_of f = block_at 16 f

-- bytes with a head that keeps every line, and just as long as it says
pub record WellFormed (f : List ℕ) : Type 0 where
  pub bytes : Bytes f
  pub long : 48 ≤ length f
  pub mode : Mode
  pub mode_is : mode_byte f ≡ mode_value mode
  pub fields : AllHold f
  pub whole : length f ≡ tag_start f + 16

-- a message seals to a frame: sealing it under that head and clear part gives that sealed part and tag
pub record SealsTo (w : Maps) (message f : List ℕ) : Type 0 where
  pub form : WellFormed f
  pub seals : Seals w form.mode (nonce_of f) (header_of f) message (sealed_part f) (number_of (tag_part f))

-- the parts whose blocks are counted, each from its own start
pub data Part : Type 0 where
  Clear : Part
  Sealed : Part
  Tag : Part

abbrev pub part_start : Part → List ℕ → ℕ
part_start Clear f = 32
part_start Sealed f = sealed_start f
part_start Tag f = tag_start f

abbrev pub part_end : Part → List ℕ → ℕ
part_end Clear f = sealed_start f
part_end Sealed f = tag_start f
part_end Tag f = tag_start f + 16

-- two frames of equal length that differ inside just one block of one part; the last block of a part may be short
pub record Neighbours (f g : List ℕ) : Type 0 where
  pub long : length f ≡ length g
  pub unequal : f ≢ g
  pub part : Part
  pub block : ℕ
  pub front : take (part_start part f + 16 * block) f ≡ take (part_start part f + 16 * block) g
  pub rest : drop (min (part_start part f + 16 * block + 16) (part_end part f)) f ≡ drop (min (part_start part f + 16 * block + 16) (part_end part f)) g
