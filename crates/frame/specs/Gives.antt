-- What each call on a frame answers and writes, in every case.
use Rattle.std.specs.Prelude.{◌≡◌, ℕ, ◌+◌, ◌%◌, ◌^◌, ◌<◌, ◌≤◌, ◌⊎◌, List, ◌++◌, length, take, drop, replicate, Ok, Err, Result, ◌≢◌}
use Rattle.block.specs.Bytes.{block_at}
use Rattle.mode.specs.declared.value.Mode.{Mode}
use Rattle.mode.specs.declared.fault.ModeFault.TheVariants.{OutputLength, NotSealed}
use Rattle.mode.specs.Values.{mode_value}
use Rattle.mode.specs.Sealing.{Maps, Seals}
use Rattle.frame.specs.declared.fault.FrameFault.{FrameFault}
use Rattle.frame.specs.declared.fault.FrameFault.TheVariants.{UnknownMode, ClearTooLong, MessageTooLong, OutputShort, FrameShort, BadField, FrameLength, Sealing}
use Rattle.frame.specs.declared.pieces.FrameParts.{FrameParts}
use Rattle.frame.specs.Fields.{mode_byte, sealed_length, sealed_start, tag_start, sender_of, frame_number, AllHold, Breaks}
use Rattle.frame.specs.Form.{frame_of, header_of, clear_part, sealed_part, tag_part, WellFormed, SealsTo, Neighbours}

-- a mode's number
abbrev pub Known : ℕ → Type 0
Known m = (m ≡ 1) ⊎ (m ≡ 2)

-- the parts of a frame, with their places
pub record PartsOf (f : List ℕ) (p : FrameParts) : Type 0 where
  pub form : WellFormed f
  pub mode_is : form.mode ≡ p.mode
  pub sender_is : p.sender ≡ sender_of f
  pub number_is : p.number ≡ frame_number f
  pub header_is : p.header.now ≡ header_of f
  pub clear_at : p.clear.at ≡ 32
  pub clear_is : p.clear.bytes.now ≡ clear_part f
  pub sealed_at : p.sealed.at ≡ sealed_start f
  pub sealed_is : p.sealed.bytes.now ≡ sealed_part f
  pub tag_at : p.tag.at ≡ tag_start f
  pub tag_is : p.tag.bytes.now ≡ tag_part f

-- why bytes are not a frame: the first of these that holds
abbrev pub Malformed : List ℕ → FrameFault → Type 0
Malformed f FrameShort = length f < 48
Malformed f UnknownMode = (48 ≤ length f) × (Known (mode_byte f) → ⊥)
Malformed f (BadField field) = (48 ≤ length f) × Known (mode_byte f) × Breaks field f
Malformed f FrameLength = (48 ≤ length f) × Known (mode_byte f) × AllHold f × (length f ≢ tag_start f + 16)
Malformed f ClearTooLong = ⊥
Malformed f MessageTooLong = ⊥
Malformed f OutputShort = ⊥
Malformed f (Sealing fault) = ⊥

abbrev pub PartsGives : List ℕ → Result FrameParts FrameFault → Type 0
PartsGives f (Ok p) = PartsOf f p
PartsGives f (Err fault) = Malformed f fault

-- sealing into a frame, where the output was `was` and is `out`
pub record Framed (w : Maps) (sender number m : ℕ) (clear message was out : List ℕ) (n : ℕ) : Type 0 where
  pub mode : Mode
  pub mode_is : m ≡ mode_value mode
  pub clear_short : length clear ≤ 1024
  pub message_short : length message ≤ 1024
  pub length_is : n ≡ 48 + length clear + length message
  pub room : n ≤ length was
  pub out_is : out ≡ frame_of w mode sender number clear message ++ drop n was

abbrev pub FrameSeals : Maps → (sender number m : ℕ) (clear message was out : List ℕ) → Result ℕ FrameFault → Type 0
FrameSeals w sender number m clear message was out (Ok n) = Framed w sender number m clear message was out n
FrameSeals w sender number m clear message was out (Err UnknownMode) = (Known m → ⊥) × (out ≡ was)
FrameSeals w sender number m clear message was out (Err ClearTooLong) = Known m × (1024 < length clear) × (out ≡ was)
FrameSeals w sender number m clear message was out (Err MessageTooLong) = Known m × (length clear ≤ 1024) × (1024 < length message) × (out ≡ was)
FrameSeals w sender number m clear message was out (Err OutputShort) =
    Known m × (length clear ≤ 1024) × (length message ≤ 1024) × (length was < 48 + length clear + length message) × (out ≡ was)
FrameSeals w sender number m clear message was out (Err FrameShort) = ⊥
FrameSeals w sender number m clear message was out (Err (BadField field)) = ⊥
FrameSeals w sender number m clear message was out (Err FrameLength) = ⊥
FrameSeals w sender number m clear message was out (Err (Sealing fault)) = ⊥

-- what a frame is that a message was sealed into: read back it says what it was given; its message alone seals to it, and none to a neighbour
pub record SealedFrame (w : Maps) (sender number : ℕ) (clear message f : List ℕ) : Type 0 where
  pub sender_is : sender_of f ≡ sender
  pub number_is : frame_number f ≡ number % 2 ^ 48
  pub clear_is : clear_part f ≡ clear
  pub seals : SealsTo w message f
  pub alone : (other : List ℕ) → SealsTo w other f → other ≡ message
  pub apart : (g other : List ℕ) → Neighbours f g → SealsTo w other g → ⊥

abbrev pub SealsFrame : Maps → (sender number : ℕ) (clear message out : List ℕ) → Result ℕ FrameFault → Type 0
SealsFrame w sender number clear message out (Ok n) = SealedFrame w sender number clear message (take n out)
SealsFrame w sender number clear message out (Err fault) = Unit {0}

-- a message seals to the sealed part and the tag, under the header and the nonce in it
abbrev pub SealsToParts : Maps → FrameParts → List ℕ → Type 0
SealsToParts w p message = Seals w p.mode (block_at 16 p.header.now) p.header.now message p.sealed.bytes.now (block_at 0 p.tag.bytes.now)

-- opening over any parts
pub record PartsOpened (w : Maps) (p : FrameParts) (was out : List ℕ) (n : ℕ) : Type 0 where
  pub length_is : n ≡ length p.sealed.bytes.now
  pub room : n ≤ length was
  pub seals : SealsToParts w p (take n out)
  pub rest_stays : drop n out ≡ drop n was

abbrev pub PartsOpen : Maps → FrameParts → (was out : List ℕ) → Result ℕ FrameFault → Type 0
PartsOpen w p was out (Ok n) = PartsOpened w p was out n
PartsOpen w p was out (Err UnknownMode) = ⊥
PartsOpen w p was out (Err ClearTooLong) = ⊥
PartsOpen w p was out (Err MessageTooLong) = ⊥
PartsOpen w p was out (Err OutputShort) = (length was < length p.sealed.bytes.now) × (out ≡ was)
PartsOpen w p was out (Err FrameShort) = ⊥
PartsOpen w p was out (Err (BadField field)) = ⊥
PartsOpen w p was out (Err FrameLength) = ⊥
PartsOpen w p was out (Err (Sealing OutputLength)) = ⊥
PartsOpen w p was out (Err (Sealing NotSealed)) =
    (length p.sealed.bytes.now ≤ length was) × ((message : List ℕ) → SealsToParts w p message → ⊥)
    × (out ≡ replicate (length p.sealed.bytes.now) 0 ++ drop (length p.sealed.bytes.now) was)

-- opening a frame
pub record Opened (w : Maps) (f was out : List ℕ) (n : ℕ) : Type 0 where
  pub length_is : n ≡ sealed_length f
  pub room : n ≤ length was
  pub seals : SealsTo w (take n out) f
  pub rest_stays : drop n out ≡ drop n was

abbrev pub FrameOpens : Maps → (f was out : List ℕ) → Result ℕ FrameFault → Type 0
FrameOpens w f was out (Ok n) = Opened w f was out n
FrameOpens w f was out (Err UnknownMode) = Malformed f UnknownMode × (out ≡ was)
FrameOpens w f was out (Err ClearTooLong) = ⊥
FrameOpens w f was out (Err MessageTooLong) = ⊥
FrameOpens w f was out (Err OutputShort) = WellFormed f × (length was < sealed_length f) × (out ≡ was)
FrameOpens w f was out (Err FrameShort) = Malformed f FrameShort × (out ≡ was)
FrameOpens w f was out (Err (BadField field)) = Malformed f (BadField field) × (out ≡ was)
FrameOpens w f was out (Err FrameLength) = Malformed f FrameLength × (out ≡ was)
FrameOpens w f was out (Err (Sealing OutputLength)) = ⊥
FrameOpens w f was out (Err (Sealing NotSealed)) =
    WellFormed f × (sealed_length f ≤ length was) × ((message : List ℕ) → SealsTo w message f → ⊥)
    × (out ≡ replicate (sealed_length f) 0 ++ drop (sealed_length f) was)
