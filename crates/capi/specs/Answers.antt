-- What the calls answer and write, in every case.
use Rattle.std.specs.Prelude.{◌≡◌, ℕ, ◌*◌, ◌/◌, List, [], ◌++◌, length, drop, Ok, Err, Result, ◌≢◌}
use Rattle.block.specs.Bytes.{bytes_of, block_at}
use Rattle.block.specs.Cut.{through}
use Rattle.mode.specs.declared.fault.ModeFault.{ModeFault}
use Rattle.mode.specs.declared.value.Mode.{Mode}
use Rattle.mode.specs.Gives.{SealGives, OpenGives}
use Rattle.mode.specs.Sealing.{Maps}
use Rattle.mode.specs.Values.{mode_value}
use Rattle.frame.specs.declared.fault.FrameFault.{FrameFault}
use Rattle.frame.specs.Gives.{FrameSeals, FrameOpens}
use Rattle.capi.specs.declared.choices.NotMade.{NotMade}
use Rattle.capi.specs.declared.choices.NotMade.TheVariants.{UnknownCipher, UnknownMasking, KeyLength, NonceLength, TagLength, UnknownMode}
use Rattle.capi.specs.declared.choices.KeyedCipher.{KeyedCipher}
use Rattle.capi.specs.declared.choices.Choice.{Choice}
use Rattle.capi.specs.declared.choices.CipherChoice.{CipherChoice}
use Rattle.capi.specs.Choices.{OneOrTwo, CipherIs, Chooses, maps_under}
use Rattle.capi.specs.Codes.{frame_code_of, mode_code, not_made_code}

-- the code of an answer that a frame's definition allows
pub record FrameAnswers (Gives : Result ℕ FrameFault → Type 0) (code : ℕ) : Type 0 where
  pub answer : Result ℕ FrameFault
  pub gives : Gives answer
  pub code_is : code ≡ frame_code_of answer

-- sealing a frame, and opening one
abbrev pub FrameSealed : Maps → (sender number mode : ℕ) (clear message was out : List ℕ) → ℕ → Type 0
FrameSealed w sender number mode clear message was out code = FrameAnswers (FrameSeals w sender number mode clear message was out) code

abbrev pub FrameOpened : Maps → (frame was out : List ℕ) → ℕ → Type 0
FrameOpened w frame was out code = FrameAnswers (FrameOpens w frame was out) code

-- a call under the cipher and the masking of these numbers: what it gives under their maps, or why it is not made, with all as it was
abbrev pub Under : Result Choice NotMade → List ℕ → (Maps → Type 0) → Type 0 → ℕ → Type 0
Under (Ok choice) key Gives Stays code = Gives (maps_under choice.keyed.cipher choice.masking key)
Under (Err why) key Gives Stays code = (code ≡ not_made_code why) × Stays

-- the key of a choice
abbrev pub key_of : Result Choice NotMade → List ℕ
key_of (Ok choice) = choice.keyed.key.now
key_of (Err why) = []

pub record Called (cipher masking : ℕ) (key : List ℕ) (Gives : Maps → Type 0) (Stays : Type 0) (code : ℕ) : Type 0 where
  pub choice : Result Choice NotMade
  pub chosen : Chooses cipher masking (length key) choice
  pub given : Under choice key Gives Stays code

-- the tag that sealing writes
abbrev pub TagWritten : Result ℕ ModeFault → (was out : List ℕ) → Type 0
TagWritten (Ok tag) was out = out ≡ bytes_of 16 tag
TagWritten (Err fault) was out = out ≡ was

-- sealing in a mode
pub record ModeSealed (w : Maps) (mode : Mode) (nonce header message was out tag-was tag : List ℕ) (code : ℕ) : Type 0 where
  pub answer : Result ℕ ModeFault
  pub gives : SealGives w mode (block_at 0 nonce) header message was out answer
  pub tag_is : TagWritten answer tag-was tag
  pub code_is : code ≡ mode_code (length message) answer

-- opening in a mode
pub record ModeOpened (w : Maps) (mode : Mode) (nonce header sealed tag was out : List ℕ) (code : ℕ) : Type 0 where
  pub answer : Result (Unit {0}) ModeFault
  pub gives : OpenGives w mode (block_at 0 nonce) header sealed (block_at 0 tag) was out answer
  pub code_is : code ≡ mode_code (length sealed) answer

-- the mode of a number, with a nonce and a tag of such lengths, or why the call is not made
abbrev pub Asks : (mode nonce tag : ℕ) → Result Mode NotMade → Type 0
Asks m nonce tag (Ok mode) = (m ≡ mode_value mode) × (nonce ≡ 16) × (tag ≡ 16)
Asks m nonce tag (Err NonceLength) = nonce ≡ 16 → ⊥
Asks m nonce tag (Err TagLength) = (nonce ≡ 16) × (tag ≢ 16)
Asks m nonce tag (Err UnknownMode) = (nonce ≡ 16) × (tag ≡ 16) × (OneOrTwo m → ⊥)
Asks m nonce tag (Err UnknownCipher) = ⊥
Asks m nonce tag (Err UnknownMasking) = ⊥
Asks m nonce tag (Err KeyLength) = ⊥

abbrev pub InMode : Result Mode NotMade → (Mode → Type 0) → Type 0 → ℕ → Type 0
InMode (Ok mode) Gives Stays code = Gives mode
InMode (Err why) Gives Stays code = (code ≡ not_made_code why) × Stays

pub record Asked (mode nonce tag : ℕ) (Gives : Mode → Type 0) (Stays : Type 0) (code : ℕ) : Type 0 where
  pub asked : Result Mode NotMade
  pub asks : Asks mode nonce tag asked
  pub given : InMode asked Gives Stays code

-- every whole block through a map, and the bytes behind them as they are
unfoldable pub mapped : (ℕ → ℕ) → List ℕ → List ℕ
mapped f bs = through (λ i. f) (length bs / 16) bs ++ drop (16 * (length bs / 16)) bs

abbrev pub MapsBlocks : (ℕ → ℕ) → (was out : List ℕ) → ℕ → Type 0
MapsBlocks f was out count = (count ≡ 16 * (length was / 16)) × (out ≡ mapped f was)

-- a call under the cipher of this number: what it gives, or why it is not made, with all as it was
abbrev pub UnderCipher : Result KeyedCipher NotMade → (CipherChoice → ℕ → Type 0) → Type 0 → ℕ → Type 0
UnderCipher (Ok keyed) Gives Stays code = Gives keyed.cipher code
UnderCipher (Err why) Gives Stays code = (code ≡ not_made_code why) × Stays

-- the key of a chosen cipher
abbrev pub cipher_key_of : Result KeyedCipher NotMade → List ℕ
cipher_key_of (Ok keyed) = keyed.key.now
cipher_key_of (Err why) = []

pub record BlocksCalled (cipher : ℕ) (key : List ℕ) (Gives : CipherChoice → ℕ → Type 0) (Stays : Type 0) (code : ℕ) : Type 0 where
  pub choice : Result KeyedCipher NotMade
  pub chosen : CipherIs cipher (length key) choice
  pub given : UnderCipher choice Gives Stays code

-- the blocks of a string under a cipher, in place: how many bytes they have, or why the call is not made
abbrev pub BlocksMapped : ℕ → List ℕ → (CipherChoice → ℕ → ℕ) → (was out : List ℕ) → ℕ → Type 0
BlocksMapped cipher key map was out code = BlocksCalled cipher key (λ choice. MapsBlocks (map choice) was out) (out ≡ was) code
