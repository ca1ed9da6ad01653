-- Values worked out by hand, to hold the definitions against: the identity cipher with doubling, and single steps of the maskings.
use Rattle.std.specs.Prelude.{ℕ, ◌-◌, List, [], ◌∷◌, ◌++◌, ◌≡◌, length, replicate}
use Rattle.block.specs.Bytes.{number_of}
use Rattle.block.specs.Maps.{same}
use Rattle.masking.specs.Doubling.{doubled, undoubled}
use Rattle.masking.specs.Tower.{of_words, tower_step, tower_back}
use Rattle.mode.specs.declared.value.Mode.TheVariants.{Forward, Dual}
use Rattle.mode.specs.Sealing.{Maps, header_tag_of, Seals}

-- the identity cipher with doubling
abbrev pub plain : Maps
plain = record { forward = same; backward = same; step = doubled; back = undoubled }

-- the block of 16 bytes that begins with some bytes, ends with one byte and has zeros between
abbrev pub block : List ℕ → ℕ → List ℕ
block first last = first ++ (replicate (15 - length first) 0 ++ last ∷ [])

-- one worked value
pub data Row : Type 0 where
  -- under nonce 0 a message seals, behind a header, to these bytes and to this tag
  sealed : (header message bytes tag : List ℕ) → Row
  -- a header has this tag
  tagged : (header tag : List ℕ) → Row
  -- doubling goes back from one block to another
  halved : (from to : List ℕ) → Row
  -- the tower steps, or goes back, from one block to another
  stepped : (from to : ℕ) → Row
  backed : (from to : ℕ) → Row

-- what a row says; a message seals alike in both modes
abbrev pub Holds : Row → Type 0
Holds (sealed header message bytes tag) = Seals plain Forward 0 header message bytes (number_of tag) × Seals plain Dual 0 header message bytes (number_of tag)
Holds (tagged header tag) = header_tag_of plain header ≡ number_of tag
Holds (halved from to) = undoubled (number_of from) ≡ number_of to
Holds (stepped from to) = tower_step from ≡ to
Holds (backed from to) = tower_back from ≡ to

abbrev pub AllHold : List Row → Type 0
AllHold [] = Unit {0}
AllHold (row ∷ rows) = Holds row × AllHold rows

abbrev pub one : List ℕ
one = block (0 ∷ []) 1

abbrev pub table : List Row
table =
    sealed [] [] [] (block (0 ∷ []) 0x0e)
    ∷ sealed [] (0xa5 ∷ []) (0xa5 ∷ []) (block (0xa5 ∷ []) 0x06)
    ∷ sealed [] one (block (0 ∷ []) 0x85) (block (0 ∷ []) 0x0b)
    ∷ sealed [] (one ++ 0xff ∷ []) (one ++ 0xff ∷ []) (block (0xff ∷ []) 0x13)
    ∷ sealed one [] [] (block (0xc0 ∷ []) 0x6d)
    ∷ tagged (0xa5 ∷ []) (block (0x25 ∷ 0x80 ∷ []) 0x43)
    ∷ tagged (one ++ block (0 ∷ []) 2) one
    ∷ tagged (one ++ 0xff ∷ []) (block (0xff ∷ 0x80 ∷ []) 0x07)
    ∷ halved one (block (0x80 ∷ []) 0x43)
    ∷ stepped (of_words 0x80000000 0 0 0) (of_words 0x80000000 0 0x80000000 0x0a000021)
    ∷ backed (of_words 0 0 0 1) (of_words 0x85000010 0x85000010 0 0x85000010)
    ∷ []

unfoldable pub TableHolds : Type 0
TableHolds = AllHold table
