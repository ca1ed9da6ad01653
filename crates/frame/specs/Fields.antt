-- The head's fields: where each stands, and what its line asks of it.
use Rattle.std.specs.Prelude.{◌≡◌, ℕ, ◌+◌, ◌≤◌, List, slice_index}
use Rattle.block.specs.Bytes.{number_at}
use Rattle.frame.specs.declared.fault.HeadField.{HeadField}
use Rattle.frame.specs.declared.fault.HeadField.TheVariants.{AfterMode, ClearLength, SealedLength, ClearStart, SealedStart, TagStart, BeforeSender, AfterSender, BeforeNumber}

-- the place of a field's first byte
abbrev pub field_place : HeadField → ℕ
field_place AfterMode = 1
field_place ClearLength = 2
field_place SealedLength = 4
field_place ClearStart = 6
field_place SealedStart = 8
field_place TagStart = 10
field_place BeforeSender = 12
field_place AfterSender = 17
field_place BeforeNumber = 24

-- what the head says, read off any bytes
abbrev pub mode_byte : List ℕ → ℕ
mode_byte f = slice_index f 0

abbrev pub clear_length : List ℕ → ℕ
clear_length f = number_at 2 2 f

abbrev pub sealed_length : List ℕ → ℕ
sealed_length f = number_at 2 4 f

abbrev pub clear_start : List ℕ → ℕ
clear_start f = number_at 2 6 f

abbrev pub sealed_start : List ℕ → ℕ
sealed_start f = number_at 2 8 f

abbrev pub tag_start : List ℕ → ℕ
tag_start f = number_at 2 10 f

abbrev pub sender_of : List ℕ → ℕ
sender_of f = slice_index f 16

abbrev pub frame_number : List ℕ → ℕ
frame_number f = number_at 6 26 f

-- a field keeps its line
abbrev pub Holds : HeadField → List ℕ → Type 0
Holds AfterMode f = number_at 1 1 f ≡ 0
Holds ClearLength f = clear_length f ≤ 1024
Holds SealedLength f = sealed_length f ≤ 1024
Holds ClearStart f = clear_start f ≡ 32
Holds SealedStart f = sealed_start f ≡ 32 + clear_length f
Holds TagStart f = tag_start f ≡ 32 + clear_length f + sealed_length f
Holds BeforeSender f = number_at 4 12 f ≡ 0
Holds AfterSender f = number_at 7 17 f ≡ 0
Holds BeforeNumber f = number_at 2 24 f ≡ 0

-- every field below a place keeps its line
abbrev pub Below2 : List ℕ → Type 0
Below2 f = Holds AfterMode f

abbrev pub Below4 : List ℕ → Type 0
Below4 f = Below2 f × Holds ClearLength f

abbrev pub Below6 : List ℕ → Type 0
Below6 f = Below4 f × Holds SealedLength f

abbrev pub Below8 : List ℕ → Type 0
Below8 f = Below6 f × Holds ClearStart f

abbrev pub Below10 : List ℕ → Type 0
Below10 f = Below8 f × Holds SealedStart f

abbrev pub Below12 : List ℕ → Type 0
Below12 f = Below10 f × Holds TagStart f

abbrev pub Below17 : List ℕ → Type 0
Below17 f = Below12 f × Holds BeforeSender f

abbrev pub Below24 : List ℕ → Type 0
Below24 f = Below17 f × Holds AfterSender f

-- every field of a lower place keeps its line
abbrev pub LowerHold : HeadField → List ℕ → Type 0
LowerHold AfterMode f = Unit {0}
LowerHold ClearLength f = Below2 f
LowerHold SealedLength f = Below4 f
LowerHold ClearStart f = Below6 f
LowerHold SealedStart f = Below8 f
LowerHold TagStart f = Below10 f
LowerHold BeforeSender f = Below12 f
LowerHold AfterSender f = Below17 f
LowerHold BeforeNumber f = Below24 f

-- every field keeps its line
abbrev pub AllHold : List ℕ → Type 0
AllHold f = Below24 f × Holds BeforeNumber f

-- the field of the lowest place that breaks its line
abbrev pub Breaks : HeadField → List ℕ → Type 0
Breaks field f = LowerHold field f × (Holds field f → ⊥)
