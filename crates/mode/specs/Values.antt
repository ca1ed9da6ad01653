-- The numbers of the two modes, as a frame's first byte has them.
use Rattle.std.specs.Prelude.{◌≡◌, ℕ, ◌≢◌, Ok, Err, Result}
use Rattle.mode.specs.declared.value.Mode.{Mode}
use Rattle.mode.specs.declared.value.UnknownMode.{UnknownMode}
use Rattle.mode.specs.declared.value.Mode.TheVariants.{Forward, Dual}

abbrev pub mode_value : Mode → ℕ
mode_value Forward = 1
mode_value Dual = 2

-- a number has this mode, or it is the number of none
abbrev pub Decodes : ℕ → Result Mode UnknownMode → Type 0
Decodes value (Ok mode) = value ≡ mode_value mode
Decodes value (Err unknown) = (value ≢ 1) × (value ≢ 2)

-- the mode whose map on blocks undoes this one's
abbrev pub other_of : Mode → Mode
other_of Forward = Dual
other_of Dual = Forward
