-- The codes that calls answer: a length, or the top bit with why.
use Rattle.std.specs.Prelude.{ℕ, ◌+◌, ◌*◌, Ok, Err, Result}
use Rattle.mode.specs.declared.fault.ModeFault.{ModeFault}
use Rattle.mode.specs.Faults.{number_of as mode_number, place_of as mode_place}
use Rattle.frame.specs.declared.fault.FrameFault.{FrameFault}
use Rattle.frame.specs.Faults.{number_of, place_of}
use Rattle.capi.specs.declared.choices.NotMade.{NotMade}
use Rattle.capi.specs.declared.choices.NotMade.TheVariants.{UnknownCipher, UnknownMasking, KeyLength, NonceLength, TagLength, UnknownMode}
use Rattle.capi.specs.declared.codes.Fault.{Fault}
use Rattle.capi.specs.declared.codes.Fault.TheVariants.{Uncalled, InMode, InFrame}

-- what every code has that is no length
abbrev pub top_bit : ℕ
top_bit = 0x8000000000000000

-- a refusal: its number in the lowest byte, its place in the next
abbrev pub refusal : ℕ → ℕ → ℕ
refusal number place = top_bit + 256 * place + number

abbrev pub frame_code_of : Result ℕ FrameFault → ℕ
frame_code_of (Ok n) = n
frame_code_of (Err fault) = refusal (number_of fault) (place_of fault)

-- a mode's answer says no length: it is the message's
abbrev pub mode_code : {A : Type 0} → ℕ → Result A ModeFault → ℕ
mode_code len (Ok done) = len
mode_code len (Err fault) = refusal (mode_number fault) (mode_place fault)

-- a call that is not made: why, in the third byte
abbrev pub why_number : NotMade → ℕ
why_number UnknownCipher = 1
why_number UnknownMasking = 2
why_number KeyLength = 3
why_number NonceLength = 4
why_number TagLength = 5
why_number UnknownMode = 6

abbrev pub not_made_code : NotMade → ℕ
not_made_code why = top_bit + 65536 * why_number why

-- why a call has no length, of each kind
abbrev pub fault_code : Fault → ℕ
fault_code (Uncalled why) = not_made_code why
fault_code (InMode fault) = refusal (mode_number fault) (mode_place fault)
fault_code (InFrame fault) = refusal (number_of fault) (place_of fault)

abbrev pub code_of : Result ℕ Fault → ℕ
code_of (Ok n) = n
code_of (Err fault) = fault_code fault
