-- The words that the hub's input has for the kinds of valve head and for numbers.
use Rattle.std.specs.Prelude.{ℕ, ◌<◌, List, codes}
use Rattle.std.specs.Str.Parse.{IsNumeral, digits_value, without_leading_plus}
use Rattle.task.specs.declared.words.ValveHead.{ValveHead}
use Rattle.task.specs.declared.words.ValveHead.TheVariants.{Battery, Mains}

abbrev pub name_of : ValveHead → List ℕ
name_of Battery = codes "battery"
name_of Mains = codes "mains"

-- the number that a word of decimal digits writes
abbrev pub written_value : List ℕ → ℕ
written_value word = digits_value 10 (without_leading_plus word)

-- a word of decimal digits, whose number is below the limit
abbrev pub WritesBelow : ℕ → List ℕ → Type 0
WritesBelow limit word = IsNumeral 10 (without_leading_plus word) × (written_value word < limit)
