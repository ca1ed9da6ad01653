-- What a word of a call stands for, the value that it writes, and the word that a value is written as.
use Rattle.std.specs.Prelude.{ℕ, ◌-◌, ◌^◌, ◌<◌, ◌≤◌, cond, ◌&&◌, List, [], ◌∷◌, length, Some, None, Ok, Err, codes, decimal, Option, Result, ◌==◌, ◌≢◌, nat_le, nat_lt, slice_index}
use Rattle.std.specs.Str.Parse.{digits_value}
use Rattle.std.specs.List.{AllByRecursion}
use Rattle.std.specs.Str.{all_ascii_digits, bytes_eq}
use Rattle.hexadecimal.specs.Hex.{spelled}
use Rattle.script.specs.declared.reason.Reason.{Reason}
use Rattle.script.specs.declared.reason.Reason.TheVariants.{NotHex, TooLong, NotAKey, NotANumber}
use Rattle.script.specs.Hex.{hex_text_of}
use Rattle.script.specs.Results.{then, under, only, first}

-- a number in decimal digits, at most the given one
abbrev pub number_of : ℕ → List ℕ → Result ℕ Reason
number_of most word = cond (all_ascii_digits word && (nat_lt 0 (length word) && nat_le (digits_value 10 word) most)) (Ok (digits_value 10 word)) (Err NotANumber)

-- a string has at most 65,536 bytes
abbrev pub short_enough : Option (List ℕ) → Result (List ℕ) Reason
short_enough None = Err NotHex
short_enough (Some bytes) = cond (nat_le (length bytes) 65536) (Ok bytes) (Err TooLong)

-- a string in pairs of hexadecimal digits, or - where it is empty
abbrev pub string_of : List ℕ → Result (List ℕ) Reason
string_of word = cond (bytes_eq word (codes "-")) (Ok []) (short_enough (spelled word))

-- a key has 16 bytes
abbrev pub sixteen : List ℕ → Result (List ℕ) Reason
sixteen bytes = cond (length bytes == 16) (Ok bytes) (Err NotAKey)

abbrev pub key_of : List ℕ → Result (List ℕ) Reason
key_of word = then (string_of word) sixteen

-- a name or a label, a number from 0 to 255, one of 64 bits, the length of an output buffer, or a string
pub data Field : Type 0 where
  name : Field
  byte : Field
  number : Field
  space : Field
  string : Field

pub data Value : Type 0 where
  text : List ℕ → Value
  count : ℕ → Value
  bytes : List ℕ → Value

-- the count that a number is
abbrev pub counted : ℕ → List ℕ → Result Value Reason
counted most word = under count (number_of most word)

abbrev pub value_of : Field → List ℕ → Result Value Reason
value_of name word = Ok (text word)
value_of byte word = counted 255 word
value_of number word = counted (2 ^ 64 - 1) word
value_of space word = counted 65536 word
value_of string word = under bytes (string_of word)

-- one word to a field, in their order
abbrev pub values_of : List Field → List (List ℕ) → Result (List Value) Reason
values_of [] ws = only [] ws
values_of (f ∷ fs) ws = then (first (value_of f) ws) (λ taken. under (λ vs. taken.value ∷ vs) (values_of fs taken.rest))

-- the word that a value is written as
abbrev pub word_for : Value → List ℕ
word_for (text w) = w
word_for (count n) = decimal n
word_for (bytes bs) = hex_text_of bs

-- a word has a character, and no space
pub record Word (w : List ℕ) : Type 0 where
  pub some : 0 < length w
  pub solid : (i : ℕ) → i < length w → slice_index w i ≢ 32

-- a value that a field can have
abbrev pub Fit : Field → Value → Type 0
Fit name (text w) = Word w
Fit name (count n) = ⊥
Fit name (bytes bs) = ⊥
Fit byte (text w) = ⊥
Fit byte (count n) = n ≤ 255
Fit byte (bytes bs) = ⊥
Fit number (text w) = ⊥
Fit number (count n) = n < 2 ^ 64
Fit number (bytes bs) = ⊥
Fit space (text w) = ⊥
Fit space (count n) = n ≤ 65536
Fit space (bytes bs) = ⊥
Fit string (text w) = ⊥
Fit string (count n) = ⊥
Fit string (bytes bs) = AllByRecursion (λ b. b < 256) bs × (length bs ≤ 65536)

abbrev pub FitAll : List Field → List Value → Type 0
FitAll [] [] = Unit {0}
FitAll [] (v ∷ vs) = ⊥
FitAll (f ∷ fs) [] = ⊥
FitAll (f ∷ fs) (v ∷ vs) = Fit f v × FitAll fs vs
