-- Hexadecimal digits, the bytes that a text of them spells, and the text that spells bytes.
use Rattle.std.specs.Prelude.{◌≡◌, ℕ, ◌+◌, ◌-◌, ◌*◌, ◌/◌, ◌%◌, ◌<◌, cond, ◌&&◌, List, [], ◌∷◌, length, Some, None, Option, nat_le, nat_lt, slice_index}

-- the value of a digit's character: 0 to 9, A to F or a to f
abbrev pub digit_of : ℕ → Option ℕ
digit_of c =
    cond (nat_le 48 c && nat_le c 57) (Some (c - 48))
    (cond (nat_le 65 c && nat_le c 70) (Some (c - 55)) (cond (nat_le 97 c && nat_le c 102) (Some (c - 87)) None))

-- the two characters at a place are the digits of a byte
pub record Pair (text : List ℕ) (k byte : ℕ) : Type 0 where
  pub high : ℕ
  pub low : ℕ
  pub first : digit_of (slice_index text (2 * k)) ≡ Some high
  pub second : digit_of (slice_index text (2 * k + 1)) ≡ Some low
  pub value : byte ≡ 16 * high + low

-- the text spells the bytes, by two digits each
pub record Spells (text bytes : List ℕ) : Type 0 where
  pub long : length text ≡ 2 * length bytes
  pub each : (k : ℕ) → k < length bytes → Pair text k (slice_index bytes k)

-- the byte of two digits, the high one first
abbrev pub byte_of : Option ℕ → Option ℕ → Option ℕ
byte_of None low = None
byte_of (Some high) None = None
byte_of (Some high) (Some low) = Some (16 * high + low)

-- the byte that a text of two digits spells
abbrev pub byte_in : List ℕ → Option ℕ
byte_in [] = None
byte_in (c ∷ []) = None
byte_in (c ∷ d ∷ []) = byte_of (digit_of c) (digit_of d)
byte_in (c ∷ d ∷ e ∷ text) = None

-- a byte before others
abbrev pub before : Option ℕ → Option (List ℕ) → Option (List ℕ)
before None bytes = None
before (Some b) None = None
before (Some b) (Some bytes) = Some (b ∷ bytes)

-- the bytes that a text spells, by two digits each
unfoldable pub spelled : List ℕ → Option (List ℕ)
spelled [] = Some []
spelled (c ∷ []) = None
spelled (c ∷ d ∷ text) = before (byte_of (digit_of c) (digit_of d)) (spelled text)

-- the character of a digit's value: 0 to 9, then a to f
abbrev pub hex_char : ℕ → ℕ
hex_char v = cond (nat_lt v 10) (48 + v) (87 + v)

-- two digits to a byte
unfoldable pub hex_digits : List ℕ → List ℕ
hex_digits [] = []
hex_digits (b ∷ bs) = hex_char (b / 16) ∷ hex_char (b % 16) ∷ hex_digits bs

-- a text that was written of bytes: it is their digits, and reading it gives the bytes back
pub record Written (text bytes : List ℕ) : Type 0 where
  pub digits : text ≡ hex_digits bytes
  pub back : spelled text ≡ Some bytes
