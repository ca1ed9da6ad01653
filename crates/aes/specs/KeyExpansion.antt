-- The key expansion: from the sixteen bytes of a key to 44 words of four bytes, and the eleven round keys that they are.
use Rattle.std.specs.Prelude.{ℕ, zero, suc, ◌+◌, ◌-◌, ◌/◌, ◌%◌, cond, List, [], ◌∷◌, ◌==◌, slice_index, slice_index_or}
use Rattle.gf256.specs.Field.{power}
use Rattle.gf256.specs.Substitution.{substituted}
use Rattle.block.specs.Bytes.{number_of}
use Rattle.aes.specs.State.{State, column_then}
use Rattle.aes.specs.Steps.{over_row, sum_row_of}

-- the bytes of a word moved left by one place, counted round
abbrev pub rot_word : List ℕ → List ℕ
rot_word w = slice_index w 1 ∷ slice_index w 2 ∷ slice_index w 3 ∷ slice_index w 0 ∷ []

abbrev pub sub_word : List ℕ → List ℕ
sub_word = over_row substituted

-- the round constant i, counted from 1: the power i - 1 of x in the field
abbrev pub round_constant : ℕ → List ℕ
round_constant i = power 2 (i - 1) ∷ 0 ∷ 0 ∷ 0 ∷ []

-- word i, from word i - 4 and word i - 1
unfoldable pub next_word_of : ℕ → List ℕ → List ℕ → List ℕ
next_word_of i a d = cond (i % 4 == 0) (sum_row_of a (sum_row_of (sub_word (rot_word d)) (round_constant (i / 4)))) (sum_row_of a d)

-- n words of the expansion from word i on, where the words i to i + 3 are a, b, c and d
unfoldable pub words_from : ℕ → ℕ → (a b c d : List ℕ) → List (List ℕ)
words_from zero i a b c d = []
words_from (suc n) i a b c d = a ∷ words_from n (suc i) b c d (next_word_of (i + 4) a d)

-- a word of the key, from a byte on
abbrev pub key_word : List ℕ → ℕ → List ℕ
key_word key i = slice_index key i ∷ slice_index key (i + 1) ∷ slice_index key (i + 2) ∷ slice_index key (i + 3) ∷ []

unfoldable pub expanded_key : List ℕ → List (List ℕ)
expanded_key key = words_from 44 0 (key_word key 0) (key_word key 4) (key_word key 8) (key_word key 12)

-- byte r of each of four words
abbrev pub row_across : (a b c d : List ℕ) → ℕ → List ℕ
row_across a b c d r = slice_index a r ∷ slice_index b r ∷ slice_index c r ∷ slice_index d r ∷ []

-- the state whose columns are four words
abbrev pub columns_are : (a b c d : List ℕ) → State
columns_are a b c d = row_across a b c d 0 ∷ row_across a b c d 1 ∷ row_across a b c d 2 ∷ row_across a b c d 3 ∷ []

-- n states, of four words each
unfoldable pub by_four : ℕ → List (List ℕ) → List State
by_four zero ws = []
by_four (suc n) [] = []
by_four (suc n) (a ∷ []) = []
by_four (suc n) (a ∷ b ∷ []) = []
by_four (suc n) (a ∷ b ∷ c ∷ []) = []
by_four (suc n) (a ∷ b ∷ c ∷ d ∷ ws) = columns_are a b c d ∷ by_four n ws

unfoldable pub round_keys : List ℕ → List State
round_keys key = by_four 11 (expanded_key key)

-- word i as one number, read off round keys: a column of one of them
abbrev pub word_at : List State → ℕ → ℕ
word_at ks i = number_of (column_then (slice_index_or ks (i / 4) []) (i % 4) [])
