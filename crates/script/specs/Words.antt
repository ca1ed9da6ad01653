-- The words of a line: its pieces between spaces, the empty ones left out.
use Rattle.std.specs.Prelude.{ℕ, cond, List, [], ◌∷◌, ◌++◌, ◌==◌}

-- a word before others, unless it is empty
abbrev pub keep : List ℕ → List (List ℕ) → List (List ℕ)
keep [] ws = ws
keep (c ∷ cs) ws = (c ∷ cs) ∷ ws

-- the words of a text, where a word has begun already
unfoldable pub words_from : List ℕ → List ℕ → List (List ℕ)
words_from w [] = keep w []
words_from w (c ∷ cs) = cond (c == 32) (keep w (words_from [] cs)) (words_from (w ++ (c ∷ [])) cs)

abbrev pub words_of : List ℕ → List (List ℕ)
words_of text = words_from [] text
