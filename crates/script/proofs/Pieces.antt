-- The first piece of a text is its first word, unless it is empty.
use Rattle.std.proofs.Common.{◌≡◌, ℕ, zero, suc, ◌<◌, Bool, true, false, cond, eqb, List, [], ◌∷◌, ◌++◌, length, get_or, Some, None, sym, refl, ap, ◌∙◌, append_assoc, append-nil, arith}
use Rattle.std.proofs.lemmas.Bool.{ne_eqb, eqb-false, eqb-true}
use lib.Utf8.{encode}
use Rattle.std.proofs.lemmas.Str.Pattern.{drop_at_char}
use Rattle.std.specs.Str.Pattern.{CutsPrefixes, FindsCharPrefix, IsFullyTrimmed}
use Rattle.script.specs.Words.{keep, words_from, words_of}

-- no space in it
abbrev pub Solid : List ℕ → Type 0
Solid p = (i : ℕ) → i < length p → get_or p i 0 ≡ 32 → ⊥

solid_tail : (c : ℕ) (cs : List ℕ) → Solid (c ∷ cs) → Solid cs
solid_tail c cs h i l e = h (suc i) (omega arith) e

solid_head : (c : ℕ) (cs : List ℕ) → Solid (c ∷ cs) → eqb c 32 ≡ false
solid_head c cs h = ne_eqb c 32 (λ e. h zero (omega arith) e)

-- a character that is no space belongs to the word
go_on : (w : List ℕ) (c : ℕ) (cs : List ℕ) → eqb c 32 ≡ false → words_from w (c ∷ cs) ≡ words_from (w ++ (c ∷ [])) cs
unfolding words_from
go_on w c cs e = ap (λ (b : Bool). cond b (keep w (words_from [] cs)) (words_from (w ++ (c ∷ [])) cs)) e

from_piece : (w p r : List ℕ) → Solid p → words_from w (p ++ (32 ∷ r)) ≡ keep (w ++ p) (words_from [] r)
unfolding words_from
from_piece w [] r h = ap (λ (v : List ℕ). keep v (words_from [] r)) (sym (append-nil w))
from_piece w (c ∷ cs) r h =
    go_on w c (cs ++ (32 ∷ r)) (solid_head c cs h)
    ∙ from_piece (w ++ (c ∷ [])) cs r (solid_tail c cs h)
    ∙ ap (λ (v : List ℕ). keep v (words_from [] r)) (append_assoc w (c ∷ []) cs)

from_last : (w p : List ℕ) → Solid p → words_from w p ≡ keep (w ++ p) []
unfolding words_from
from_last w [] h = ap (λ (v : List ℕ). keep v []) (sym (append-nil w))
from_last w (c ∷ cs) h =
    go_on w c cs (solid_head c cs h)
    ∙ from_last (w ++ (c ∷ [])) cs (solid_tail c cs h)
    ∙ ap (λ (v : List ℕ). keep v []) (append_assoc w (c ∷ []) cs)

pub words_piece : (text p r : List ℕ) → text ≡ p ++ (32 ∷ r) → Solid p → words_of text ≡ keep p (words_of r)
words_piece text p r e h = ap words_of e ∙ from_piece [] p r h

pub words_last : (text : List ℕ) → Solid text → words_of text ≡ keep text []
words_last text h = from_last [] text h

keep_some : (p : List ℕ) (ws : List (List ℕ)) → 0 < length p → keep p ws ≡ p ∷ ws
keep_some [] ws h = absurd (let f : ⊥ = omega arith in f)
keep_some (c ∷ cs) ws h = refl

pub piece_some : (text p r : List ℕ) → text ≡ p ++ (32 ∷ r) → Solid p → 0 < length p → words_of text ≡ p ∷ words_of r
piece_some text p r e h l = words_piece text p r e h ∙ keep_some p (words_of r) l

pub last_some : (text : List ℕ) → Solid text → 0 < length text → words_of text ≡ text ∷ words_of []
unfolding words_from
last_some text h l = words_last text h ∙ keep_some text [] l

pub last_none : (text : List ℕ) → length text ≡ 0 → words_of text ≡ []
unfolding words_from
last_none [] l = refl
last_none (c ∷ cs) l = absurd (let f : ⊥ = omega arith in f)

-- what the test for an empty text says
pub is_long : (b : Bool) (xs : List ℕ) → b ≡ eqb (length xs) 0 → b ≡ false → 0 < length xs
is_long b xs e f = let ne : length xs ≡ 0 → ⊥ = eqb-false (length xs) 0 (sym e ∙ f) in omega (arith, ne)

pub is_none : (b : Bool) (xs : List ℕ) → b ≡ eqb (length xs) 0 → b ≡ true → length xs ≡ 0
is_none b xs e t = eqb-true (length xs) 0 (sym e ∙ t)

-- spaces that are cut off before the first word
pub trimmed : (s : List ℕ) (ns : List ℕ) (r : List ℕ) → CutsPrefixes (FindsCharPrefix 32) s ns r → words_of s ≡ words_of r
unfolding words_from
trimmed s [] r e = ap words_of (sym e)
trimmed s (n ∷ ns) r (m, cuts, here, rest) =
    trimmed s ns m cuts ∙ ap words_of (drop_at_char 32 m 0 n here (omega arith)) ∙ ap words_of (sym rest)

-- what is left begins with no space
pub starts_solid : (r : List ℕ) → IsFullyTrimmed (FindsCharPrefix 32) r → get_or r 0 0 ≡ 32 → ⊥
unfolding encode
starts_solid [] h e = absurd (let f : ⊥ = omega arith in f)
starts_solid (x ∷ xs) (None, never, none) e = never xs (ap (λ (y : ℕ). y ∷ xs) e)
starts_solid (x ∷ xs) (Some n, here, none) e = let ends = here.ends in absurd (let f : ⊥ = omega arith in f)

-- a piece of a text that begins with no space is not empty
pub piece_begins : (text p r : List ℕ) → text ≡ p ++ (32 ∷ r) → (get_or text 0 0 ≡ 32 → ⊥) → 0 < length p
piece_begins text [] r e solid = absurd (solid (ap (λ (t : List ℕ). get_or t 0 0) e))
piece_begins text (c ∷ cs) r e solid = omega arith
