-- What the pairs read so far say of the whole text.
use Rattle.std.proofs.Common.{◌≡◌, ℕ, ◌%◌, ◌<◌, min, List, [], ◌∷◌, ◌++◌, length, Some, None, Option, sym, refl, ap, ◌∙◌, append_assoc, append-nil, arith}
use Rattle.hexadecimal.specs.Hex.{digit_of, byte_of, byte_in, before, spelled}

-- bytes before what the rest of a text spells
abbrev pub after : List ℕ → Option (List ℕ) → Option (List ℕ)
after xs None = None
after xs (Some ys) = Some (xs ++ ys)

pub after_none : (xs : List ℕ) (o : Option (List ℕ)) → xs ≡ [] → o ≡ after xs o
after_none xs None e = refl
after_none xs (Some ys) e = ap (λ (l : List ℕ). Some (l ++ ys)) (sym e)

after_before : (xs : List ℕ) (b : ℕ) (o : Option (List ℕ)) → after xs (before (Some b) o) ≡ after (xs ++ b ∷ []) o
after_before xs b None = refl
after_before xs b (Some ys) = ap Some (sym (append_assoc xs (b ∷ []) ys))

-- the byte of the first pair stands before what the rest spells; a short pair is the last, and spells none
pair_first : (pair rest : List ℕ) → 0 < length (pair ++ rest) → length pair ≡ min 2 (length (pair ++ rest)) → spelled (pair ++ rest) ≡ before (byte_in pair) (spelled rest)
unfolding spelled
pair_first [] rest some long = absurd (let f : ⊥ = omega arith in f)
pair_first (c ∷ []) [] some long = refl
pair_first (c ∷ []) (d ∷ rest) some long = absurd (let f : ⊥ = omega arith in f)
pair_first (c ∷ d ∷ []) rest some long = refl
pair_first (c ∷ d ∷ e ∷ pair) rest some long = absurd (let f : ⊥ = omega arith in f)

pub one_more : (text xs ys rest pair left : List ℕ) (b : ℕ) → spelled text ≡ after xs (spelled rest) → rest ≡ pair ++ left → length pair ≡ min 2 (length rest)
    → 0 < length rest → byte_in pair ≡ Some b → ys ≡ xs ++ b ∷ [] → spelled text ≡ after ys (spelled left)
one_more text xs ys rest pair left b so parts long some is grown =
    so
    ∙ ap (λ (l : List ℕ). after xs (spelled l)) parts
    ∙ ap (after xs) (pair_first pair left (rw parts at some) (rw parts at long) ∙ ap (λ (o : Option ℕ). before o (spelled left)) is)
    ∙ after_before xs b (spelled left)
    ∙ ap (λ (l : List ℕ). after l (spelled left)) (sym grown)

-- a pair that is no byte leaves nothing to spell
pub no_byte : (text xs rest pair left : List ℕ) → spelled text ≡ after xs (spelled rest) → rest ≡ pair ++ left → length pair ≡ min 2 (length rest)
    → 0 < length rest → byte_in pair ≡ None → spelled text ≡ None
no_byte text xs rest pair left so parts long some none =
    so
    ∙ ap (λ (l : List ℕ). after xs (spelled l)) parts
    ∙ ap (after xs) (pair_first pair left (rw parts at some) (rw parts at long) ∙ ap (λ (o : Option ℕ). before o (spelled left)) none)

pub all_read : (text xs rest : List ℕ) → spelled text ≡ after xs (spelled rest) → rest ≡ [] → spelled text ≡ Some xs
unfolding spelled
all_read text xs rest so none = so ∙ ap (λ (l : List ℕ). after xs (spelled l)) none ∙ ap Some (append-nil xs)

before_none : (o : Option ℕ) → before o None ≡ None
before_none None = refl
before_none (Some b) = refl

-- an odd number of characters spells nothing
pub odd_none : (text : List ℕ) → length text % 2 ≡ 1 → spelled text ≡ None
unfolding spelled
odd_none [] h = absurd (let f : ⊥ = omega arith in f)
odd_none (c ∷ []) h = refl
odd_none (c ∷ d ∷ text) h =
    ap (before (byte_of (digit_of c) (digit_of d))) (odd_none text (omega arith)) ∙ before_none (byte_of (digit_of c) (digit_of d))
