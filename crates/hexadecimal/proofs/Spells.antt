-- The two ways to say which bytes a text spells are one: from its start, and by the pair at each place.
use Rattle.std.proofs.Common.{◌≡◌, ℕ, zero, suc, ◌+◌, ◌*◌, ◌<◌, List, [], ◌∷◌, length, get_or, Some, None, Option, refl, sym, ap, ◌∙◌, subst, arith}
use Rattle.hexadecimal.specs.Hex.{digit_of, Pair, Spells, byte_of, before, spelled}

record Before (o : Option ℕ) (p : Option (List ℕ)) (bs : List ℕ) : Type 0 where
  pub byte : ℕ
  pub rest : List ℕ
  pub first : o ≡ Some byte
  pub others : p ≡ Some rest
  pub all : bs ≡ byte ∷ rest

before_some : (o : Option ℕ) (p : Option (List ℕ)) (bs : List ℕ) → before o p ≡ Some bs → Before o p bs
before_some None p bs e = absurd (let f : ⊥ = cc in f)
before_some (Some b) None bs e = absurd (let f : ⊥ = cc in f)
before_some (Some b) (Some rest) bs e = record { byte = b; rest = rest; first = refl; others = refl; all = cc }

record Digits (h l : Option ℕ) (b : ℕ) : Type 0 where
  pub high : ℕ
  pub low : ℕ
  pub first : h ≡ Some high
  pub second : l ≡ Some low
  pub value : b ≡ 16 * high + low

byte_some : (h l : Option ℕ) (b : ℕ) → byte_of h l ≡ Some b → Digits h l b
byte_some None l b e = absurd (let f : ⊥ = cc in f)
byte_some (Some h) None b e = absurd (let f : ⊥ = cc in f)
byte_some (Some h) (Some l) b e = record { high = h; low = l; first = refl; second = refl; value = cc }

-- the pairs of a text with one pair more in front
later : (c d : ℕ) (text : List ℕ) (k b : ℕ) → Pair text k b → Pair (c ∷ d ∷ text) (suc k) b
later c d text k b p =
    let one : 2 * suc k ≡ suc (suc (2 * k)) = omega arith in
    let two : 2 * suc k + 1 ≡ suc (suc (2 * k + 1)) = omega arith in
    record {
      high = p.high;
      low = p.low;
      first = ap (λ (n : ℕ). digit_of (get_or (c ∷ d ∷ text) n 0)) one ∙ p.first;
      second = ap (λ (n : ℕ). digit_of (get_or (c ∷ d ∷ text) n 0)) two ∙ p.second;
      value = p.value;
    }

earlier : (c d : ℕ) (text : List ℕ) (k b : ℕ) → Pair (c ∷ d ∷ text) (suc k) b → Pair text k b
earlier c d text k b p =
    let one : suc (suc (2 * k)) ≡ 2 * suc k = omega arith in
    let two : suc (suc (2 * k + 1)) ≡ 2 * suc k + 1 = omega arith in
    record {
      high = p.high;
      low = p.low;
      first = ap (λ (n : ℕ). digit_of (get_or (c ∷ d ∷ text) n 0)) one ∙ p.first;
      second = ap (λ (n : ℕ). digit_of (get_or (c ∷ d ∷ text) n 0)) two ∙ p.second;
      value = p.value;
    }

more_pairs : (c d b : ℕ) (text bs : List ℕ) → Digits (digit_of c) (digit_of d) b → ((k : ℕ) → k < length bs → Pair text k (get_or bs k 0))
    → (k : ℕ) → k < suc (length bs) → Pair (c ∷ d ∷ text) k (get_or (b ∷ bs) k 0)
more_pairs c d b text bs here each zero h = record { high = here.high; low = here.low; first = here.first; second = here.second; value = here.value }
more_pairs c d b text bs here each (suc k) h = later c d text k (get_or bs k 0) (each k (omega arith))

pub spelled_spells : (text bs : List ℕ) → spelled text ≡ Some bs → Spells text bs
unfolding spelled
spelled_spells [] bs e =
    let none : [] ≡ bs = cc in
    subst (Spells []) none (record { long = refl; each = λ k h. absurd (let f : ⊥ = omega arith in f) })
spelled_spells (c ∷ []) bs e = absurd (let f : ⊥ = cc in f)
spelled_spells (c ∷ d ∷ text) bs e =
    let b = before_some (byte_of (digit_of c) (digit_of d)) (spelled text) bs e in
    let s : Spells text b.rest = spelled_spells text b.rest b.others in
    let here : Digits (digit_of c) (digit_of d) b.byte = byte_some (digit_of c) (digit_of d) b.byte b.first in
    let l : length text ≡ 2 * length b.rest = s.long in
    let whole : Spells (c ∷ d ∷ text) (b.byte ∷ b.rest) = record { long = omega arith; each = more_pairs c d b.byte text b.rest here s.each } in
    subst (Spells (c ∷ d ∷ text)) (sym b.all) whole

pair_byte : (c d b : ℕ) (text : List ℕ) → Pair (c ∷ d ∷ text) 0 b → byte_of (digit_of c) (digit_of d) ≡ Some b
pair_byte c d b text p = (λ i. byte_of (p.first i) (p.second i)) ∙ ap Some (sym p.value)

pub spells_spelled : (text bs : List ℕ) → Spells text bs → spelled text ≡ Some bs
unfolding spelled
spells_spelled [] [] s = refl
spells_spelled [] (b ∷ bs) s = absurd (let l : 0 ≡ 2 * suc (length bs) = s.long in let f : ⊥ = omega arith in f)
spells_spelled (c ∷ []) bs s = absurd (let l : 1 ≡ 2 * length bs = s.long in let f : ⊥ = omega arith in f)
spells_spelled (c ∷ d ∷ text) [] s = absurd (let l : suc (suc (length text)) ≡ 0 = s.long in let f : ⊥ = omega arith in f)
spells_spelled (c ∷ d ∷ text) (b ∷ bs) s =
    let l : suc (suc (length text)) ≡ 2 * suc (length bs) = s.long in
    let tail : Spells text bs = record { long = omega arith; each = λ k h. earlier c d text k (get_or bs k 0) (s.each (suc k) (omega arith)) } in
    let here = pair_byte c d b text (s.each 0 (omega arith)) in
    λ i. before (here i) (spells_spelled text bs tail i)

pub none_spells : (text : List ℕ) → spelled text ≡ None → (bs : List ℕ) → Spells text bs → ⊥
none_spells text e bs s = let f : Some bs ≡ None = sym (spells_spelled text bs s) ∙ e in absurd (let g : ⊥ = cc in g)
