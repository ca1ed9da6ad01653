-- What is written of one more byte adds its two digits.
use Rattle.std.proofs.Common.{◌≡◌, ℕ, ◌+◌, ◌*◌, ◌/◌, ◌%◌, ◌<◌, List, [], ◌∷◌, ◌++◌, length, get_or, set, take, sym, refl, ap, ◌∙◌, append_assoc, length-set, arith}
use Rattle.std.proofs.Output.{has_written_append, has_written_of_eq}
use Rattle.std.proofs.lemmas.Grind.{take-set_at}
use Rattle.std.proofs.lemmas.List.{take_more, append-nil}
use Rattle.std.specs.Fmt.{HasWritten}
use Rattle.std.specs.declared.fmt.Formatter.{Formatter}
use Rattle.hexadecimal.specs.Hex.{hex_char, hex_digits}

pub hex_append : (xs ys : List ℕ) → hex_digits (xs ++ ys) ≡ hex_digits xs ++ hex_digits ys
unfolding hex_digits
hex_append [] ys = refl
hex_append (x ∷ xs) ys = ap (λ (l : List ℕ). hex_char (x / 16) ∷ hex_char (x % 16) ∷ l) (hex_append xs ys)

take_two : (d : List ℕ) (n x y : ℕ) → n + 1 < length d → take (n + 2) (set (set d n x) (n + 1) y) ≡ take n d ++ x ∷ y ∷ []
take_two d n x y l =
    let long : n + 1 < length (set d n x) = rw length-set l in
    let next : n + 2 ≡ n + 1 + 1 = omega arith in
    take-set_at (set d n x) (n + 1) (n + 2) y next long
    ∙ ap (λ (t : List ℕ). t ++ y ∷ []) (take-set_at d n (n + 1) x refl (omega arith))
    ∙ append_assoc (take n d) (x ∷ []) (y ∷ [])

pub digits_more : (bs d : List ℕ) (i x y : ℕ) → i < length bs → 2 * i + 1 < length d → take (2 * i) d ≡ hex_digits (take i bs)
    → x ≡ hex_char (get_or bs i 0 / 16) → y ≡ hex_char (get_or bs i 0 % 16)
    → take (2 * (i + 1)) (set (set d (2 * i) x) (2 * i + 1) y) ≡ hex_digits (take (i + 1) bs)
unfolding hex_digits
digits_more bs d i x y l room so is_x is_y =
    let n : 2 * (i + 1) ≡ 2 * i + 2 = omega arith in
    ap (λ (n : ℕ). take n (set (set d (2 * i) x) (2 * i + 1) y)) n
    ∙ take_two d (2 * i) x y room
    ∙ (λ j. so j ++ (is_x j ∷ is_y j ∷ []))
    ∙ sym (ap hex_digits (take_more bs i 0 l) ∙ hex_append (take i bs) (get_or bs i 0 ∷ []))

pub length_twice : (d : List ℕ) (m n x y : ℕ) → length d ≡ 64 → length (set (set d m x) n y) ≡ 64
length_twice d m n x y long = simp length-set long

-- what is written so far, of all the digits, and what is left to write
pub record SoFar {W : Type 0} (took : W → List ℕ → W → Type 0) (f now : Formatter W) (rest all : List ℕ) : Type 0 where
  pub text : List ℕ
  pub wrote : HasWritten took f text now
  pub whole : text ++ hex_digits rest ≡ hex_digits all

pub none_yet : {W : Type 0} (took : W → List ℕ → W → Type 0) (f : Formatter W) (rest all : List ℕ) → HasWritten took f [] f → rest ≡ all → SoFar took f f rest all
none_yet took f rest all none is = record { text = []; wrote = none; whole = ap hex_digits is }

pub one_group : {W : Type 0} (took : W → List ℕ → W → Type 0) (f now next : Formatter W) (rest all group left text : List ℕ) → SoFar took f now rest all
    → rest ≡ group ++ left → text ≡ hex_digits group → HasWritten took now text next → SoFar took f next left all
one_group took f now next rest all group left text so parts is wrote =
    record {
      text = so.text ++ text;
      wrote = has_written_append took _ _ _ _ _ so.wrote wrote;
      whole = append_assoc so.text text (hex_digits left)
          ∙ (λ j. so.text ++ (is j ++ hex_digits left))
          ∙ ap (λ (l : List ℕ). so.text ++ l) (sym (ap hex_digits parts ∙ hex_append group left))
          ∙ so.whole;
    }

pub all_written : {W : Type 0} (took : W → List ℕ → W → Type 0) (f now : Formatter W) (rest all : List ℕ) → SoFar took f now rest all → rest ≡ []
    → HasWritten took f (hex_digits all) now
unfolding hex_digits
all_written took f now rest all so none =
    has_written_of_eq took _ _ _ _ (sym (append-nil so.text) ∙ ap (λ (l : List ℕ). so.text ++ hex_digits l) (sym none) ∙ so.whole) so.wrote
