-- What parsing a word of digits answers.
use Rattle.std.proofs.Common.{◌≡◌, ℕ, ◌^◌, ◌<◌, ◌≤◌, Bool, true, false, cond, ◌&&◌, ltb, leb, List, [], ◌∷◌, ◌++◌, length, get_or, Option, None, Ok, Err, Result, sym, refl, ap, ◌∙◌, ⊎_elim, arith}
use lib.Utf8.{encode}
use Rattle.std.specs.Bool.{then_some}
use Rattle.std.specs.Option.{ok_or, MatchOption}
use Rattle.std.specs.Result.{result_ok}
use Rattle.std.specs.Str.Parse.{digits_value, ParsesUnsigned}
use Rattle.std.specs.Str.{all_ascii_digits}
use Rattle.std.proofs.lemmas.Str.Parse.{IsNumeralModel, numerals_by_value, tells_all_ascii_digits, parse_plain}
use Rattle.std.proofs.lemmas.Result.{OkIff-at_ok, OkIff-at_err}
use Rattle.std.proofs.lemmas.Bool.{and_from, and_parts, cases_Bool, lt-ltb, le-leb, ltb-true, leb-true, leb-false}
use Rattle.script.specs.declared.reason.Reason.TheVariants.{NotANumber}
use Rattle.script.specs.Values.{number_of}

pub own : IsNumeralModel (λ ds. all_ascii_digits ds ≡ true) (digits_value 10)
own = numerals_by_value _ tells_all_ascii_digits

pub number_yes : (most : ℕ) (w : List ℕ) → all_ascii_digits w ≡ true → 0 < length w → digits_value 10 w ≤ most → number_of most w ≡ Ok (digits_value 10 w)
number_yes most w digits some small =
    ap (λ (b : Bool). cond b (Ok (digits_value 10 w)) (Err NotANumber))
    (and_from _ _ digits (and_from _ _ (lt-ltb 0 (length w) some) (le-leb (digits_value 10 w) most small)))

pub number_no : (most : ℕ) (w : List ℕ) → (all_ascii_digits w ≡ true → 0 < length w → digits_value 10 w ≤ most → ⊥) → number_of most w ≡ Err NotANumber
number_no most w never =
    ap (λ (b : Bool). cond b (Ok (digits_value 10 w)) (Err NotANumber))
    (⊎_elim
    (λ t. let p = and_parts _ _ t in let q = and_parts _ _ p.1 in absurd (never p.0 (ltb-true _ _ q.0) (leb-true _ _ q.1)))
    (λ f. f)
    (cases_Bool (all_ascii_digits w && (ltb 0 (length w) && leb (digits_value 10 w) most))))

-- a word that does not begin with +, by what a test of its first character says
pub no_plus : (w : List ℕ) → ((rest : List ℕ) → w ≡ encode 43 ++ rest → ⊥) → get_or w 0 0 ≡ 43 → ⊥
unfolding encode
no_plus [] h e = absurd (let f : ⊥ = omega arith in f)
no_plus (x ∷ xs) h e = h xs (ap (λ (y : ℕ). y ∷ xs) e)

-- what was parsed, kept if it is not too large
pub bounded : {E : Type 0} {P : ℕ → Bool → Type 0} (most : ℕ) (w : List ℕ) (r : Result ℕ E) (kept : Option ℕ) → ParsesUnsigned 64 10 w r → (get_or w 0 0 ≡ 43 → ⊥) → most < 2 ^ 64
    → MatchOption (result_ok r) (kept ≡ None) (λ n. (b : Bool) × P n b × (kept ≡ then_some b n)) → ((n : ℕ) (b : Bool) → P n b → b ≡ leb n most)
    → ok_or kept NotANumber ≡ number_of most w
bounded {E = E} most w (Ok n) kept reads plain fits (true, small, is) says =
    let p = OkIff-at_ok {E = E} (Ok n) _ (digits_value 10 w) n (parse_plain own {E = E} 64 w (Ok n) reads plain) refl in
    let le = leb-true n most (sym (says n true small)) in
    ap (λ (o : Option ℕ). ok_or o NotANumber) is ∙ ap Ok p.1 ∙ sym (number_yes most w p.0.0 p.0.1 (omega (arith, p.1)))
bounded {E = E} most w (Ok n) kept reads plain fits (false, large, is) says =
    let p = OkIff-at_ok {E = E} (Ok n) _ (digits_value 10 w) n (parse_plain own {E = E} 64 w (Ok n) reads plain) refl in
    let gt = leb-false n most (sym (says n false large)) in
    ap (λ (o : Option ℕ). ok_or o NotANumber) is ∙ sym (number_no most w (λ digits some small. omega (arith, p.1)))
bounded {E = E} most w (Err e) kept reads plain fits is says =
    ap (λ (o : Option ℕ). ok_or o NotANumber) is
    ∙ sym (number_no most w (λ digits some small. OkIff-at_err {E = E} (Err e) _ (digits_value 10 w) e (parse_plain own {E = E} 64 w (Err e) reads plain) refl (digits, some, omega arith)))
