-- A call that is written as a line and read again.
use Rattle.std.proofs.Common.{◌≡◌, ℕ, zero, suc, ◌+◌, ◌-◌, ◌/◌, ◌%◌, ◌^◌, ◌<◌, ◌≤◌, Bool, true, false, cond, eqb, ltb, List, [], ◌∷◌, ◌++◌, map, length, get_or, Ok, codes, decimal, Result, sym, refl, ap, ◌∙◌, subst, ⊎_elim, arith}
use Rattle.std.specs.List.{AllByRecursion}
use Rattle.std.specs.Str.{bytes_eq}
use Rattle.std.proofs.lemmas.Fmt.{digits_decimal, digits_value-decimal, decimal_nonempty}
use Rattle.std.proofs.lemmas.Slice.Eq.{bytes_eq-Decides}
use Rattle.std.proofs.lemmas.List.{get_or_append_left}
use Rattle.std.proofs.lemmas.Str.Parse.{not_in_digits}
use Rattle.std.proofs.lemmas.Bool.{cases_Bool, both_ways, eq-eqb}
use Rattle.hexadecimal.specs.Hex.{hex_char, hex_digits}
use Rattle.hexadecimal.specs.HexLaws.{spelled_digits}
use Rattle.script.specs.declared.call.Call.{Call}
use Rattle.script.specs.declared.call.Call.TheVariants.{Station, Reserve, GiveUp, Seal, Open, Parts, State}
use Rattle.script.specs.declared.reason.Reason.{Reason}
use Rattle.script.specs.Calls.{call_line}
use Rattle.script.specs.Said.{Shape, shapes, Said, said_in, call_of, said, spaced, line_for, Writable}
use Rattle.script.specs.Hex.{hex_text_of}
use Rattle.script.specs.Lines.{nothing, cipher, masking, call, cipher_of, masking_of, words_meaning, line_meaning, WritesCall}
use Rattle.script.specs.Results.{then, under, Taken, first}
use Rattle.script.specs.Values.{Field, name, byte, number, space, string, Value, text, count, bytes, number_of, string_of, value_of, values_of, word_for, Word, Fit, FitAll}
use Rattle.script.specs.Words.{words_from, words_of}
use Rattle.script.proofs.Numbers.{own, number_yes}
use Rattle.script.proofs.Pieces.{piece_some, last_some}
use Rattle.script.proofs.Saying.{string_some}

-- numbers
decimal_back : (most n : ℕ) → n < 2 ^ 64 → n ≤ most → number_of most (decimal n) ≡ Ok n
decimal_back most n h small =
    let same = digits_value-decimal own n h in
    number_yes most (decimal n) (digits_decimal own n h) (decimal_nonempty n h) (omega (arith, same)) ∙ ap Ok same

decimal_word : (n : ℕ) → n < 2 ^ 64 → Word (decimal n)
decimal_word n h = record { some = decimal_nonempty n h; solid = not_in_digits own (decimal n) 32 (digits_decimal own n h) (λ i. omega arith) }

-- strings
char_high : (v : ℕ) → 32 < hex_char v
char_high v = elim (ltb v 10) as (λ b. 32 < cond b (48 + v) (87 + v)) [ true ↦ omega arith | false ↦ omega arith ]

hex_solid : (bs : List ℕ) (i : ℕ) → i < length (hex_digits bs) → get_or (hex_digits bs) i 0 ≡ 32 → ⊥
unfolding hex_digits
hex_solid [] i h e = omega arith
hex_solid (b ∷ bs) zero h e = omega (arith, char_high (b / 16))
hex_solid (b ∷ bs) (suc zero) h e = omega (arith, char_high (b % 16))
hex_solid (b ∷ bs) (suc (suc i)) h e = hex_solid bs i (omega arith) e

dash_solid : (i : ℕ) → i < 1 → get_or (codes "-") i 0 ≡ 32 → ⊥
dash_solid zero h e = omega arith
dash_solid (suc i) h e = omega arith

hex_word : (bs : List ℕ) → Word (hex_text_of bs)
unfolding hex_digits
hex_word [] = record { some = omega arith; solid = dash_solid }
hex_word (b ∷ bs) = record { some = omega arith; solid = hex_solid (b ∷ bs) }

hex_back : (bs : List ℕ) → AllByRecursion (λ b. b < 256) bs → length bs ≤ 65536 → string_of (hex_text_of bs) ≡ Ok bs
unfolding hex_digits
hex_back [] small short = refl
hex_back (b ∷ bs) small short =
    string_some (hex_digits (b ∷ bs)) (hex_digits (b ∷ bs)) (b ∷ bs)
    (λ e. let l : length (hex_digits (b ∷ bs)) ≡ 1 = ap length e in omega arith) refl (spelled_digits (b ∷ bs) small) short

-- one value
value_back : (f : Field) (v : Value) → Fit f v → value_of f (word_for v) ≡ Ok v
value_back name (text w) h = refl
value_back name (count n) h = absurd h
value_back name (bytes bs) h = absurd h
value_back byte (text w) h = absurd h
value_back byte (count n) h = ap (under count) (decimal_back 255 n (omega arith) h)
value_back byte (bytes bs) h = absurd h
value_back number (text w) h = absurd h
value_back number (count n) h = ap (under count) (decimal_back (2 ^ 64 - 1) n h (omega arith))
value_back number (bytes bs) h = absurd h
value_back space (text w) h = absurd h
value_back space (count n) h = ap (under count) (decimal_back 65536 n (omega arith) h)
value_back space (bytes bs) h = absurd h
value_back string (text w) h = absurd h
value_back string (count n) h = absurd h
value_back string (bytes bs) h = ap (under bytes) (hex_back bs h.0 h.1)

value_word : (f : Field) (v : Value) → Fit f v → Word (word_for v)
value_word name (text w) h = h
value_word name (count n) h = absurd h
value_word name (bytes bs) h = absurd h
value_word byte (text w) h = absurd h
value_word byte (count n) h = decimal_word n (omega arith)
value_word byte (bytes bs) h = absurd h
value_word number (text w) h = absurd h
value_word number (count n) h = decimal_word n h
value_word number (bytes bs) h = absurd h
value_word space (text w) h = absurd h
value_word space (count n) h = decimal_word n (omega arith)
value_word space (bytes bs) h = absurd h
value_word string (text w) h = absurd h
value_word string (count n) h = absurd h
value_word string (bytes bs) h = hex_word bs

-- all values of a call
first_back : (f : Field) (v : Value) (ws : List (List ℕ)) → Fit f v → first (value_of f) (word_for v ∷ ws) ≡ Ok (record { value = v; rest = ws })
first_back f v ws h = let pair : Value → Taken Value = λ a. record { value = a; rest = ws } in ap (under pair) (value_back f v h)

values_back : (fs : List Field) (vs : List Value) → FitAll fs vs → values_of fs (map word_for vs) ≡ Ok vs
values_back [] [] h = refl
values_back [] (v ∷ vs) h = absurd h
values_back (f ∷ fs) [] h = absurd h
values_back (f ∷ fs) (v ∷ vs) h =
    ap (λ (r : Result (Taken Value) Reason). then r (λ taken. under (λ ws. taken.value ∷ ws) (values_of fs taken.rest))) (first_back f v (map word_for vs) h.0)
    ∙ ap (under (λ (ws : List Value). v ∷ ws)) (values_back fs vs h.1)

values_words : (fs : List Field) (vs : List Value) → FitAll fs vs → AllByRecursion Word (map word_for vs)
values_words [] [] h = tt
values_words [] (v ∷ vs) h = absurd h
values_words (f ∷ fs) [] h = absurd h
values_words (f ∷ fs) (v ∷ vs) h = (value_word f v h.0, values_words fs vs h.1)

-- words with a space between each two
words_spaced : (w : List ℕ) (ws : List (List ℕ)) → Word w → AllByRecursion Word ws → words_of (spaced w ws) ≡ w ∷ ws
unfolding words_from
words_spaced w [] h hs = last_some w h.solid h.some
words_spaced w (v ∷ vs) h hs =
    piece_some (w ++ (32 ∷ spaced v vs)) w (spaced v vs) refl h.solid h.some ∙ ap (λ (l : List (List ℕ)). w ∷ l) (words_spaced v vs hs.0 hs.1)

first_spaced : (w : List ℕ) (ws : List (List ℕ)) → 0 < length w → get_or (spaced w ws) 0 0 ≡ get_or w 0 0
first_spaced w [] h = refl
first_spaced w (v ∷ vs) h = get_or_append_left w (32 ∷ spaced v vs) 0 0 h

-- a call's first word is a word, does not begin with # and names no setting
pub record Kind (k : List ℕ) : Type 0 where
  pub some : 0 < length k
  pub solid : (i : ℕ) → i < length k → get_or k i 0 ≡ 32 → ⊥
  pub mark : eqb (get_or k 0 0) 35 ≡ false
  pub no_cipher : bytes_eq k (codes "cipher") ≡ false
  pub no_masking : bytes_eq k (codes "masking") ≡ false

-- no space among some characters, as a test
spaceless : List ℕ → Bool
spaceless [] = true
spaceless (c ∷ cs) = cond (eqb c 32) false (spaceless cs)

solid_from : (k : List ℕ) → spaceless k ≡ true → (i : ℕ) → i < length k → get_or k i 0 ≡ 32 → ⊥
unfolding spaceless
solid_from [] t i h e = omega arith
solid_from (c ∷ cs) t zero h e = both_ways (spaceless (c ∷ cs)) (ap (λ (b : Bool). cond b false (spaceless cs)) (eq-eqb c 32 e)) t
solid_from (c ∷ cs) t (suc i) h e =
    ⊎_elim (λ y. both_ways (spaceless (c ∷ cs)) (ap (λ (b : Bool). cond b false (spaceless cs)) y) t)
    (λ n. solid_from cs (sym (ap (λ (b : Bool). cond b false (spaceless cs)) n) ∙ t) i (omega arith) e)
    (cases_Bool (eqb c 32))

kind_by : (k : List ℕ) → spaceless k ≡ true → 0 < length k → eqb (get_or k 0 0) 35 ≡ false → bytes_eq k (codes "cipher") ≡ false → bytes_eq k (codes "masking") ≡ false → Kind k
kind_by k t some mark c m = record { some = some; solid = solid_from k t; mark = mark; no_cipher = c; no_masking = m }

kinds : AllByRecursion (λ s. Kind s.kind) shapes
unfolding spaceless
kinds = (
  kind_by _ refl (omega arith) refl refl refl,
  (
    kind_by _ refl (omega arith) refl refl refl,
    (
      kind_by _ refl (omega arith) refl refl refl,
      (
        kind_by _ refl (omega arith) refl refl refl,
        (
          kind_by _ refl (omega arith) refl refl refl,
          (
            kind_by _ refl (omega arith) refl refl refl,
            (
              kind_by _ refl (omega arith) refl refl refl,
              tt,
            ),
          ),
        ),
      ),
    ),
  ),
)

-- what is known of a call that can be written: its first word, its other words, and what they say
pub record Known (hs : List Shape) (s : Said) : Type 0 where
  pub kind : Kind s.kind
  pub words : AllByRecursion Word (map word_for s.values)
  pub says : said_in hs s.kind (map word_for s.values) ≡ Ok s

at_true : {A : Type 1} (b : Bool) (x y : A) → b ≡ true → cond b x y ≡ x
at_true b x y e = ap (λ (t : Bool). cond t x y) e

at_false : {A : Type 1} (b : Bool) (x y : A) → b ≡ false → cond b x y ≡ y
at_false b x y e = ap (λ (t : Bool). cond t x y) e

known : (hs : List Shape) (s : Said) → AllByRecursion (λ h. Kind h.kind) hs → Writable hs s → Known hs s
known [] s ks w = absurd w
known (h ∷ hs) s ks w =
    let ws = map word_for s.values in
    let b = bytes_eq s.kind h.kind in
    let mine : Result Said Reason = under (λ vs. record { kind = h.kind; values = vs }) (values_of h.fields ws) in
    let other = said_in hs s.kind ws in
    ⊎_elim
    (λ t.
    let fit : FitAll h.fields s.values = subst (λ (A : Type 0). A) (at_true b (FitAll h.fields s.values) (Writable hs s) t) w in
    let same = (bytes_eq-Decides s.kind h.kind).0 t in
    record {
      kind = subst Kind (sym same) ks.0;
      words = values_words h.fields s.values fit;
      says =
          ap (λ (x : Bool). cond x mine other) t
          ∙ ap (under (λ (vs : List Value). record { kind = h.kind; values = vs })) (values_back h.fields s.values fit)
          ∙ ap (λ (k : List ℕ). Ok (record { kind = k; values = s.values })) (sym same);
    })
    (λ f.
    let rest = known hs s ks.1 (subst (λ (A : Type 0). A) (at_false b (FitAll h.fields s.values) (Writable hs s) f) w) in
    record { kind = rest.kind; words = rest.words; says = ap (λ (x : Bool). cond x mine other) f ∙ rest.says })
    (cases_Bool b)

-- the line of a call says the call
line_back : (s : Said) → Known shapes s → line_meaning (line_for s) ≡ Ok (call s)
line_back s k =
    let ws = map word_for s.values in
    let mark = ap (λ (n : ℕ). eqb n 35) (first_spaced s.kind ws k.kind.some) ∙ k.kind.mark in
    ap (λ (b : Bool). cond b (Ok nothing) (words_meaning (words_of (line_for s)))) mark
    ∙ ap words_meaning (words_spaced s.kind ws (record { some = k.kind.some; solid = k.kind.solid }) k.words)
    ∙ ap (λ (b : Bool). cond b (under cipher (cipher_of ws)) (cond (bytes_eq s.kind (codes "masking")) (under masking (masking_of ws)) (under call (call_of s.kind ws)))) k.kind.no_cipher
    ∙ ap (λ (b : Bool). cond b (under masking (masking_of ws)) (under call (call_of s.kind ws))) k.kind.no_masking
    ∙ ap (under call) k.says

-- the line of a call is its words, with a space between each two
same_line : (c : Call) → call_line c ≡ line_for (said c)
same_line (Station who id peer start floor) = refl
same_line (Reserve who ticket) = refl
same_line (GiveUp who ticket) = refl
same_line (Seal who ticket mode clear message room) = refl
same_line (Open who frame room) = refl
same_line (Parts frame) = refl
same_line (State who) = refl

written : (c : Call) (line : List ℕ) → line ≡ line_for (said c) → WritesCall c line
written c line e = record { written = e; back = λ w. ap line_meaning e ∙ line_back (said c) (known shapes (said c) kinds w) }

pub writes : (c : Call) (line : List ℕ) → line ≡ call_line c → WritesCall c line
writes c line e = written c line (e ∙ same_line c)
