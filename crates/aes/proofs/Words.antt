-- The round keys, one made from the other, are the words of the key expansion.
use Rattle.std.proofs.Common.{◌≡◌, ℕ, zero, suc, ◌+◌, ◌-◌, ◌*◌, ◌/◌, ◌%◌, ◌^◌, ◌<◌, Bool, true, false, cond, eqb, ◌≢◌, List, [], ◌∷◌, length, get_or, set, sym, refl, ap, ◌∙◌, subst, ap₂, ⊎_elim, zero-add, add-one, arith, length-set}
use lib.Bits.{bit_xor, xor_lt, xor_zero_r}
use Rattle.std.proofs.lemmas.List.{get_or-set_same, get_or-set_other}
use Rattle.std.proofs.lemmas.Bool.{cases_lt}
use Rattle.block.specs.Bytes.{number_of}
use Rattle.gf256.specs.Field.{times_x_of, product, power}
use Rattle.gf256.specs.FieldLaws.{times_two, power_fits}
use Rattle.gf256.specs.Substitution.{substituted}
use Rattle.gf256.specs.SubstitutionLaws.{substitution_undo}
use Rattle.aes.specs.State.{State, cell, rows_of, column_then}
use Rattle.aes.specs.StateLaws.{Row, row, Square, square, square_cells, rows_square}
use Rattle.aes.specs.Steps.{sum_row_of}
use Rattle.aes.specs.KeyExpansion.{rot_word, sub_word, round_constant, next_word_of, words_from, key_word, expanded_key, columns_are, by_four, round_keys, word_at}
use Rattle.aes.specs.CipherLaws.{AllKeyBytes}
use Rattle.aes.specs.RoundKeys.{cells_of, next_row_of, next_key_of}
use Rattle.aes.specs.declared.state.State.{State as RoundKey}
use Rattle.aes.proofs.Keys.{cells_set, cells_length}

-- round key n, where s is the first
unfoldable pub key_at : State → ℕ → State
key_at s zero = s
key_at s (suc n) = next_key_of (power 2 n) (key_at s n)

-- n round keys, from number m on
unfoldable keys_from : State → ℕ → ℕ → List State
keys_from s m zero = []
keys_from s m (suc n) = key_at s m ∷ keys_from s (suc m) n

-- four times n
abbrev four : ℕ → ℕ
four zero = zero
four (suc n) = suc (suc (suc (suc (four n))))

four_is : (n : ℕ) → four n ≡ 4 * n
four_is zero = refl
four_is (suc n) = let e = four_is n in omega arith

-- a word that begins a round key, and one that does not

first_word_lem : (m i : ℕ) (a d : List ℕ) → i ≡ 4 * suc m → next_word_of i a d ≡ sum_row_of a (sum_row_of (sub_word (rot_word d)) (power 2 m ∷ 0 ∷ 0 ∷ 0 ∷ []))
unfolding next_word_of
first_word_lem m i a d e =
    let r : i % 4 ≡ 0 = omega arith in
    let q : i / 4 - 1 ≡ m = omega arith in
    ap (λ (n : ℕ). cond (eqb n 0) (sum_row_of a (sum_row_of (sub_word (rot_word d)) (round_constant (i / 4)))) (sum_row_of a d)) r
    ∙ ap (λ (n : ℕ). sum_row_of a (sum_row_of (sub_word (rot_word d)) (power 2 n ∷ 0 ∷ 0 ∷ 0 ∷ []))) q

other_word : (r i : ℕ) (a d : List ℕ) → i % 4 ≡ r → eqb r 0 ≡ false → next_word_of i a d ≡ sum_row_of a d
unfolding next_word_of
other_word r i a d e f =
    ap (λ (b : Bool). cond b (sum_row_of a (sum_row_of (sub_word (rot_word d)) (round_constant (i / 4)))) (sum_row_of a d)) (ap (λ (n : ℕ). eqb n 0) e ∙ f)

-- the first word of the next round key
abbrev first_word : ℕ → List ℕ → List ℕ → List ℕ
first_word p a d =
    bit_xor (get_or a 0 0) (bit_xor (substituted (get_or d 1 0)) p) ∷ bit_xor (get_or a 1 0) (substituted (get_or d 2 0))
    ∷ bit_xor (get_or a 2 0) (substituted (get_or d 3 0)) ∷ bit_xor (get_or a 3 0) (substituted (get_or d 0 0)) ∷ []

plain : (p : ℕ) (a d : List ℕ) → sum_row_of a (sum_row_of (sub_word (rot_word d)) (p ∷ 0 ∷ 0 ∷ 0 ∷ [])) ≡ first_word p a d
plain p a d i =
    bit_xor (get_or a 0 0) (bit_xor (substituted (get_or d 1 0)) p) ∷ bit_xor (get_or a 1 0) (xor_zero_r (substituted (get_or d 2 0)) i)
    ∷ bit_xor (get_or a 2 0) (xor_zero_r (substituted (get_or d 3 0)) i) ∷ bit_xor (get_or a 3 0) (xor_zero_r (substituted (get_or d 0 0)) i) ∷ []

columns4 : {e e' f f' g g' h h' : List ℕ} → e ≡ e' → f ≡ f' → g ≡ g' → h ≡ h' → columns_are e f g h ≡ columns_are e' f' g' h'
columns4 p q r s i = columns_are (p i) (q i) (r i) (s i)

-- four words of the expansion are the next round key, by rows
next_columns : (p : ℕ) (a b c d e f g h : List ℕ) → e ≡ first_word p a d → f ≡ sum_row_of b e → g ≡ sum_row_of c f → h ≡ sum_row_of d g
    → columns_are e f g h ≡ next_key_of p (columns_are a b c d)
next_columns p a b c d e f g h pe pf pg ph =
    let qf : f ≡ sum_row_of b (first_word p a d) = pf ∙ ap (sum_row_of b) pe in
    let qg : g ≡ sum_row_of c (sum_row_of b (first_word p a d)) = pg ∙ ap (sum_row_of c) qf in
    columns4 pe qf qg (ph ∙ ap (sum_row_of d) qg)

by_four_lem : (s : State) (n m : ℕ) (a b c d : List ℕ) → columns_are a b c d ≡ key_at s m → by_four n (words_from (four n) (four m) a b c d) ≡ keys_from s m n
unfolding by_four words_from keys_from key_at
by_four_lem s zero m a b c d h = refl
by_four_lem s (suc n) m a b c d h =
    let z = four_is m in
    let e : List ℕ = next_word_of (four m + 4) a d in
    let f : List ℕ = next_word_of (suc (four m) + 4) b e in
    let g : List ℕ = next_word_of (suc (suc (four m)) + 4) c f in
    let w : List ℕ = next_word_of (suc (suc (suc (four m))) + 4) d g in
    ap₂ (λ (k : State) (ks : List State). k ∷ ks) h
    (by_four_lem s n (suc m) e f g w
    (next_columns (power 2 m) a b c d e f g w
    (first_word_lem m (four m + 4) a d (omega arith) ∙ plain (power 2 m) a d)
    (other_word 1 (suc (four m) + 4) b e (omega arith) refl)
    (other_word 2 (suc (suc (four m)) + 4) c f (omega arith) refl)
    (other_word 3 (suc (suc (suc (four m))) + 4) d g (omega arith) refl)
    ∙ ap (next_key_of (power 2 m)) h))

keys_are : (key : List ℕ) → round_keys key ≡ keys_from (rows_of key) 0 11
unfolding round_keys expanded_key key_at
keys_are key = by_four_lem (rows_of key) 11 0 (key_word key 0) (key_word key 4) (key_word key 8) (key_word key 12) refl

-- every byte of them is one

next_row : {w : List ℕ} (t : ℕ) → t < 2 ^ 8 → Row w → Row (next_row_of w t)
next_row t h (row {a} {b} {c} {d} ha hb hc hd) =
    let p = xor_lt 8 a t ha h in
    let q = xor_lt 8 b (bit_xor a t) hb p in
    let u = xor_lt 8 c (bit_xor b (bit_xor a t)) hc q in
    row p q u (xor_lt 8 d (bit_xor c (bit_xor b (bit_xor a t))) hd u)

next_square : (p : ℕ) → p < 2 ^ 8 → {s : State} → Square s → Square (next_key_of p s)
next_square p h {s} (square u v x y) =
    let fits = substitution_undo.there_fits in
    let at = square_cells (square u v x y) in
    square (next_row (bit_xor (substituted (cell s 1 3)) p) (xor_lt 8 (substituted (cell s 1 3)) p (fits (cell s 1 3) (at 1 3)) h) u)
    (next_row (substituted (cell s 2 3)) (fits (cell s 2 3) (at 2 3)) v) (next_row (substituted (cell s 3 3)) (fits (cell s 3 3) (at 3 3)) x)
    (next_row (substituted (cell s 0 3)) (fits (cell s 0 3) (at 0 3)) y)

key_square : (s : State) → Square s → (n : ℕ) → Square (key_at s n)
unfolding key_at
key_square s q zero = q
key_square s q (suc n) = next_square (power 2 n) (power_fits n) (key_square s q n)

keys_bytes : (s : State) → Square s → (n m : ℕ) → AllKeyBytes (keys_from s m n)
unfolding keys_from
keys_bytes s q zero m k i j = omega arith
keys_bytes s q (suc n) m zero i j = square_cells (key_square s q m) i j
keys_bytes s q (suc n) m (suc k) i j = keys_bytes s q n (suc m) k i j

-- the code's list of round keys, of which the first i are filled, and the next one

pub record Expanding (start : State) (i c : ℕ) (next : State) (ks : List RoundKey) : Type 0 where
  pub constant : c ≡ power 2 i
  pub reached : next ≡ key_at start i
  pub long : length ks ≡ 11
  pub keys : (j : ℕ) → j < i → get_or (cells_of ks) j [] ≡ key_at start j

pub expanding_none : (start : State) (ks : List RoundKey) → length ks ≡ 11 → Expanding start 0 1 start ks
unfolding key_at power
expanding_none start ks l = record { constant = refl; reached = refl; long = l; keys = λ j h. absurd (omega arith) }

pub expanding_more : (start after : State) (i c c' : ℕ) (ks : List RoundKey) (r : RoundKey) → i < 11 → after ≡ next_key_of c r.cells → c' ≡ times_x_of c
    → Expanding start i c r.cells ks → Expanding start (i + 1) c' after (set ks i r)
unfolding key_at power
expanding_more start after i c c' ks r h made doubled e =
    let fits : c < 2 ^ 8 = subst (λ (n : ℕ). n < 2 ^ 8) (sym e.constant) (power_fits i) in
    let l = cells_length ks in
    let long = e.long in
    let n : i < length (cells_of ks) = omega arith in
    let P : ℕ → Type 0 = λ j. get_or (cells_of (set ks i r)) j [] ≡ key_at start j in
    let put = cells_set ks i r in
    record {
      constant = doubled ∙ times_two c fits ∙ ap (λ (m : ℕ). product m 2) e.constant ∙ sym (ap (power 2) (add-one i));
      reached = made ∙ ap₂ next_key_of e.constant e.reached ∙ sym (ap (key_at start) (add-one i));
      long = length-set ks i r ∙ long;
      keys =
          λ j b.
          ⊎_elim
          (λ (lt : j < i).
          let ne : j ≢ i = omega arith in
          ap (λ (v : List State). get_or v j []) put ∙ get_or-set_other (cells_of ks) i j r.cells [] ne ∙ e.keys j lt)
          (λ ge.
          let z : j ≡ i = omega arith in
          subst P (sym z) (ap (λ (v : List State). get_or v i []) put ∙ get_or-set_same (cells_of ks) i r.cells [] n ∙ e.reached))
          (cases_lt j i);
    }

listed : (s : State) (n m : ℕ) (xs : List State) → length xs ≡ n → ((j : ℕ) → j < n → get_or xs j [] ≡ key_at s (m + j)) → xs ≡ keys_from s m n
unfolding keys_from
listed s zero m [] l h = refl
listed s zero m (x ∷ xs) l h = absurd (omega arith)
listed s (suc n) m [] l h = absurd (omega arith)
listed s (suc n) m (x ∷ xs) l h =
    let z : m + 0 ≡ m = omega arith in
    ap₂ (λ (k : State) (ks : List State). k ∷ ks) (h 0 (omega arith) ∙ ap (key_at s) z)
    (listed s n (suc m) xs (omega arith) (λ j b. let y : m + suc j ≡ suc m + j = omega arith in h (suc j) (omega arith) ∙ ap (key_at s) y))

pub expanding_all : (key : List ℕ) (i c : ℕ) (next : State) (ks : List RoundKey) → i ≡ 11 → Expanding (rows_of key) i c next ks → cells_of ks ≡ round_keys key
expanding_all key i c next ks z e =
    let l = cells_length ks in
    let long = e.long in
    listed (rows_of key) 11 0 (cells_of ks) (omega arith) (λ j b. e.keys j (omega arith) ∙ ap (key_at (rows_of key)) (sym (zero-add j))) ∙ sym (keys_are key)

pub round_keys_bytes : (key : List ℕ) → ((i : ℕ) → get_or key i 0 < 2 ^ 8) → AllKeyBytes (round_keys key)
round_keys_bytes key h = subst AllKeyBytes (sym (keys_are key)) (keys_bytes (rows_of key) (rows_square key h) 11 0)

-- a word of the expansion is a column of a round key

data Word : List ℕ → Type 0 where
  word : (a b c d : ℕ) → Word (a ∷ b ∷ c ∷ d ∷ [])

whole : {w : List ℕ} → Word w → get_or w 0 0 ∷ get_or w 1 0 ∷ get_or w 2 0 ∷ get_or w 3 0 ∷ [] ≡ w
whole (word a b c d) = refl

either_word : (b : Bool) (x y : List ℕ) → Word x → Word y → Word (cond b x y)
either_word true x y u v = u
either_word false x y u v = v

sum_word : (a d : List ℕ) → Word (sum_row_of a d)
sum_word a d = word (bit_xor (get_or a 0 0) (get_or d 0 0)) (bit_xor (get_or a 1 0) (get_or d 1 0)) (bit_xor (get_or a 2 0) (get_or d 2 0)) (bit_xor (get_or a 3 0) (get_or d 3 0))

next_word : (i : ℕ) (a d : List ℕ) → Word (next_word_of i a d)
unfolding next_word_of
next_word i a d =
    either_word (eqb (i % 4) 0) (sum_row_of a (sum_row_of (sub_word (rot_word d)) (round_constant (i / 4)))) (sum_row_of a d)
    (sum_word a (sum_row_of (sub_word (rot_word d)) (round_constant (i / 4)))) (sum_word a d)

abbrev column_at : List State → ℕ → List ℕ
column_at ks k = column_then (get_or ks (k / 4) []) (k % 4) []

columns_words : (n m k : ℕ) {a b c d : List ℕ} → Word a → Word b → Word c → Word d → k < four n
    → column_at (by_four n (words_from (four n) m a b c d)) k ≡ get_or (words_from (four n) m a b c d) k []
unfolding by_four words_from
columns_words zero m k p q u v h = absurd (omega arith)
columns_words (suc n) m zero p q u v h = whole p
columns_words (suc n) m (suc zero) p q u v h = whole q
columns_words (suc n) m (suc (suc zero)) p q u v h = whole u
columns_words (suc n) m (suc (suc (suc zero))) p q u v h = whole v
columns_words (suc n) m (suc (suc (suc (suc k)))) {a} {b} {c} {d} p q u v h =
    let e : List ℕ = next_word_of (m + 4) a d in
    let f : List ℕ = next_word_of (suc m + 4) b e in
    let g : List ℕ = next_word_of (suc (suc m) + 4) c f in
    let w : List ℕ = next_word_of (suc (suc (suc m)) + 4) d g in
    let ks : List State = by_four n (words_from (four n) (suc (suc (suc (suc m)))) e f g w) in
    let quot : suc (suc (suc (suc k))) / 4 ≡ suc (k / 4) = omega arith in
    let rem : suc (suc (suc (suc k))) % 4 ≡ k % 4 = omega arith in
    ap₂ (λ (x y : ℕ). column_then (get_or (columns_are a b c d ∷ ks) x []) y []) quot rem
    ∙ columns_words n (suc (suc (suc (suc m)))) k (next_word (m + 4) a d) (next_word (suc m + 4) b e) (next_word (suc (suc m) + 4) c f) (next_word (suc (suc (suc m)) + 4) d g) (omega arith)

pub round_key_words : (key : List ℕ) (i : ℕ) → i < 44 → word_at (round_keys key) i ≡ number_of (get_or (expanded_key key) i [])
unfolding round_keys expanded_key
round_key_words key i h =
    ap number_of (columns_words 11 0 i
    (word (get_or key 0 0) (get_or key 1 0) (get_or key 2 0) (get_or key 3 0)) (word (get_or key 4 0) (get_or key 5 0) (get_or key 6 0) (get_or key 7 0))
    (word (get_or key 8 0) (get_or key 9 0) (get_or key 10 0) (get_or key 11 0)) (word (get_or key 12 0) (get_or key 13 0) (get_or key 14 0) (get_or key 15 0)) h)
