-- The four steps of a round undo their ways back, on every state of bytes.
use Rattle.std.specs.Prelude.{◌≡◌, ℕ, ◌^◌, ◌<◌, List, [], ◌∷◌, slice_index, slice_index_or, refl}
use Rattle.std.proofs.Common.{ap, ◌∙◌}
use Rattle.std.proofs.lemmas.Nat.{xor_lt}
use Rattle.block.specs.Maps.{Undo}
use Rattle.block.specs.Xor.{xor-twice}
use Rattle.gf256.specs.Column.{mixing, mixing_back}
use Rattle.gf256.specs.ColumnLaws.{AllBytes, twice, coefficient_fits, unmix_mix, mix_unmix}
use Rattle.gf256.specs.Substitution.{substituted, restored}
use Rattle.gf256.specs.SubstitutionLaws.{substitution_undo}
use Rattle.aes.specs.State.{State, cell, state_of, block_of}
use Rattle.aes.specs.Steps.{over_row, over_rows, sub_bytes_of, inv_sub_bytes_of, shift_rows_of, inv_shift_rows_of, product_row, multiplied, mix_columns_of, inv_mix_columns_of, sum_row_of, add_round_key_of}
use Rattle.aes.specs.StateLaws.{Row, row, Square, square, block_state, state_block, block_fits, state_square}

-- two maps of states that undo each other on states of bytes
pub record Layer (there back : State → State) : Type 0 where
  pub there_square : {s : State} → Square s → Square (there s)
  pub back_square : {s : State} → Square s → Square (back s)
  pub back_there : {s : State} → Square s → back (there s) ≡ s
  pub there_back : {s : State} → Square s → there (back s) ≡ s

-- one after the other
pub then : (f g h k : State → State) → Layer f g → Layer h k → Layer (λ s. h (f s)) (λ s. g (k s))
then f g h k a b =
    record {
      there_square = λ q. b.there_square (a.there_square q);
      back_square = λ q. a.back_square (b.back_square q);
      back_there = λ q. ap g (b.back_there (a.there_square q)) ∙ a.back_there q;
      there_back = λ q. ap h (a.there_back (b.back_square q)) ∙ b.there_back q;
    }

-- a layer of states is a pair of maps on blocks
pub on_blocks : (f g : State → State) → Layer f g → Undo (λ x. block_of (f (state_of x))) (λ x. block_of (g (state_of x)))
on_blocks f g a =
    record {
      there_fits = λ x h. block_fits (a.there_square (state_square x));
      back_fits = λ x h. block_fits (a.back_square (state_square x));
      back_there =
          λ x h. ap (λ (s : State). block_of (g s)) (state_block (a.there_square (state_square x))) ∙ ap block_of (a.back_there (state_square x)) ∙ block_state x h;
      there_back =
          λ x h. ap (λ (s : State). block_of (f s)) (state_block (a.back_square (state_square x))) ∙ ap block_of (a.there_back (state_square x)) ∙ block_state x h;
    }

rows4 : {p q u v p' q' u' v' : List ℕ} → p ≡ p' → q ≡ q' → u ≡ u' → v ≡ v' → ◌≡◌ {A = State} (p ∷ q ∷ u ∷ v ∷ []) (p' ∷ q' ∷ u' ∷ v' ∷ [])
rows4 a b c d i = a i ∷ b i ∷ c i ∷ d i ∷ []

bytes4 : {p q u v p' q' u' v' : ℕ} → p ≡ p' → q ≡ q' → u ≡ u' → v ≡ v' → ◌≡◌ {A = List ℕ} (p ∷ q ∷ u ∷ v ∷ []) (p' ∷ q' ∷ u' ∷ v' ∷ [])
bytes4 a b c d i = a i ∷ b i ∷ c i ∷ d i ∷ []

-- substitution, by the law of the two tables

over_row_lem : (f : ℕ → ℕ) → ((x : ℕ) → x < 2 ^ 8 → f x < 2 ^ 8) → {w : List ℕ} → Row w → Row (over_row f w)
over_row_lem f h (row {a} {b} {c} {d} ha hb hc hd) = row (h a ha) (h b hb) (h c hc) (h d hd)

over_row_back : (f g : ℕ → ℕ) → ((x : ℕ) → x < 2 ^ 8 → g (f x) ≡ x) → {w : List ℕ} → Row w → over_row g (over_row f w) ≡ w
over_row_back f g h (row {a} {b} {c} {d} ha hb hc hd) = bytes4 (h a ha) (h b hb) (h c hc) (h d hd)

over_square : (f : ℕ → ℕ) → ((x : ℕ) → x < 2 ^ 8 → f x < 2 ^ 8) → {s : State} → Square s → Square (over_rows (over_row f) s)
over_square f h (square p q u v) = square (over_row_lem f h p) (over_row_lem f h q) (over_row_lem f h u) (over_row_lem f h v)

over_back : (f g : ℕ → ℕ) → ((x : ℕ) → x < 2 ^ 8 → g (f x) ≡ x) → {s : State} → Square s → over_rows (over_row g) (over_rows (over_row f) s) ≡ s
over_back f g h (square p q u v) = rows4 (over_row_back f g h p) (over_row_back f g h q) (over_row_back f g h u) (over_row_back f g h v)

pub substitution : Layer sub_bytes_of inv_sub_bytes_of
substitution =
    record {
      there_square = over_square substituted substitution_undo.there_fits;
      back_square = over_square restored substitution_undo.back_fits;
      back_there = over_back substituted restored substitution_undo.back_there;
      there_back = over_back restored substituted substitution_undo.there_back;
    }

-- row shift, a permutation

shift_square : {s : State} → Square s → Square (shift_rows_of s)
shift_square (square (row a b c d) (row e f g h) (row i j k l) (row m n o r)) =
    square (row a b c d) (row f g h e) (row k l i j) (row r m n o)

unshift_square : {s : State} → Square s → Square (inv_shift_rows_of s)
unshift_square (square (row a b c d) (row e f g h) (row i j k l) (row m n o r)) =
    square (row a b c d) (row h e f g) (row k l i j) (row n o r m)

unshift_shift : {s : State} → Square s → inv_shift_rows_of (shift_rows_of s) ≡ s
unshift_shift (square (row a b c d) (row e f g h) (row i j k l) (row m n o r)) = refl

shift_unshift : {s : State} → Square s → shift_rows_of (inv_shift_rows_of s) ≡ s
shift_unshift (square (row a b c d) (row e f g h) (row i j k l) (row m n o r)) = refl

pub shift : Layer shift_rows_of inv_shift_rows_of
shift = record { there_square = shift_square; back_square = unshift_square; back_there = unshift_shift; there_back = shift_unshift }

-- column mix, column by column

product_row_lem : (p : List ℕ) {a b c d : List ℕ} → Row a → Row b → Row c → Row d → Row (product_row p a b c d)
product_row_lem p (row {a} {b} {c} {d} ha hb hc hd) (row {a = e} {b = f} {c = g} {d = h} he hf hg hh) (row {a = i} {b = j} {c = k} {d = l} hi hj hk hl)
    (row {a = m} {b = n} {c = o} {d = r} hm hn ho hr) =
    row (coefficient_fits p a e i m (ha, he, hi, hm)) (coefficient_fits p b f j n (hb, hf, hj, hn))
    (coefficient_fits p c g k o (hc, hg, hk, ho)) (coefficient_fits p d h l r (hd, hh, hl, hr))

product_square : (p : List ℕ) {s : State} → Square s → Square (multiplied p s)
product_square p (square a b c d) = square (product_row_lem p a b c d) (product_row_lem p b c d a) (product_row_lem p c d a b) (product_row_lem p d a b c)

-- a row of a state that is multiplied by p and then by q comes back
module _ (p q : List ℕ) (back : (a b c d : ℕ) → AllBytes a b c d → twice p q a b c d ≡ a) where
  row_back : {a b c d : List ℕ} → Row a → Row b → Row c → Row d
      → product_row q (product_row p a b c d) (product_row p b c d a) (product_row p c d a b) (product_row p d a b c) ≡ a
  unfolding twice
  row_back (row {a} {b} {c} {d} ha hb hc hd) (row {a = e} {b = f} {c = g} {d = h} he hf hg hh) (row {a = i} {b = j} {c = k} {d = l} hi hj hk hl)
      (row {a = m} {b = n} {c = o} {d = r} hm hn ho hr) =
      bytes4 (back a e i m (ha, he, hi, hm)) (back b f j n (hb, hf, hj, hn)) (back c g k o (hc, hg, hk, ho)) (back d h l r (hd, hh, hl, hr))

  product_back : {s : State} → Square s → multiplied q (multiplied p s) ≡ s
  product_back (square a b c d) = rows4 (row_back a b c d) (row_back b c d a) (row_back c d a b) (row_back d a b c)

pub mix : Layer mix_columns_of inv_mix_columns_of
mix =
    record {
      there_square = product_square mixing;
      back_square = product_square mixing_back;
      back_there = product_back mixing mixing_back unmix_mix;
      there_back = product_back mixing_back mixing mix_unmix;
    }

-- key addition, by exclusive or

-- each byte of a key is one, whatever its shape
abbrev pub KeyBytes : State → Type 0
KeyBytes k = (i j : ℕ) → cell k i j < 2 ^ 8

sum_row : {w : List ℕ} (k : List ℕ) → ((j : ℕ) → slice_index k j < 2 ^ 8) → Row w → Row (sum_row_of w k)
sum_row k h (row {a} {b} {c} {d} ha hb hc hd) =
    row (xor_lt 8 a (slice_index k 0) ha (h 0)) (xor_lt 8 b (slice_index k 1) hb (h 1)) (xor_lt 8 c (slice_index k 2) hc (h 2)) (xor_lt 8 d (slice_index k 3) hd (h 3))

sum_twice : {w : List ℕ} (k : List ℕ) → Row w → sum_row_of (sum_row_of w k) k ≡ w
sum_twice k (row {a} {b} {c} {d} ha hb hc hd) =
    bytes4 (xor-twice a (slice_index k 0)) (xor-twice b (slice_index k 1)) (xor-twice c (slice_index k 2)) (xor-twice d (slice_index k 3))

sum_square : (k : State) → KeyBytes k → {s : State} → Square s → Square (add_round_key_of s k)
sum_square k h (square p q u v) =
    square (sum_row (slice_index_or k 0 []) (h 0) p) (sum_row (slice_index_or k 1 []) (h 1) q) (sum_row (slice_index_or k 2 []) (h 2) u) (sum_row (slice_index_or k 3 []) (h 3) v)

sum_back : (k : State) → {s : State} → Square s → add_round_key_of (add_round_key_of s k) k ≡ s
sum_back k (square p q u v) = rows4 (sum_twice (slice_index_or k 0 []) p) (sum_twice (slice_index_or k 1 []) q) (sum_twice (slice_index_or k 2 []) u) (sum_twice (slice_index_or k 3 []) v)

pub key_addition : (k : State) → KeyBytes k → Layer (λ s. add_round_key_of s k) (λ s. add_round_key_of s k)
key_addition k h = record { there_square = sum_square k h; back_square = sum_square k h; back_there = sum_back k; there_back = sum_back k }
