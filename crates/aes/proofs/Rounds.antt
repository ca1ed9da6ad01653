-- A state on its way through the rounds of the cipher, and of the inverse cipher.
use Rattle.std.proofs.Common.{◌≡◌, ℕ, suc, ◌+◌, ◌<◌, ◌≤◌, List, [], ◌∷◌, ◌++◌, length, get_or, take, drop, sym, refl, ap, ◌∙◌, ap₂, add-one, arith, length-append, length-drop}
use Rattle.std.proofs.Math.Seq.{get_or-append_seam}
use Rattle.std.proofs.lemmas.List.{get_or_default, get_or-take, get_or-drop, take_at, take-take, length-take-le}
use Rattle.aes.specs.State.{State}
use Rattle.aes.specs.Steps.{sub_bytes_of, inv_sub_bytes_of, shift_rows_of, inv_shift_rows_of, mix_columns_of, inv_mix_columns_of, add_round_key_of}
use Rattle.aes.specs.RoundKeys.{cells_of}
use Rattle.aes.specs.declared.state.State.{State as RoundKey}
use Rattle.aes.proofs.Keys.{cells_at}
use Rattle.aes.specs.Cipher.{round, last_round, up_to, enciphered, inv_round_of, inv_last_round, down_from, deciphered}

module _ (k s substituted shifted key r : State) where
  -- the steps of a round, one after the other
  pub inner_round : (mixed : State) → substituted ≡ sub_bytes_of s → shifted ≡ shift_rows_of substituted → mixed ≡ mix_columns_of shifted → key ≡ k
      → r ≡ add_round_key_of mixed key → r ≡ round k s
  unfolding round
  inner_round mixed a b m e h =
      h ∙ ap₂ add_round_key_of (m ∙ ap mix_columns_of (b ∙ ap shift_rows_of a)) e

  pub last_round_lem : substituted ≡ sub_bytes_of s → shifted ≡ shift_rows_of substituted → key ≡ k → r ≡ add_round_key_of shifted key → r ≡ last_round k s
  unfolding last_round
  last_round_lem a b e h = h ∙ ap₂ add_round_key_of (b ∙ ap shift_rows_of a) e

  pub inv_last_round_lem : shifted ≡ inv_shift_rows_of s → substituted ≡ inv_sub_bytes_of shifted → key ≡ k → r ≡ add_round_key_of substituted key → r ≡ inv_last_round k s
  unfolding inv_last_round
  inv_last_round_lem b a e h = h ∙ ap₂ add_round_key_of (a ∙ ap inv_sub_bytes_of b) e

  pub inv_inner_round : (added : State) → shifted ≡ inv_shift_rows_of s → substituted ≡ inv_sub_bytes_of shifted → key ≡ k → added ≡ add_round_key_of substituted key
      → r ≡ inv_mix_columns_of added → r ≡ inv_round_of k s
  unfolding inv_round_of
  inv_inner_round added b a e m h = h ∙ ap inv_mix_columns_of (m ∙ ap₂ add_round_key_of (a ∙ ap inv_sub_bytes_of b) e)

round_more : (ks : List State) (i : ℕ) (start : State) → round (get_or ks (suc i) []) (up_to ks i start) ≡ up_to ks (i + 1) start
unfolding up_to
round_more ks i start = sym (ap (λ (n : ℕ). up_to ks n start) (add-one i))

-- a round more, from what the first i make of a state to which the first key was added
pub up_more : (ks : List State) (i : ℕ) (start s r : State) → r ≡ round (get_or ks (suc i) []) s → s ≡ up_to ks i start → r ≡ up_to ks (i + 1) start
up_more ks i start s r h e = h ∙ ap (round (get_or ks (suc i) [])) e ∙ round_more ks i start

pub up_none : (ks : List State) (start : State) → start ≡ up_to ks 0 start
unfolding up_to
up_none ks start = refl

pub up_all : (ks : List State) (s first last start r t : State) → first ≡ get_or ks 0 [] → last ≡ get_or ks 10 [] → start ≡ add_round_key_of s first
    → t ≡ up_to ks 9 start → r ≡ last_round last t → r ≡ enciphered ks s
unfolding enciphered
up_all ks s first last start r t f l b u e =
    e ∙ ap₂ last_round l (u ∙ ap (up_to ks 9) (b ∙ ap (add_round_key_of s) f))

-- the rounds of the inverse cipher that are left, under the first of the inner keys, lead from s to what all lead to
pub record Deciphering (ks left : List RoundKey) (start s : State) : Type 0 where
  pub first : left ≡ take (length left) (drop 1 ks)
  pub few : length left ≤ 9
  pub leads : down_from (cells_of ks) (length left) s ≡ down_from (cells_of ks) 9 start

pub deciphering_none : (ks left : List RoundKey) (start : State) → length ks ≡ 11 → left ≡ take 9 (drop 1 ks) → Deciphering ks left start start
deciphering_none ks left start l e =
    let d = length-drop 1 ks in
    let n : length left ≡ 9 = ap length e ∙ length-take-le 9 (drop 1 ks) (omega arith) in
    record {
      first = e ∙ sym (ap (λ (m : ℕ). take m (drop 1 ks)) n);
      few = omega arith;
      leads = ap (λ (m : ℕ). down_from (cells_of ks) m start) n;
    }

down_more : (ks : List State) (n : ℕ) (s : State) → down_from ks n (inv_round_of (get_or ks (suc n) []) s) ≡ down_from ks (suc n) s
unfolding down_from
down_more ks n s = refl

-- what comes of the last of them
last_of : (ks left rest : List RoundKey) (k : RoundKey) → length ks ≡ 11 → left ≡ rest ++ k ∷ [] → left ≡ take (length left) (drop 1 ks) → length left ≤ 9
    → k.cells ≡ get_or (cells_of ks) (suc (length rest)) []
last_of ks left rest k l e f b =
    let a = length-append rest (k ∷ []) in
    let n : length left ≡ suc (length rest) = ap length e ∙ omega arith in
    let g : get_or left (length rest) (record { cells = [] }) ≡ k = ap (λ (v : List RoundKey). get_or v (length rest) (record { cells = [] })) e ∙ get_or-append_seam rest k [] (record { cells = [] }) in
    let h : get_or left (length rest) (record { cells = [] }) ≡ get_or ks (1 + length rest) (record { cells = [] }) =
    ap (λ (v : List RoundKey). get_or v (length rest) (record { cells = [] })) f
    ∙ get_or-take (length left) (drop 1 ks) (length rest) (record { cells = [] }) (omega arith) ∙ get_or-drop 1 ks (length rest) (record { cells = [] }) in
    ap (λ (r : RoundKey). r.cells) (sym g ∙ h) ∙ cells_at ks (1 + length rest) ∙ ap (λ (m : ℕ). get_or (cells_of ks) m []) (omega arith)

pub deciphering_more : (ks left rest : List RoundKey) (k : RoundKey) (start s r : State) → length ks ≡ 11 → left ≡ rest ++ k ∷ [] → r ≡ inv_round_of k.cells s
    → Deciphering ks left start s → Deciphering ks rest start r
deciphering_more ks left rest k start s r l e h d =
    let a = length-append rest (k ∷ []) in
    let n : length left ≡ suc (length rest) = ap length e ∙ omega arith in
    let b = d.few in
    let t : rest ≡ take (length rest) left = sym (take_at rest (k ∷ []) (length rest) refl) ∙ ap (take (length rest)) (sym e) in
    record {
      first =
          t ∙ ap (take (length rest)) d.first ∙ take-take (length rest) (length left) (drop 1 ks) (omega arith);
      few = omega arith;
      leads =
          ap (down_from (cells_of ks) (length rest)) (h ∙ ap (λ (c : State). inv_round_of c s) (last_of ks left rest k l e d.first d.few))
          ∙ down_more (cells_of ks) (length rest) s ∙ sym (ap (λ (m : ℕ). down_from (cells_of ks) m s) n) ∙ d.leads;
    }

pub deciphering_all : (ks left : List RoundKey) (s first last start r t : State) → length left ≡ 0 → first ≡ get_or (cells_of ks) 0 [] → last ≡ get_or (cells_of ks) 10 []
    → start ≡ add_round_key_of s last → r ≡ inv_last_round first t → Deciphering ks left start t → r ≡ deciphered (cells_of ks) s
unfolding deciphered down_from
deciphering_all ks left s first last start r t z f l b e d =
    e ∙ ap₂ inv_last_round f (sym (ap (λ (m : ℕ). down_from (cells_of ks) m t) z) ∙ d.leads ∙ ap (down_from (cells_of ks) 9) (b ∙ ap (add_round_key_of s) l))

-- the cells of a round key, read at any default
pub key_is : (ks : List RoundKey) (n : ℕ) (d : RoundKey) → n < length ks → (get_or ks n d).cells ≡ get_or (cells_of ks) n []
key_is ks n d h = ap (λ (r : RoundKey). r.cells) (get_or_default ks n d (record { cells = [] }) h) ∙ cells_at ks n

-- of an inner round key, counted from the second one on
pub inner_key : (ks : List RoundKey) (i : ℕ) (d : RoundKey) → length ks ≡ 11 → i < 9 → (get_or (take 9 (drop 1 ks)) i d).cells ≡ get_or (cells_of ks) (suc i) []
inner_key ks i d l h =
    ap (λ (r : RoundKey). r.cells) (get_or-take 9 (drop 1 ks) i d h ∙ get_or-drop 1 ks i d)
    ∙ key_is ks (1 + i) d (omega arith) ∙ ap (λ (m : ℕ). get_or (cells_of ks) m []) (omega arith)
