-- Rotations as the library writes them, and what one more round does to the lists of keys.
use Rattle.std.proofs.Common.{◌≡◌, ℕ, zero, suc, ◌+◌, ◌-◌, ◌*◌, ◌/◌, ◌%◌, ◌^◌, ◌<◌, ◌≤◌, List, [], ◌∷◌, ◌++◌, length, get_or, take, drop, set, replicate, sym, refl, ap, ◌∙◌, subst, ap₂, append_assoc, add-one, arith, length-set, drop-cons, take-suc-set}
use lib.Bits.{bit_or, or_shifted, or_shifted_r}
use Rattle.std.proofs.lemmas.List.{take_all, drop_all, append-nil}
use Rattle.cipher.specs.Speck.{right_of, joined, rotated_right, rotated_left, new_left, new_right, round, old_left, old_right, round_back_of, encrypted, decrypted, next_keys, keys_from}
use Rattle.cipher.specs.SpeckLaws.{right-joined, round-joined, back_joined, left_fits, right_fits, old_left_fits, old_right_fits}

-- a word cut in two and swapped
module _ (w : ℕ) (h : w < 2 ^ 64) where
  pub right_3 : bit_or (w / 2 ^ 3) ((w * 2 ^ 61) % 2 ^ 64) ≡ rotated_right 3 w
  right_3 =
      let e : (w * 2 ^ 61) % 2 ^ 64 ≡ w % 2 ^ 3 * 2 ^ 61 = omega arith in
      ap (bit_or (w / 2 ^ 3)) e ∙ or_shifted_r (w % 2 ^ 3) 61 (w / 2 ^ 3) (omega arith)

  pub right_8 : bit_or (w / 2 ^ 8) ((w * 2 ^ 56) % 2 ^ 64) ≡ rotated_right 8 w
  right_8 =
      let e : (w * 2 ^ 56) % 2 ^ 64 ≡ w % 2 ^ 8 * 2 ^ 56 = omega arith in
      ap (bit_or (w / 2 ^ 8)) e ∙ or_shifted_r (w % 2 ^ 8) 56 (w / 2 ^ 8) (omega arith)

  pub left_3 : bit_or ((w * 2 ^ 3) % 2 ^ 64) (w / 2 ^ 61) ≡ rotated_left 3 w
  left_3 =
      let e : (w * 2 ^ 3) % 2 ^ 64 ≡ w % 2 ^ 61 * 2 ^ 3 = omega arith in
      ap (λ (n : ℕ). bit_or n (w / 2 ^ 61)) e ∙ or_shifted (w % 2 ^ 61) 3 (w / 2 ^ 61) (omega arith)

  pub left_8 : bit_or ((w * 2 ^ 8) % 2 ^ 64) (w / 2 ^ 56) ≡ rotated_left 8 w
  left_8 =
      let e : (w * 2 ^ 8) % 2 ^ 64 ≡ w % 2 ^ 56 * 2 ^ 8 = omega arith in
      ap (λ (n : ℕ). bit_or n (w / 2 ^ 56)) e ∙ or_shifted (w % 2 ^ 56) 8 (w / 2 ^ 56) (omega arith)

-- two words from which the rounds under the keys from i on lead to the answer
abbrev pub Ahead : List ℕ → ℕ → ℕ → ℕ → ℕ → Type 0
Ahead ks b i x y = (x < 2 ^ 64) × (y < 2 ^ 64) × (encrypted (drop i ks) (joined x y) ≡ encrypted ks b)

-- two words from which the rounds back under the keys that are left lead to the answer
abbrev pub Behind : List ℕ → List ℕ → ℕ → ℕ → ℕ → Type 0
Behind ks left b x y = (x < 2 ^ 64) × (y < 2 ^ 64) × (decrypted left (joined x y) ≡ decrypted ks b)

module _ (ks : List ℕ) (x y : ℕ) (hx : x < 2 ^ 64) (hy : y < 2 ^ 64) where
  pub ahead_first : Ahead ks (joined x y) 0 x y
  ahead_first = (hx, hy, refl)

  pub behind_first : Behind ks ks (joined x y) x y
  behind_first = (hx, hy, refl)

module _ (ks : List ℕ) (fit : (i : ℕ) → get_or ks i 0 < 2 ^ 64) (b i x y x' y' : ℕ) where
  pub ahead_more : i < length ks → x' ≡ new_left (get_or ks i 0) x y → y' ≡ new_right x' y → Ahead ks b i x y → Ahead ks b (i + 1) x' y'
  unfolding encrypted
  ahead_more l e f (hx, hy, r) =
      let k : ℕ = get_or ks i 0 in
      let lx : x' < 2 ^ 64 = subst (λ (n : ℕ). n < 2 ^ 64) (sym e) (left_fits k x y (fit i) hx hy) in
      let ly : y' < 2 ^ 64 = subst (λ (n : ℕ). n < 2 ^ 64) (sym f) (right_fits k x' y (fit i) lx hy) in
      let q : round k (joined x y) ≡ joined x' y' =
      round-joined x y hx hy k ∙ ap (λ (u : ℕ). joined u (new_right u y)) (sym e) ∙ ap (joined x') (sym f) in
      let d : drop i ks ≡ k ∷ drop (i + 1) ks = drop-cons ks i 0 l ∙ rw add-one in
      (lx, ly, sym (ap (λ (v : List ℕ). encrypted v (joined x y)) d ∙ ap (encrypted (drop (i + 1) ks)) q) ∙ r)

last_back : (ks : List ℕ) (k b : ℕ) → decrypted (ks ++ k ∷ []) b ≡ decrypted ks (round_back_of k b)
unfolding decrypted
last_back [] k b = refl
last_back (j ∷ ks) k b = ap (round_back_of j) (last_back ks k b)

module _ (ks left left' : List ℕ) (k b x y x' y' : ℕ) where
  pub behind_more : k < 2 ^ 64 → left ≡ left' ++ k ∷ [] → x' ≡ old_left k x y' → y' ≡ old_right x y → Behind ks left b x y → Behind ks left' b x' y'
  behind_more fit d e f (hx, hy, r) =
      let ly : y' < 2 ^ 64 = subst (λ (n : ℕ). n < 2 ^ 64) (sym f) (old_right_fits k x y fit hx hy) in
      let lx : x' < 2 ^ 64 = subst (λ (n : ℕ). n < 2 ^ 64) (sym e) (old_left_fits k x y' fit hx ly) in
      let q : round_back_of k (joined x y) ≡ joined x' y' =
      back_joined x y hx hy k ∙ ap (λ (v : ℕ). joined (old_left k x v) v) (sym f) ∙ ap (λ (u : ℕ). joined u y') (sym e) in (
        lx,
        ly,
        sym (ap (λ (v : List ℕ). decrypted v (joined x y)) d ∙ last_back left' k (joined x y) ∙ ap (decrypted left') q) ∙ r,
      )

pub ahead_done : (ks : List ℕ) (b i x y : ℕ) → length ks ≤ i → Ahead ks b i x y → joined x y ≡ encrypted ks b
unfolding encrypted
ahead_done ks b i x y l (hx, hy, r) = sym (ap (λ (v : List ℕ). encrypted v (joined x y)) (drop_all i ks l)) ∙ r

pub behind_done : (ks left : List ℕ) (b x y : ℕ) → length left ≡ 0 → Behind ks left b x y → joined x y ≡ decrypted ks b
unfolding decrypted
behind_done ks [] b x y z (hx, hy, r) = r
behind_done ks (k ∷ left) b x y z i = absurd (omega arith)

-- n keys from the words on, which begin with the words' own
abbrev keys_after : ℕ → ℕ → ℕ → List ℕ
keys_after zero i w = []
keys_after (suc n) i w = right_of w ∷ next_keys n i w

keys_next : (n i w : ℕ) → next_keys n i w ≡ keys_after n (suc i) (round i w)
unfolding next_keys
keys_next zero i w = refl
keys_next (suc n) i w = refl

-- the first i keys, and the words whose rounds give the others
abbrev pub Expanding : ℕ → List ℕ → ℕ → ℕ → ℕ → Type 0
Expanding b ks i x y = (length ks ≡ 32) × (x < 2 ^ 64) × (y < 2 ^ 64) × (take i ks ++ keys_after (32 - i) i (joined x y) ≡ keys_from b)

pub expanding_first : (x y : ℕ) → x < 2 ^ 64 → y < 2 ^ 64 → Expanding (joined x y) (replicate 32 0) 0 x y
unfolding keys_from
expanding_first x y hx hy = (refl, hx, hy, refl)

module _ (b i x y x' y' : ℕ) (ks : List ℕ) where
  pub expanding_more : i < 32 → x' ≡ new_left i x y → y' ≡ new_right x' y → Expanding b ks i x y → Expanding b (set ks i y) (i + 1) x' y'
  unfolding next_keys
  expanding_more l e f (n, hx, hy, r) =
      let hi : i < 2 ^ 64 = omega arith in
      let lx : x' < 2 ^ 64 = subst (λ (m : ℕ). m < 2 ^ 64) (sym e) (left_fits i x y hi hx hy) in
      let ly : y' < 2 ^ 64 = subst (λ (m : ℕ). m < 2 ^ 64) (sym f) (right_fits i x' y hi lx hy) in
      let q : round i (joined x y) ≡ joined x' y' =
      round-joined x y hx hy i ∙ ap (λ (u : ℕ). joined u (new_right u y)) (sym e) ∙ ap (joined x') (sym f) in
      let s : 32 - i ≡ suc (32 - (i + 1)) = omega arith in
      let k : keys_after (32 - i) i (joined x y) ≡ y ∷ keys_after (32 - (i + 1)) (i + 1) (joined x' y') =
      ap (λ (m : ℕ). keys_after m i (joined x y)) s
      ∙ ap (λ (u : ℕ). u ∷ next_keys (32 - (i + 1)) i (joined x y)) (right-joined x y hx hy)
      ∙ ap (λ (v : List ℕ). y ∷ v) (keys_next (32 - (i + 1)) i (joined x y) ∙ ap₂ (λ (w j : ℕ). keys_after (32 - (i + 1)) j w) q (sym (add-one i))) in
      let t : take (i + 1) (set ks i y) ≡ take i ks ++ y ∷ [] =
      ap (λ (m : ℕ). take m (set ks i y)) (add-one i) ∙ take-suc-set ks i y (omega arith) in (
        length-set ks i y ∙ n,
        lx,
        ly,
        ap (λ (v : List ℕ). v ++ keys_after (32 - (i + 1)) (i + 1) (joined x' y')) t
            ∙ append_assoc (take i ks) (y ∷ []) (keys_after (32 - (i + 1)) (i + 1) (joined x' y'))
            ∙ ap (λ (v : List ℕ). take i ks ++ v) (sym k)
            ∙ r,
      )

pub expanding_done : (b i x y : ℕ) (ks : List ℕ) → i ≡ 32 → Expanding b ks i x y → ks ≡ keys_from b
expanding_done b i x y ks e (n, hx, hy, r) =
    sym (ap (λ (m : ℕ). take m ks ++ keys_after (32 - m) m (joined x y)) e ∙ append-nil (take 32 ks) ∙ take_all 32 ks (omega arith)) ∙ r

next_fit : (n j b i : ℕ) → get_or (next_keys n j b) i 0 < 2 ^ 64
unfolding next_keys
next_fit zero j b i = omega arith
next_fit (suc n) j b zero = omega arith
next_fit (suc n) j b (suc i) = next_fit n (suc j) (round j b) i

keys_fit : (b i : ℕ) → get_or (keys_from b) i 0 < 2 ^ 64
unfolding keys_from
keys_fit b zero = omega arith
keys_fit b (suc i) = next_fit 31 0 b i

pub expanded_fit : (b i x y : ℕ) (ks : List ℕ) → i ≡ 32 → Expanding b ks i x y → (j : ℕ) → get_or ks j 0 < 2 ^ 64
expanded_fit b i x y ks e r j = subst (λ (v : List ℕ). get_or v j 0 < 2 ^ 64) (sym (expanding_done b i x y ks e r)) (keys_fit b j)
