-- Laws of parts of lists: what two equally long strings share where they differ inside one block of a part.
use Rattle.std.specs.Prelude.{◌≡◌, ℕ, zero, suc, ◌+◌, ◌-◌, ◌*◌, ◌<◌, ◌≤◌, min, ◌≢◌, List, [], ◌∷◌, ◌++◌, length, take, drop, refl}
use Rattle.std.proofs.Common.{sym, ap, ap₂, ◌∙◌, ⊎_elim, arith, length-drop}
use Rattle.std.proofs.lemmas.Bool.{cases_lt}
use Rattle.std.proofs.lemmas.List.{take-take, drop-drop, drop-take, take-append-drop, length-take-le, drop_all}
use Rattle.block.specs.Bytes.{number_at, number_of}
use Rattle.block.specs.Cut.{OneBlock}

pub take_swap : (m n : ℕ) (xs : List ℕ) → take m (take n xs) ≡ take n (take m xs)
take_swap zero zero xs = refl
take_swap zero (suc n) xs = refl
take_swap (suc m) zero xs = refl
take_swap (suc m) (suc n) [] = refl
take_swap (suc m) (suc n) (x ∷ xs) = ap (λ (v : List ℕ). x ∷ v) (take_swap m n xs)

-- a number that lies in the first k bytes
pub number_in : (n at k : ℕ) (f : List ℕ) → at + n ≤ k → number_at n at (take k f) ≡ number_at n at f
number_in n at k f h =
    let e : k ≡ at + (k - at) = omega arith in
    ap number_of
    (ap (λ (m : ℕ). take n (drop at (take m f))) e ∙ ap (take n) (drop-take at (k - at) f) ∙ take-take n (k - at) (drop at f) (omega arith))

-- and so it is one number in all strings that begin with these
pub number_shared : (n at k : ℕ) (f g : List ℕ) → at + n ≤ k → take k f ≡ take k g → number_at n at f ≡ number_at n at g
number_shared n at k f g h e = sym (number_in n at k f h) ∙ ap (number_at n at) e ∙ number_in n at k g h

-- two strings that agree outside block k of their n bytes from a on
module _ (f g : List ℕ) (a n k : ℕ) (long : length f ≡ length g) (room : a + n ≤ length f)
    (front : take (a + 16 * k) f ≡ take (a + 16 * k) g)
    (rest : drop (min (a + 16 * k + 16) (a + n)) f ≡ drop (min (a + 16 * k + 16) (a + n)) g) where
  pub same_front : take a f ≡ take a g
  same_front = sym (take-take a (a + 16 * k) f (omega arith)) ∙ ap (take a) front ∙ take-take a (a + 16 * k) g (omega arith)

  pub same_rest : drop (a + n) f ≡ drop (a + n) g
  same_rest =
      let m : ℕ = min (a + 16 * k + 16) (a + n) in
      let e : m + (a + n - m) ≡ a + n = omega arith in
      let way : (v : List ℕ) → drop (a + n) v ≡ drop (a + n - m) (drop m v) =
      λ v. ap (λ (j : ℕ). drop j v) (sym e) ∙ sym (drop-drop (a + n - m) m v) in
      way f ∙ ap (drop (a + n - m)) rest ∙ sym (way g)

  length_part : (v : List ℕ) → length v ≡ length f → length (take n (drop a v)) ≡ n
  length_part v l = let d = length-drop a v in length-take-le n (drop a v) (omega arith)

  part_front : take (16 * k) (take n (drop a f)) ≡ take (16 * k) (take n (drop a g))
  part_front =
      let way : (v : List ℕ) → take (16 * k) (take n (drop a v)) ≡ take n (drop a (take (a + 16 * k) v)) =
      λ v. take_swap (16 * k) n (drop a v) ∙ ap (take n) (sym (drop-take a (16 * k) v)) in
      way f ∙ ap (λ (v : List ℕ). take n (drop a v)) front ∙ sym (way g)

  part_rest : drop (16 * k + 16) (take n (drop a f)) ≡ drop (16 * k + 16) (take n (drop a g))
  part_rest =
      ⊎_elim
      (λ (s : n < 16 * k + 16).
      let lf = length_part f refl in
      let lg = length_part g (sym long) in
      drop_all (16 * k + 16) (take n (drop a f)) (omega arith) ∙ sym (drop_all (16 * k + 16) (take n (drop a g)) (omega arith)))
      (λ (s : 16 * k + 16 ≤ n).
      let e : n ≡ 16 * k + 16 + (n - (16 * k + 16)) = omega arith in
      let m : min (a + 16 * k + 16) (a + n) ≡ a + (16 * k + 16) = omega arith in
      let way : (v : List ℕ) → drop (16 * k + 16) (take n (drop a v)) ≡ take (n - (16 * k + 16)) (drop (min (a + 16 * k + 16) (a + n)) v) =
      λ v.
      ap (λ (j : ℕ). drop (16 * k + 16) (take j (drop a v))) e
      ∙ drop-take (16 * k + 16) (n - (16 * k + 16)) (drop a v)
      ∙ ap (take (n - (16 * k + 16))) (drop-drop (16 * k + 16) a v ∙ ap (λ (j : ℕ). drop j v) (sym m)) in
      way f ∙ ap (take (n - (16 * k + 16))) rest ∙ sym (way g))
      (cases_lt n (16 * k + 16))

  in_three : (v : List ℕ) → v ≡ take a v ++ (take n (drop a v) ++ drop (a + n) v)
  in_three v =
      sym (take-append-drop a v)
      ∙ ap (λ (u : List ℕ). take a v ++ u) (sym (take-append-drop n (drop a v)) ∙ ap (λ (u : List ℕ). take n (drop a v) ++ u) (drop-drop n a v))

  -- the two parts differ inside one block, if the strings differ
  pub part_apart : f ≢ g → OneBlock (take n (drop a f)) (take n (drop a g))
  part_apart unequal =
      record {
        long = length_part f refl ∙ sym (length_part g (sym long));
        place = k;
        front = part_front;
        rest = part_rest;
        unequal = λ e.
            unequal
            (in_three f ∙ ap₂ (λ (u v : List ℕ). u ++ v) same_front (ap₂ (λ (u v : List ℕ). u ++ v) e same_rest) ∙ sym (in_three g));
      }
