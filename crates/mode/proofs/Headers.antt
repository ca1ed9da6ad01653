-- The header tag: its loop, its last block and its cases.
use Rattle.std.proofs.Common.{◌≡◌, ℕ, suc, ◌+◌, ◌-◌, ◌*◌, Bool, true, false, eqb, List, [], ◌∷◌, length, drop, sym, refl, ap, ◌∙◌, ap₂, ⊎_elim, add-one, arith, length-drop}
use lib.Bits.{bit_xor}
use Rattle.std.proofs.lemmas.Bool.{cases_eq, eq-eqb, ne_eqb}
use Rattle.block.specs.Bytes.{block_at}
use Rattle.block.specs.Cut.{before, last_bits, last_of, fill_with, sum_of}
use Rattle.masking.specs.Steps.{times}
use Rattle.mode.specs.Sealing.{Maps, delta_zero_of, kappa, header_block, closing, some_header_tag, header_tag_of}
use Rattle.mode.proofs.Loops.{sum_again}

pub kappa_is : (w : Maps) (d k : ℕ) → d ≡ delta_zero_of w → k ≡ w.forward d → k ≡ kappa w
unfolding kappa
kappa_is w d k p q = q ∙ ap w.forward p

pub closed_first_part : (w : Maps) (n : ℕ) (full : Bool) (k r : ℕ) → n ≡ 0 → full ≡ false → k ≡ kappa w → r ≡ w.back k → r ≡ closing w n full
unfolding closing times
closed_first_part w n full k r p q e f = f ∙ ap w.back e ∙ sym (ap₂ (λ (m : ℕ) (b : Bool). closing w m b) p q)

pub closed_first_full : (w : Maps) (n : ℕ) (full : Bool) (k o r : ℕ) → n ≡ 0 → full ≡ true → k ≡ kappa w → o ≡ w.back k → r ≡ w.back o → r ≡ closing w n full
unfolding closing times
closed_first_full w n full k o r p q e f h = h ∙ ap w.back (f ∙ ap w.back e) ∙ sym (ap₂ (λ (m : ℕ) (b : Bool). closing w m b) p q)

pub closed_full : (w : Maps) (n : ℕ) (full : Bool) → (n ≡ 0 → ⊥) → full ≡ true → 0 ≡ closing w n full
unfolding closing
closed_full w n full p q =
    let m : n ≡ suc (n - 1) = omega arith in
    sym (ap₂ (λ (m : ℕ) (b : Bool). closing w m b) m q)

pub closed_part : (w : Maps) (n : ℕ) (full : Bool) (k m r : ℕ) → (n ≡ 0 → ⊥) → full ≡ false → k ≡ kappa w → m ≡ times w.step n k → r ≡ w.step m → r ≡ closing w n full
unfolding closing times
closed_part w n full k m r p q e f h =
    let s : n ≡ suc (n - 1) = omega arith in
    h ∙ ap w.step (f ∙ ap₂ (λ (a b : ℕ). times w.step a b) s e) ∙ sym (ap₂ (λ (a : ℕ) (b : Bool). closing w a b) s q)

pub header_again : (w : Maps) (n sum k x m r : ℕ) (header : List ℕ) → sum ≡ sum_of (header_block w) n header → k ≡ kappa w → m ≡ times w.step (n + 1) k
    → x ≡ block_at (16 * n) header → r ≡ w.forward (bit_xor x m) → bit_xor sum r ≡ sum_of (header_block w) (n + 1) header
unfolding header_block
header_again w n sum k x m r header s e p q v =
    let m' : m ≡ times w.step (suc n) (kappa w) = p ∙ ap₂ (λ (a b : ℕ). times w.step a b) (add-one n) e in
    sum_again (header_block w) n sum r header s (v ∙ ap₂ (λ (a b : ℕ). w.forward (bit_xor a b)) q m')

full_is : (a : ℕ) → eqb a 16 ≡ eqb (8 * a) 128
full_is a =
    ⊎_elim (λ e. eq-eqb a 16 e ∙ sym (eq-eqb (8 * a) 128 (omega arith))) (λ e. ne_eqb a 16 e ∙ sym (ne_eqb (8 * a) 128 (λ f. e (omega arith)))) (cases_eq a 16)

some_header : (w : Maps) (header : List ℕ) → (length header ≡ 0 → ⊥) → header_tag_of w header ≡ some_header_tag w header
unfolding header_tag_of
some_header w [] h = absurd (h refl)
some_header w (b ∷ bs) h = refl

pub no_header : (w : Maps) (header : List ℕ) → length header ≡ 0 → 0 ≡ header_tag_of w header
unfolding header_tag_of
no_header w [] h = refl
no_header w (b ∷ bs) h = absurd (omega arith)

pub header_ends : (w : Maps) (header piece : List ℕ) (n sum block close r : ℕ) → (length header ≡ 0 → ⊥) → n ≡ before (length header)
    → piece ≡ drop (16 * n) header → sum ≡ sum_of (header_block w) n header → block ≡ fill_with 0x80 piece → close ≡ closing w n (eqb (length piece) 16)
    → r ≡ w.forward (bit_xor (bit_xor sum block) close) → r ≡ header_tag_of w header
unfolding some_header_tag
header_ends w header piece n sum block close r h e p s b c v =
    let last : piece ≡ last_of header = p ∙ ap (λ (m : ℕ). drop (16 * m) header) e in
    let full : eqb (length piece) 16 ≡ eqb (last_bits (length header)) 128 =
    ap (λ (v : List ℕ). eqb (length v) 16) last
    ∙ ap (λ (m : ℕ). eqb m 16) (length-drop (16 * before (length header)) header)
    ∙ full_is (length header - 16 * before (length header)) in
    let s' : sum ≡ sum_of (header_block w) (before (length header)) header = s ∙ ap (λ (m : ℕ). sum_of (header_block w) m header) e in
    let b' : block ≡ fill_with 0x80 (last_of header) = b ∙ ap (fill_with 0x80) last in
    let c' : close ≡ closing w (before (length header)) (eqb (last_bits (length header)) 128) = c ∙ ap₂ (λ (m : ℕ) (t : Bool). closing w m t) e full in
    v ∙ ap₂ (λ (y z : ℕ). w.forward (bit_xor y z)) (ap₂ (λ (y z : ℕ). bit_xor y z) s' b') c' ∙ sym (some_header w header h)
