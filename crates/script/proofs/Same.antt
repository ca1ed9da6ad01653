-- What a test of two texts decides.
use Rattle.std.proofs.Common.{◌≡◌, ℕ, Bool, false, cond, List, ap, ⊎_elim}
use Rattle.std.specs.Str.{bytes_eq}
use Rattle.std.proofs.lemmas.Slice.Eq.{bytes_eq-Decides}
use Rattle.std.proofs.lemmas.Bool.{cases_Bool}

pub same_false : (w v : List ℕ) → (w ≡ v → ⊥) → bytes_eq w v ≡ false
same_false w v n = ⊎_elim (λ t. absurd (n ((bytes_eq-Decides w v).0 t))) (λ f. f) (cases_Bool (bytes_eq w v))

pub same_no : {A : Type 0} (w v : List ℕ) (x y : A) → (w ≡ v → ⊥) → cond (bytes_eq w v) x y ≡ y
same_no w v x y n = ap (λ (b : Bool). cond b x y) (same_false w v n)
