-- Steps add up, for any two maps that undo each other.
use Rattle.std.specs.Prelude.{◌≡◌, ℕ, zero, suc, ℤ, pos, negsuc, ◌+ℤ◌}
use Rattle.std.proofs.Math.Path.{refl, sym, ap}
use Rattle.std.proofs.Common.{◌∙◌}
use Rattle.std.proofs.Math.IntN.{suc_ℤ, pred_ℤ, +ℤ_idr, +ℤ-suc_ℤ, +ℤ-pred_ℤ}
use Rattle.block.specs.Maps.{IsBlock, Undo}
use Rattle.masking.specs.Steps.{times, Γ, StepsAdd}

times_fits : (f : ℕ → ℕ) → ((x : ℕ) → IsBlock x → IsBlock (f x)) → (n x : ℕ) → IsBlock x → IsBlock (times f n x)
unfolding times
times_fits f k zero x h = h
times_fits f k (suc n) x h = k (times f n x) (times_fits f k n x h)

module _ (step back : ℕ → ℕ) (u : Undo step back) where
  -- one step more, from any place
  step_more : (x : ℕ) → IsBlock x → (i : ℤ) → Γ step back x (suc_ℤ i) ≡ step (Γ step back x i)
  unfolding times
  step_more x h (pos n) = refl
  step_more x h (negsuc zero) = sym (u.there_back x h)
  step_more x h (negsuc (suc n)) = sym (u.there_back (times back (suc n) x) (times_fits back u.back_fits (suc n) x h))

  -- one step fewer
  step_less : (x : ℕ) → IsBlock x → (i : ℤ) → Γ step back x (pred_ℤ i) ≡ back (Γ step back x i)
  unfolding times
  step_less x h (pos zero) = refl
  step_less x h (pos (suc n)) = sym (u.back_there (times step n x) (times_fits step u.there_fits n x h))
  step_less x h (negsuc n) = refl

  onward_add : (x : ℕ) → IsBlock x → (i : ℤ) (n : ℕ) → Γ step back (Γ step back x i) (pos n) ≡ Γ step back x (i +ℤ pos n)
  unfolding times
  onward_add x h i zero = sym (ap (Γ step back x) (+ℤ_idr i))
  onward_add x h i (suc n) =
      ap step (onward_add x h i n) ∙ sym (step_more x h (i +ℤ pos n)) ∙ sym (ap (Γ step back x) (+ℤ-suc_ℤ i (pos n)))

  inward_add : (x : ℕ) → IsBlock x → (i : ℤ) (n : ℕ) → Γ step back (Γ step back x i) (negsuc n) ≡ Γ step back x (i +ℤ negsuc n)
  unfolding times
  inward_add x h i zero =
      sym (step_less x h i) ∙ ap (λ (k : ℤ). Γ step back x (pred_ℤ k)) (sym (+ℤ_idr i)) ∙ sym (ap (Γ step back x) (+ℤ-pred_ℤ i (pos zero)))
  inward_add x h i (suc n) =
      ap back (inward_add x h i n) ∙ sym (step_less x h (i +ℤ negsuc n)) ∙ sym (ap (Γ step back x) (+ℤ-pred_ℤ i (negsuc n)))

  pub steps_add : StepsAdd step back
  steps_add x h i (pos n) = onward_add x h i n
  steps_add x h i (negsuc n) = inward_add x h i n
