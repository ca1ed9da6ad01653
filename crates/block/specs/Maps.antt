-- Blocks as numbers, and two maps on blocks that undo each other.
use Rattle.std.specs.Prelude.{◌≡◌, ℕ, ◌^◌, ◌<◌, refl}
use Rattle.std.proofs.Common.{sym, ap, ◌∙◌}

-- a block, read as one number
abbrev pub IsBlock : ℕ → Type 0
IsBlock x = x < 2 ^ 128

-- what may be called with each block answers as the map f does
abbrev pub Computes : (ℕ → ℕ → Type 0) → (ℕ → ℕ) → Type 0
Computes answers f = (x y : ℕ) → IsBlock x → answers x y → y ≡ f x

-- both maps take blocks to blocks, and each undoes the other for every block
pub record Undo (there back : ℕ → ℕ) : Type 0 where
  pub there_fits : (x : ℕ) → IsBlock x → IsBlock (there x)
  pub back_fits : (x : ℕ) → IsBlock x → IsBlock (back x)
  pub back_there : (x : ℕ) → IsBlock x → back (there x) ≡ x
  pub there_back : (x : ℕ) → IsBlock x → there (back x) ≡ x

-- the map that alters nothing
abbrev pub same : ℕ → ℕ
same x = x

pub undo_same : Undo same same
undo_same = record { there_fits = λ x h. h; back_fits = λ x h. h; back_there = λ x h. refl; there_back = λ x h. refl }

-- the other way round
pub undo_swap : (f g : ℕ → ℕ) → Undo f g → Undo g f
undo_swap f g u = record { there_fits = u.back_fits; back_fits = u.there_fits; back_there = u.there_back; there_back = u.back_there }

-- one after the other
pub undo_then : (f g h k : ℕ → ℕ) → Undo f g → Undo h k → Undo (λ x. h (f x)) (λ x. g (k x))
undo_then f g h k a b =
    record {
      there_fits = λ x q. b.there_fits (f x) (a.there_fits x q);
      back_fits = λ x q. a.back_fits (k x) (b.back_fits x q);
      back_there = λ x q. ap g (b.back_there (f x) (a.there_fits x q)) ∙ a.back_there x q;
      there_back = λ x q. ap h (a.there_back (k x) (b.back_fits x q)) ∙ b.there_back x q;
    }

-- there and back again
pub undone : (f g : ℕ → ℕ) → Undo f g → (x : ℕ) → IsBlock x → g (f x) ≡ x
undone f g u x h = u.back_there x h

-- such a map tells blocks apart
pub undo_tells : (f g : ℕ → ℕ) → Undo f g → (x y : ℕ) → IsBlock x → IsBlock y → f x ≡ f y → x ≡ y
undo_tells f g u x y hx hy e = sym (u.back_there x hx) ∙ ap g e ∙ u.back_there y hy
