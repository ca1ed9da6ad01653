-- A block after any whole number of steps, backward ones too.
use Rattle.std.specs.Prelude.{◌≡◌, ℕ, zero, suc, ℤ, pos, negsuc, ◌+ℤ◌}
use Rattle.block.specs.Maps.{IsBlock}

-- a map, n times
unfoldable pub times : (ℕ → ℕ) → ℕ → ℕ → ℕ
times f zero x = x
times f (suc n) x = f (times f n x)

-- x after i steps, or after -i backs where i is negative
abbrev pub Γ : (step back : ℕ → ℕ) → ℕ → ℤ → ℕ
Γ step back x (pos n) = times step n x
Γ step back x (negsuc n) = times back (suc n) x

-- steps add up: i steps and then j more are i + j steps, for all whole i and j and every block
abbrev pub StepsAdd : (step back : ℕ → ℕ) → Type 0
StepsAdd step back = (x : ℕ) → IsBlock x → (i j : ℤ) → Γ step back (Γ step back x i) j ≡ Γ step back x (i +ℤ j)
