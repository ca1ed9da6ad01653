-- The substitution and its way back undo each other on bytes: a test at each byte.
use Rattle.std.specs.Prelude.{◌≡◌, Bool, ℕ, ◌<◌, ◌^◌, T, eqb, ltb}
use Rattle.std.proofs.Common.{eqb→eq, ltb→lt}
use Rattle.gf256.specs.Field.{times, product, squares, inverse}
use Rattle.gf256.specs.Substitution.{bit_map, bit_map_back, substituted, restored}
use Rattle.gf256.specs.Tests.{both, both_left, both_right, upto, below}

unfoldable undone : ℕ → Bool
undone k = both (ltb (substituted k) 256) (both (ltb (restored k) 256) (both (eqb (restored (substituted k)) k) (eqb (substituted (restored k)) k)))

tested : T (upto undone 256)
unfolding undone substituted restored bit_map bit_map_back inverse squares product times
tested = tt

-- both maps take bytes to bytes, and each undoes the other for every byte
pub record UndoBytes (there back : ℕ → ℕ) : Type 0 where
  pub there_fits : (x : ℕ) → x < 2 ^ 8 → there x < 2 ^ 8
  pub back_fits : (x : ℕ) → x < 2 ^ 8 → back x < 2 ^ 8
  pub back_there : (x : ℕ) → x < 2 ^ 8 → back (there x) ≡ x
  pub there_back : (x : ℕ) → x < 2 ^ 8 → there (back x) ≡ x

split : (k : ℕ) → k < 2 ^ 8 → (substituted k < 2 ^ 8) × (restored k < 2 ^ 8) × (restored (substituted k) ≡ k) × (substituted (restored k) ≡ k)
unfolding undone
split k h =
    let a : Bool = ltb (substituted k) 256 in
    let b : Bool = ltb (restored k) 256 in
    let c : Bool = eqb (restored (substituted k)) k in
    let d : Bool = eqb (substituted (restored k)) k in
    let t : T (both a (both b (both c d))) = below undone 256 tested k h in
    let u = both_right a (both b (both c d)) t in
    let v = both_right b (both c d) u in (
      ltb→lt (substituted k) 256 (both_left a (both b (both c d)) t),
      ltb→lt (restored k) 256 (both_left b (both c d) u),
      eqb→eq (restored (substituted k)) k (both_left c d v),
      eqb→eq (substituted (restored k)) k (both_right c d v),
    )

pub substitution_undo : UndoBytes substituted restored
substitution_undo =
    record {
      there_fits = λ x h. (split x h).0;
      back_fits = λ x h. (split x h).1;
      back_there = λ x h. (split x h).2;
      there_back = λ x h. (split x h).3;
    }
