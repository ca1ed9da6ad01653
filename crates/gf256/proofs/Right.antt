-- the laws of specs/ on tables and columns, under names that the code can cite
use Rattle.std.proofs.Common.{◌≡◌, ℕ, ◌^◌, ◌<◌, get_or}
use Rattle.gf256.specs.Tables.{substitutes, originals, substitutes-right, originals-right}
use Rattle.gf256.specs.Substitution.{substituted, restored}
use Rattle.gf256.specs.Field.{inverse, IsInverse}
use Rattle.gf256.specs.FieldLaws.{inverse-right}
use Rattle.gf256.specs.Column.{coefficient, mixing, mixing_back}
use Rattle.gf256.specs.ColumnLaws.{mixed, unmixed, mixed-right, unmixed-right}

pub entry_substituted : (k : ℕ) → k < 2 ^ 8 → get_or substitutes k 0 ≡ substituted k
entry_substituted = substitutes-right

pub entry_restored : (k : ℕ) → k < 2 ^ 8 → get_or originals k 0 ≡ restored k
entry_restored = originals-right

pub inverse_is : (a : ℕ) → a < 2 ^ 8 → IsInverse a (inverse a)
inverse_is = inverse-right

pub column_mixed : (a b c d : ℕ) → a < 2 ^ 8 → b < 2 ^ 8 → c < 2 ^ 8 → d < 2 ^ 8 → mixed a b c d ≡ coefficient mixing a b c d
column_mixed a b c d p q r s = mixed-right a b c d (p, q, r, s)

pub column_unmixed : (a b c d : ℕ) → a < 2 ^ 8 → b < 2 ^ 8 → c < 2 ^ 8 → d < 2 ^ 8 → unmixed a b c d ≡ coefficient mixing_back a b c d
column_unmixed a b c d p q r s = unmixed-right a b c d (p, q, r, s)
