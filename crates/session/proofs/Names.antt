-- Entries whose values alone were written have the names that they had.
use Rattle.std.proofs.Common.{◌≡◌, ℕ, Bool, true, List, Ok, Err, OnOk, Result, String, string_bytes, sym, ap, ◌∙◌}
use Rattle.std.specs.declared.alloc.Global.{Global}
use Rattle.std.specs.BTreeMap.{is_at}
use Rattle.std.specs.Cmp.Lexicographic.{slice_cmp}
use Rattle.std.specs.List.{list_any}
use Rattle.std.specs.Map.{keys_of, lookup}
use Rattle.std.specs.Option.{is_some}
use Rattle.std.specs.Ordering.{nat_cmp}
use Rattle.std.proofs.lemmas.Map.Made.{is_some-lookup}

abbrev at : List ℕ → String Global → Bool
at name = is_at (λ k. slice_cmp nat_cmp name (string_bytes k))

pub still_there : {X A E : Type 0} (r : Result A E) (name : List ℕ) (old new : List (String Global × X)) → keys_of new ≡ keys_of old
    → is_some (lookup (at name) old) ≡ true → OnOk r (is_some (lookup (at name) new) ≡ true)
still_there (Ok a) name old new kept has = is_some-lookup (at name) new ∙ ap (list_any (at name)) kept ∙ sym (is_some-lookup (at name) old) ∙ has
still_there (Err why) name old new kept has = tt
