-- What the words of a line say, from what its first words are.
use Rattle.std.proofs.Common.{◌≡◌, ℕ, ◌≤◌, Bool, cond, List, ◌∷◌, length, Some, Ok, Err, codes, Result, sym, ap, ◌∙◌}
use Rattle.std.proofs.lemmas.Bool.{le-leb}
use Rattle.hexadecimal.specs.Hex.{spelled}
use Rattle.suite.specs.declared.settings.CipherSetting.TheVariants.{Plain}
use Rattle.suite.specs.declared.settings.MaskingSetting.{MaskingSetting}
use Rattle.suite.specs.declared.settings.MaskingSetting.TheVariants.{Doubling, Tower}
use Rattle.suite.specs.Settings.{word_of}
use Rattle.script.specs.declared.reason.Reason.{Reason}
use Rattle.script.specs.declared.reason.Reason.TheVariants.{NotAMasking, TooLong}
use Rattle.script.specs.Said.{call_of}
use Rattle.script.specs.Lines.{call, setting_of, cipher_of, masking_by_name, masking_of, words_meaning}
use Rattle.script.specs.Results.{Taken, then, under, only}
use Rattle.script.specs.Values.{short_enough, string_of}
use Rattle.script.proofs.Same.{same_no}

pub says_plain : (ws : List (List ℕ)) (w : List ℕ) (rest : List (List ℕ)) → ws ≡ w ∷ rest → (w ≡ codes "inverse" → ⊥)
    → cipher_of ws ≡ setting_of Plain (w ∷ rest)
says_plain ws w rest e not = ap cipher_of e ∙ same_no w (codes "inverse") _ _ not

-- a word that is the name of no masking
no_masking : (w : List ℕ) → ((m : MaskingSetting) → w ≡ word_of m → ⊥) → masking_by_name w ≡ Err NotAMasking
no_masking w not = same_no w (codes "doubling") _ _ (not Doubling) ∙ same_no w (codes "tower") _ _ (not Tower)

pub says_no_masking : (ws : List (List ℕ)) (w : List ℕ) (rest : List (List ℕ)) → ws ≡ w ∷ rest → ((m : MaskingSetting) → w ≡ word_of m → ⊥)
    → masking_of ws ≡ Err NotAMasking
says_no_masking ws w rest e not =
    let pair : MaskingSetting → Taken MaskingSetting = λ m. record { value = m; rest = rest } in
    ap masking_of e ∙ ap (λ (r : Result MaskingSetting Reason). then (under pair r) (λ taken. only taken.value taken.rest)) (no_masking w not)

-- by the first word
pub says_call : (all : List (List ℕ)) (kind : List ℕ) (ws : List (List ℕ)) → all ≡ kind ∷ ws → (kind ≡ codes "cipher" → ⊥) → (kind ≡ codes "masking" → ⊥)
    → words_meaning all ≡ under call (call_of kind ws)
says_call all kind ws e one two = ap words_meaning e ∙ same_no kind (codes "cipher") _ _ one ∙ same_no kind (codes "masking") _ _ two

-- a string that is not -, from the bytes that it spells
not_dash : (w : List ℕ) → (w ≡ codes "-" → ⊥) → string_of w ≡ short_enough (spelled w)
not_dash w h = same_no w (codes "-") _ _ h

pub string_some : (w v bs : List ℕ) → (w ≡ codes "-" → ⊥) → v ≡ w → spelled v ≡ Some bs → length bs ≤ 65536 → string_of w ≡ Ok bs
string_some w v bs h same e short =
    not_dash w h ∙ ap (λ (x : List ℕ). short_enough (spelled x)) (sym same) ∙ ap short_enough e
    ∙ ap (λ (b : Bool). cond b (Ok bs) (Err TooLong)) (le-leb (length bs) 65536 short)
