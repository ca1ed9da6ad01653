-- What a line of a script says: nothing, a setting or exactly one call, or the reason why it is not read.
use Rattle.std.specs.Prelude.{◌≡◌, ℕ, cond, List, [], ◌∷◌, Ok, Err, codes, Result, ◌==◌, slice_index}
use Rattle.std.specs.Str.{bytes_eq}
use Rattle.suite.specs.declared.settings.CipherSetting.{CipherSetting}
use Rattle.suite.specs.declared.settings.CipherSetting.TheVariants.{Plain, Inverse}
use Rattle.suite.specs.declared.settings.MaskingSetting.{MaskingSetting}
use Rattle.suite.specs.declared.settings.MaskingSetting.TheVariants.{Doubling, Tower}
use Rattle.suite.specs.declared.settings.PlainSetting.{PlainSetting}
use Rattle.suite.specs.declared.settings.PlainSetting.TheVariants.{Identity, Aes, Speck}
use Rattle.script.specs.declared.call.Call.{Call}
use Rattle.script.specs.declared.call.Line.{Line}
use Rattle.script.specs.declared.call.Line.TheVariants.{Nothing, Cipher, Masking, Call as OneCall}
use Rattle.script.specs.declared.reason.Reason.{Reason}
use Rattle.script.specs.declared.reason.Reason.TheVariants.{WordMissing, NotACipher, NotAMasking}
use Rattle.script.specs.Said.{Said, shapes, call_of, said, line_for, Writable}
use Rattle.script.specs.Results.{then, under, only, first}
use Rattle.script.specs.Values.{key_of}
use Rattle.script.specs.Words.{words_of}

-- a key, which is the last word
abbrev pub last_key_of : List (List ℕ) → Result (List ℕ) Reason
last_key_of ws = then (first key_of ws) (λ taken. only taken.value taken.rest)

-- a cipher's name, and its key where it has one
abbrev pub plain_of : List ℕ → List (List ℕ) → Result PlainSetting Reason
plain_of word ws =
    cond (bytes_eq word (codes "identity")) (only Identity ws)
    (cond (bytes_eq word (codes "aes")) (under Aes (last_key_of ws)) (cond (bytes_eq word (codes "speck")) (under Speck (last_key_of ws)) (Err NotACipher)))

-- a cipher, or the inverse of one
abbrev pub setting_of : (PlainSetting → CipherSetting) → List (List ℕ) → Result CipherSetting Reason
setting_of setting [] = Err WordMissing
setting_of setting (w ∷ ws) = under setting (plain_of w ws)

-- with the word inverse before it, or not
abbrev pub cipher_of : List (List ℕ) → Result CipherSetting Reason
cipher_of [] = Err WordMissing
cipher_of (w ∷ ws) = cond (bytes_eq w (codes "inverse")) (setting_of Inverse ws) (setting_of Plain (w ∷ ws))

abbrev pub masking_by_name : List ℕ → Result MaskingSetting Reason
masking_by_name word =
    cond (bytes_eq word (codes "doubling")) (Ok Doubling) (cond (bytes_eq word (codes "tower")) (Ok Tower) (Err NotAMasking))

abbrev pub masking_of : List (List ℕ) → Result MaskingSetting Reason
masking_of ws = then (first masking_by_name ws) (λ taken. only taken.value taken.rest)

-- what a line says
pub data Meaning : Type 0 where
  nothing : Meaning
  cipher : CipherSetting → Meaning
  masking : MaskingSetting → Meaning
  call : Said → Meaning

abbrev pub words_meaning : List (List ℕ) → Result Meaning Reason
words_meaning [] = Ok nothing
words_meaning (kind ∷ ws) =
    cond (bytes_eq kind (codes "cipher")) (under cipher (cipher_of ws))
    (cond (bytes_eq kind (codes "masking")) (under masking (masking_of ws)) (under call (call_of kind ws)))

-- a line that begins with # says nothing, nor does one without a word
abbrev pub line_meaning : List ℕ → Result Meaning Reason
line_meaning line = cond (slice_index line 0 == 35) (Ok nothing) (words_meaning (words_of line))

-- what a line that was read says
abbrev pub meaning : Line → Meaning
meaning Nothing = nothing
meaning (Cipher setting) = cipher setting
meaning (Masking setting) = masking setting
meaning (OneCall c) = call (said c)

-- a call's line: as it is defined, and read again it says the call
pub record WritesCall (c : Call) (line : List ℕ) : Type 0 where
  pub written : line ≡ line_for (said c)
  pub back : Writable shapes (said c) → line_meaning line ≡ Ok (call (said c))
