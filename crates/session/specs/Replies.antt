-- What is printed for a call.
use Rattle.std.specs.Prelude.{◌≡◌, ℕ, List, [], ◌∷◌, ◌++◌, Option, Result, Ok, Err, IfSome, codes, string_bytes}
use Rattle.script.specs.declared.answer.Answer.{Answer}
use Rattle.script.specs.declared.answer.Answer.TheVariants.{Refused}
use Rattle.script.specs.Answers.{answer_line}
use Rattle.script.specs.Hex.{hex_text_of}
use Rattle.station.specs.declared.fault.StationFault.{StationFault}
use Rattle.station.specs.Faults.{number_of, place_of, layer_of}
use Rattle.session.specs.declared.replies.Halt.{Halt}
use Rattle.session.specs.declared.replies.Halt.TheVariants.{Unread as NoAnswer, Refused as Refusal}
use Rattle.session.specs.declared.replies.Reply.{Reply}
use Rattle.session.specs.declared.replies.Reply.TheVariants.{Accepted, Refused as Declined}

-- a line with its end
abbrev pub lined : List ℕ → List ℕ
lined text = text ++ (10 ∷ [])

-- the output buffer in a line of its own
abbrev pub output_text : List ℕ → List ℕ
output_text out = lined (codes "out " ++ hex_text_of out)

-- a refusal, by its number, place and layer
abbrev pub refusal_of : StationFault → Answer
refusal_of fault = Refused (number_of fault) (place_of fault) (layer_of fault)

-- the reply to a call: its answer, or its refusal, in a line
abbrev pub Replies : {A : Type 0} → (A → Option (List ℕ)) → Result A Halt → Reply → Type 0
Replies output (Ok answer) (Accepted text) = IfSome (output answer) (λ bytes. string_bytes text ≡ lined bytes)
Replies output (Ok answer) (Declined text) = ⊥
Replies output (Err (Refusal fault)) (Declined text) = string_bytes text ≡ lined (answer_line (refusal_of fault))
Replies output (Err (Refusal fault)) (Accepted text) = ⊥
Replies output (Err (NoAnswer why)) reply = ⊥

-- a reply, and the same with the output buffer after it
abbrev pub Outputs : List ℕ → Reply → Reply → Type 0
Outputs out (Accepted before) (Accepted after) = string_bytes after ≡ string_bytes before ++ output_text out
Outputs out (Accepted before) (Declined after) = ⊥
Outputs out (Declined before) (Declined after) = string_bytes after ≡ string_bytes before ++ output_text out
Outputs out (Declined before) (Accepted after) = ⊥
