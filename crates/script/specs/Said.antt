-- What the words of each call stand for, and a call by the values that its words say.
use Rattle.std.specs.Prelude.{ℕ, cond, List, [], ◌∷◌, ◌++◌, map, Err, vec_items, codes, Result}
use Rattle.std.specs.Str.{bytes_eq}
use Rattle.script.specs.declared.call.Call.{Call}
use Rattle.script.specs.declared.call.Call.TheVariants.{Station, Reserve, GiveUp, Seal, Open, Parts, State}
use Rattle.script.specs.declared.reason.Reason.{Reason}
use Rattle.script.specs.declared.reason.Reason.TheVariants.{UnknownWord}
use Rattle.script.specs.Results.{under}
use Rattle.script.specs.Values.{Field, name, byte, number, space, string, Value, text, count, bytes, values_of, word_for, FitAll}

-- the first word of a call, and what the others stand for
pub record Shape : Type 0 where
  pub kind : List ℕ
  pub fields : List Field

abbrev pub shapes : List Shape
shapes =
    record { kind = codes "station"; fields = name ∷ byte ∷ byte ∷ number ∷ number ∷ [] }
    ∷ record { kind = codes "reserve"; fields = name ∷ name ∷ [] }
    ∷ record { kind = codes "giveup"; fields = name ∷ name ∷ [] }
    ∷ record { kind = codes "seal"; fields = name ∷ name ∷ byte ∷ string ∷ string ∷ space ∷ [] }
    ∷ record { kind = codes "open"; fields = name ∷ string ∷ space ∷ [] }
    ∷ record { kind = codes "parts"; fields = string ∷ [] }
    ∷ record { kind = codes "state"; fields = name ∷ [] }
    ∷ []

-- a call by its first word and the values of the others
pub record Said : Type 0 where
  pub kind : List ℕ
  pub values : List Value

-- the call that words say: by the shape that the first word names
abbrev pub said_in : List Shape → List ℕ → List (List ℕ) → Result Said Reason
said_in [] kind ws = Err UnknownWord
said_in (s ∷ ss) kind ws =
    cond (bytes_eq kind s.kind) (under (λ vs. record { kind = s.kind; values = vs }) (values_of s.fields ws)) (said_in ss kind ws)

abbrev pub call_of : List ℕ → List (List ℕ) → Result Said Reason
call_of kind ws = said_in shapes kind ws

-- what a call says
abbrev pub said : Call → Said
said (Station who own peer start floor) =
    record { kind = codes "station"; values = text who.now ∷ count own ∷ count peer ∷ count start ∷ count floor ∷ [] }
said (Reserve who ticket) = record { kind = codes "reserve"; values = text who.now ∷ text ticket.now ∷ [] }
said (GiveUp who ticket) = record { kind = codes "giveup"; values = text who.now ∷ text ticket.now ∷ [] }
said (Seal who ticket mode clear message room) =
    record { kind = codes "seal"; values = text who.now ∷ text ticket.now ∷ count mode ∷ bytes (vec_items clear) ∷ bytes (vec_items message) ∷ count room ∷ [] }
said (Open who frame room) = record { kind = codes "open"; values = text who.now ∷ bytes (vec_items frame) ∷ count room ∷ [] }
said (Parts frame) = record { kind = codes "parts"; values = bytes (vec_items frame) ∷ [] }
said (State who) = record { kind = codes "state"; values = text who.now ∷ [] }

-- words with one space between each two
abbrev pub spaced : List ℕ → List (List ℕ) → List ℕ
spaced w [] = w
spaced w (v ∷ vs) = w ++ (32 ∷ spaced v vs)

-- the line that a call is written as
abbrev pub line_for : Said → List ℕ
line_for s = spaced s.kind (map word_for s.values)

-- the call's values are those that its fields can have: names and labels are words, strings and output buffers have at most 65,536 bytes,
-- and numbers fit their types
abbrev pub Writable : List Shape → Said → Type 0
Writable [] s = ⊥
Writable (h ∷ hs) s = cond (bytes_eq s.kind h.kind) (FitAll h.fields s.values) (Writable hs s)
