-- The line that a call is written as, and what a line that is read says.
use Rattle.std.specs.Prelude.{◌≡◌, ℕ, List, [], ◌∷◌, ◌++◌, drop, vec_items, codes, decimal, ◌≢◌, slice_index, slice_index_or}
use Rattle.script.specs.declared.call.Call.{Call}
use Rattle.script.specs.declared.call.Call.TheVariants.{Station, Reserve, GiveUp, Seal, Open, Parts, State}
use Rattle.script.specs.declared.call.Line.{Line}
use Rattle.script.specs.declared.call.Line.TheVariants.{Nothing, Cipher, Masking, Call as OneCall}
use Rattle.script.specs.Hex.{hex_text_of}
use Rattle.script.specs.Words.{words_of}

-- the words are separated by one space each
abbrev pub call_line : Call → List ℕ
call_line (Station name own peer start floor) =
    codes "station " ++ (name.now ++ (codes " " ++ (decimal own ++ (codes " " ++ (decimal peer ++ (codes " " ++ (decimal start ++ (codes " " ++ decimal floor))))))))
call_line (Reserve name ticket) = codes "reserve " ++ (name.now ++ (codes " " ++ ticket.now))
call_line (GiveUp name ticket) = codes "giveup " ++ (name.now ++ (codes " " ++ ticket.now))
call_line (Seal name ticket mode clear message space) =
    codes "seal " ++ (name.now ++ (codes " " ++ (ticket.now ++ (codes " " ++ (decimal mode ++ (codes " " ++ (hex_text_of (vec_items clear) ++ (codes " " ++ (hex_text_of (vec_items message) ++ (codes " " ++ decimal space))))))))))
call_line (Open name frame space) = codes "open " ++ (name.now ++ (codes " " ++ (hex_text_of (vec_items frame) ++ (codes " " ++ decimal space))))
call_line (Parts frame) = codes "parts " ++ hex_text_of (vec_items frame)
call_line (State name) = codes "state " ++ name.now

-- the word that a call begins with
abbrev pub kind_of : Call → List ℕ
kind_of (Station name own peer start floor) = codes "station"
kind_of (Reserve name ticket) = codes "reserve"
kind_of (GiveUp name ticket) = codes "giveup"
kind_of (Seal name ticket mode clear message space) = codes "seal"
kind_of (Open name frame space) = codes "open"
kind_of (Parts frame) = codes "parts"
kind_of (State name) = codes "state"

-- what the words after the first one say, of calls that take names and labels alone
abbrev pub Names : List (List ℕ) → Call → Type 0
Names ws (Station name own peer start floor) = Unit {0}
Names ws (Reserve name ticket) = ws ≡ name.now ∷ ticket.now ∷ []
Names ws (GiveUp name ticket) = ws ≡ name.now ∷ ticket.now ∷ []
Names ws (Seal name ticket mode clear message space) = Unit {0}
Names ws (Open name frame space) = Unit {0}
Names ws (Parts frame) = Unit {0}
Names ws (State name) = ws ≡ name.now ∷ []

-- a call from the words after the first one
abbrev pub Takes : List ℕ → List (List ℕ) → Call → Type 0
Takes kind ws call = (kind_of call ≡ kind) × Names ws call

-- a line that says nothing begins with # or has no word; any other says what its first word names
abbrev pub Reads : List ℕ → Line → Type 0
Reads text Nothing = (slice_index text 0 ≢ 35) → words_of text ≡ []
Reads text (Cipher setting) = slice_index_or (words_of text) 0 [] ≡ codes "cipher"
Reads text (Masking setting) = slice_index_or (words_of text) 0 [] ≡ codes "masking"
Reads text (OneCall call) = Takes (slice_index_or (words_of text) 0 []) (drop 1 (words_of text)) call
