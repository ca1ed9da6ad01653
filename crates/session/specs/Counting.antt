-- How a line of a script is counted: it is passed over, not read, or makes exactly one call, which is accepted or refused.
use Rattle.std.specs.Prelude.{◌≡◌, ℕ, ◌⊎◌, List, [], ◌++◌, Ok, Err, string_bytes, codes, IsUtf8, decimal, Result, String}
use Rattle.std.specs.BTreeMap.{btree_map_len}
use Rattle.std.specs.declared.alloc.Global.{Global}
use Rattle.script.specs.declared.tally.Tally.{Tally}
use Rattle.session.specs.Counts.{Zero, Accepts, Refuses, Passes}
use Rattle.suite.specs.declared.settings.CipherSetting.TheVariants.{Plain}
use Rattle.suite.specs.declared.settings.MaskingSetting.TheVariants.{Doubling}
use Rattle.suite.specs.declared.settings.PlainSetting.TheVariants.{Identity}
use Rattle.session.specs.declared.Session.{Session}
use Rattle.session.specs.declared.stations.Stations.{Stations}
use Rattle.session.specs.Replies.{lined}
use Rattle.script.specs.declared.reason.Reason.{Reason}
use Rattle.script.specs.declared.reason.Reason.TheVariants.{NotText}
use Rattle.script.specs.declared.reason.Unread.{Unread}
use Rattle.script.specs.declared.reason.Unread.TheVariants.{Because, Memory}
use Rattle.script.specs.Reasons.{text_of}
use Rattle.script.specs.Lines.{Meaning, nothing, cipher, masking, call, line_meaning}

-- what was said was done: only a call counts, and it counts once
abbrev pub Done : Meaning → Tally → Tally → Type 0
Done nothing s t = t ≡ s
Done (cipher setting) s t = t ≡ s
Done (masking setting) s t = t ≡ s
Done (call said) s t = Accepts s t ⊎ Refuses s t

-- only a call prints, and only a call may fail to be made
abbrev pub Silent : Meaning → List ℕ → Type 0
Silent nothing text = text ≡ []
Silent (cipher setting) text = text ≡ []
Silent (masking setting) text = text ≡ []
Silent (call said) text = Unit {0}

abbrev pub IsCall : Meaning → Type 0
IsCall nothing = ⊥
IsCall (cipher setting) = ⊥
IsCall (masking setting) = ⊥
IsCall (call said) = Unit {0}

-- a line was obeyed; where its call was not made, nothing is counted yet
abbrev pub Obeyed : {E : Type 0} → Meaning → Tally → Tally → Result (String Global) E → Type 0
Obeyed said s t (Ok text) = Done said s t × Silent said (string_bytes text)
Obeyed said s t (Err why) = (t ≡ s) × IsCall said

-- the reason is that of the line, or the line says a call, which the session could not make
abbrev pub Unmade : Reason → Result Meaning Reason → Type 0
Unmade why (Err w) = w ≡ why
Unmade why (Ok said) = IsCall said

-- what is printed for a line that is not read
abbrev pub not_read_text : ℕ → Reason → List ℕ
not_read_text number why = lined (codes "line " ++ (decimal number ++ (codes ": " ++ text_of why)))

-- a call is accepted or refused, or it is not made (its station or its ticket is unknown, or the name or the label that it gives is taken), and then its line counts as one that was not read
abbrev pub Counted : Result Meaning Reason → Tally → Tally → Type 0
Counted (Err why) s t = Passes s t
Counted (Ok nothing) s t = t ≡ s
Counted (Ok (cipher setting)) s t = t ≡ s
Counted (Ok (masking setting)) s t = t ≡ s
Counted (Ok (call said)) s t = (Accepts s t ⊎ Refuses s t) ⊎ Passes s t

abbrev pub Printed : ℕ → Result Meaning Reason → List ℕ → Type 0
Printed number (Err why) text = text ≡ not_read_text number why
Printed number (Ok said) text = Silent said text

-- what following a line counts and prints; a line that is no text is not read
pub record Followed (number : ℕ) (line text : List ℕ) (s t : Tally) : Type 0 where
  pub counted : IsUtf8 line → Counted (line_meaning line) s t
  pub printed : IsUtf8 line → Printed number (line_meaning line) text
  pub other : (IsUtf8 line → ⊥) → Passes s t × (text ≡ not_read_text number NotText)

-- a line was read and obeyed; or it was not, and is followed once it is counted and its reason printed
abbrev pub Tried : List ℕ → Tally → Tally → Result (String Global) Unread → Type 0
Tried line s t (Ok text) = (number : ℕ) → Followed number line (string_bytes text) s t
Tried line s t (Err (Because why)) = (number : ℕ) (text : List ℕ) (u : Tally) → Passes t u → text ≡ not_read_text number why → Followed number line text s u
Tried line s t (Err (Memory none)) = Unit {0}

-- before the first line: no station, nothing counted, and identity and doubling for the stations to come
pub record NoStations (s : Stations) : Type 0 where
  pub cipher_is : s.cipher ≡ Plain Identity
  pub masking_is : s.masking ≡ Doubling
  pub members_are : btree_map_len s.members ≡ 0

pub record New (s : Session) : Type 0 where
  pub stations_are : NoStations s.stations
  pub tally_is : Zero s.tally
