-- A value, or the reason why there is none.
use Rattle.std.specs.Prelude.{◌≡◌, ℕ, List, [], ◌∷◌, Ok, Err, Result}
use Rattle.script.specs.declared.reason.Reason.{Reason}
use Rattle.script.specs.declared.reason.Reason.TheVariants.{WordMissing, WordTooMany}
use Rattle.script.specs.declared.reason.Unread.{Unread}
use Rattle.script.specs.declared.reason.Unread.TheVariants.{Because, Memory}

-- what follows from a value, if there is one
abbrev pub then : {A B : Type 0} → Result A Reason → (A → Result B Reason) → Result B Reason
then (Ok a) next = next a
then (Err why) next = Err why

-- the value under a function
abbrev pub under : {A B : Type 0} → (A → B) → Result A Reason → Result B Reason
under f (Ok a) = Ok (f a)
under f (Err why) = Err why

-- no word may follow
abbrev pub only : {A : Type 0} → A → List (List ℕ) → Result A Reason
only a [] = Ok a
only a (w ∷ ws) = Err WordTooMany

-- the first word's value, with the words behind it
pub record Taken (A : Type 0) : Type 0 where
  pub value : A
  pub rest : List (List ℕ)

abbrev pub first : {A : Type 0} → (List ℕ → Result A Reason) → List (List ℕ) → Result (Taken A) Reason
first read [] = Err WordMissing
first read (w ∷ ws) = under (λ a. record { value = a; rest = ws }) (read w)

-- what a call of the library answers: the wanted value, by what it says, or the wanted reason; want of memory may come in place of either
abbrev pub Gives : {A B : Type 0} → (A → B) → Result B Reason → Result A Unread → Type 0
Gives says want (Ok a) = want ≡ Ok (says a)
Gives says want (Err (Because why)) = want ≡ Err why
Gives says want (Err (Memory none)) = Unit {0}
