-- How a tally counts calls and lines.
use Rattle.std.specs.Prelude.{◌≡◌, ℕ, ◌+◌, ◌-◌, ◌^◌, min}
use Rattle.script.specs.declared.tally.Tally.{Tally}

-- one more, up to the largest number of 64 bits
abbrev pub more : ℕ → ℕ
more n = min (n + 1) (2 ^ 64 - 1)

-- nothing counted
pub record Zero (t : Tally) : Type 0 where
  pub calls_are : t.calls ≡ 0
  pub accepted_are : t.accepted ≡ 0
  pub refused_are : t.refused ≡ 0
  pub unread_are : t.unread ≡ 0

-- one call more, which was accepted; calls are the accepted and the refused ones, so that these count it too
pub record Accepts (s t : Tally) : Type 0 where
  pub calls_are : t.calls ≡ more s.calls
  pub refused_are : t.refused ≡ s.refused
  pub unread_are : t.unread ≡ s.unread

-- one call more, which was refused
pub record Refuses (s t : Tally) : Type 0 where
  pub calls_are : t.calls ≡ more s.calls
  pub accepted_are : t.accepted ≡ s.accepted
  pub unread_are : t.unread ≡ s.unread

-- one line more that was not read
pub record Passes (s t : Tally) : Type 0 where
  pub calls_are : t.calls ≡ s.calls
  pub accepted_are : t.accepted ≡ s.accepted
  pub refused_are : t.refused ≡ s.refused
  pub unread_are : t.unread ≡ more s.unread
