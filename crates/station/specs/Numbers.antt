-- The last number, and what a number that may be out counts for. Names no station, so that the struct can cite it.
use Rattle.std.specs.Prelude.{ℕ, ◌+◌, Some, None, Option}

-- 2 ^ 48 - 1, the last number that a frame can bear
abbrev pub last_number : ℕ
last_number = 281474976710655

-- how many numbers are out
abbrev pub held : Option ℕ → ℕ
held None = 0
held (Some _) = 1

-- the first number past the one that is out
abbrev pub reach : Option ℕ → ℕ
reach None = 0
reach (Some n) = n + 1
