-- The last line that is printed.
use Rattle.std.specs.Prelude.{ℕ, List, ◌++◌, codes, decimal}

-- as in "7 calls, 5 accepted, 2 refused, 1 lines not read"
abbrev pub tally_line : ℕ → ℕ → ℕ → ℕ → List ℕ
tally_line calls accepted refused unread =
    decimal calls ++ (codes " calls, " ++ (decimal accepted ++ (codes " accepted, " ++ (decimal refused ++ (codes " refused, " ++ (decimal unread ++ codes " lines not read"))))))
