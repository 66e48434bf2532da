-- The line of a call: its letter, and each of its numbers in decimal behind a tab.
use Rattle.std.specs.Prelude.{ℕ, List, [], ◌∷◌, ◌++◌, decimal}
use Rattle.calls.specs.declared.Call.{Call}
use Rattle.calls.specs.Numbers.{letter_of, numbers_of}

-- each number behind a tab
abbrev pub tabbed : List ℕ → List ℕ
tabbed [] = []
tabbed (n ∷ ns) = 9 ∷ (decimal n ++ tabbed ns)

-- the one line that a call is written as, without a line feed
abbrev pub call_line : Call → List ℕ
call_line k = letter_of k ∷ tabbed (numbers_of k)
