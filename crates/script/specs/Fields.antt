-- Bytes parted at each byte of one kind, and the fields of a line.
use Rattle.std.specs.Prelude.{ℕ, List, ◌==◌}
use Rattle.std.specs.List.{slice_split}

-- the parts between the bytes t, of which there is one more than there are bytes t
abbrev pub parted : ℕ → List ℕ → List (List ℕ)
parted t bs = slice_split (λ b. b == t) bs

-- the fields of a line: its parts between tabs
abbrev pub fields : List ℕ → List (List ℕ)
fields bs = parted 9 bs
