-- A number of a row, where there is one. Assumes nothing.
use Rattle.std.specs.Prelude.{◌≡◌, ℕ, List, length, is_some, Option, nat_lt, slice_index}
use Rattle.std.specs.Option.{unwrap_or}

-- number `i` of the row, or none where the row is shorter
abbrev pub Found : List ℕ → ℕ → Option ℕ → Type 0
Found ns i r = (is_some r ≡ nat_lt i (length ns)) × (unwrap_or r 0 ≡ slice_index ns i)
