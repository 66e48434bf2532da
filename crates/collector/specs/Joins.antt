-- The heap's part of the store's calls and units.
use Rattle.std.specs.Prelude.{ℕ, ◌-◌, cond, length, nat_lt, slice_index}
use Rattle.model.specs.State.{State}

-- what root place `i` holds
abbrev pub root_place : State → ℕ → ℕ
root_place s i = cond (nat_lt i (length s.holder)) (slice_index s.holder i) (slice_index s.agenda (i - length s.holder))
