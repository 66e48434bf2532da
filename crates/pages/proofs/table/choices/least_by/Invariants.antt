use Rattle.std.proofs.Common.{◌≡◌, ℕ, ◌<◌, length, get_or, None, Option}
use Rattle.pages.specs.Choices.{candidate_at, LowRow}
use Rattle.pages.proofs.table.choices.least_by.Given as goal

abbrev pub invariant-loop-page : goal.invariant-loop-page
invariant-loop-page g l =
    (length l.place-items ≡ 64) × LowRow l.place-items
    × ((h : ℕ → Option ℕ) → ((k : ℕ) (o : Option ℕ) → k < 64 → goal.F-post g l.figure k o → o ≡ h k) → (k : ℕ) → k < l.page-counter → get_or l.place-items k None ≡ candidate_at (h k) k)
