use Rattle.std.proofs.Common.{◌≡◌, ℕ, ◌+◌, ◌*◌, ◌≤◌, List, drop, length}
use Rattle.model.specs.Units.{free_of_class}
use Rattle.pages.specs.Entries.{pages_of}
use Rattle.pages.proofs.table.Table.free_in_class.Given as goal

abbrev pub invariant-loop-page : goal.invariant-loop-page
invariant-loop-page l =
    ((wss : List (List ℕ)) → length wss ≡ 64
    → l.n + free_of_class l.size l.but l.page (drop l.page (pages_of l.self.entries wss)) ≡ free_of_class l.size l.but 0 (pages_of l.self.entries wss))
    × (l.n ≤ 64 * l.page)
