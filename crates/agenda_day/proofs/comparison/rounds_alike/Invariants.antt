use Rattle.std.proofs.Common.{◌≡◌}
use Rattle.agenda_day.proofs.comparison.rounds_alike.Given as goal

abbrev pub invariant-loop : goal.invariant-loop
invariant-loop l = (l.table.numbers ≡ l.ordered.table.numbers) × (l.table.keys ≡ l.ordered.table.keys) × (l.alike ≡ l.counter)
