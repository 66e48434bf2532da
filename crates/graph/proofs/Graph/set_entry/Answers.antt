-- The record that is lent gets the number, and all else stays.
use Rattle.std.proofs.Common.{◌≡◌, ℕ, zero, suc, ◌-◌, ◌<◌, get_or, arith}
use Rattle.std.proofs.lemmas.Grind.{common_steps}
use Rattle.std.proofs.lemmas.List.{map-set, set-get_or}
use Rattle.model.specs.Graph.{Graph, record_at, no_such_record}
use Rattle.graph.proofs.Graph.set_entry.Goals as goal

-- a number above 0 counts the records from 1
counted : (g : Graph) (n : ℕ) → 0 < n → record_at g n ≡ get_or g.records (n - 1) no_such_record
counted g zero h = absurd (omega arith)
counted g (suc o) h = grind arith

pub returns-clause-after : goal.returns-clause-after
returns-clause-after c = grind (arith, common_steps, map-set, set-get_or, counted, c.in_ok-place.ensures.2 c.index_mut.result.now)
