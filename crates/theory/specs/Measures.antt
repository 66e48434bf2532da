-- What is shown of the units of a collection.
use Rattle.std.specs.Prelude.{◌≡◌, ℕ, ◌+◌, ◌≤◌, true, List, length}
use Rattle.calls.specs.declared.Call.{Call}
use Rattle.model.specs.Pages.{count_of_current_blocks, husks}
use Rattle.model.specs.State.{running}
use Rattle.model.specs.Units.{steps}
use Rattle.model.specs.Runs.{start, run_from}
use Rattle.model.specs.Law.{Bounded}

pub record Measured (h a : ℕ) (cs : List Call) : Type 0 where
  pub sharp : Bounded (run_from (start h a) cs)
  pub units : (run_from (start h a) cs).state.heap.units ≤ 8661
  pub work : length (run_from (start h a) cs).state.heap.work ≤ 4096
  pub blocks : count_of_current_blocks (run_from (start h a) cs).state.heap.pages + husks (run_from (start h a) cs).state.heap.pages ≤ 4096
  pub all_done : (u : ℕ) → running (steps u (run_from (start h a) cs).state).heap.phase ≡ true
      → (steps u (run_from (start h a) cs).state).heap.units ≡ (run_from (start h a) cs).state.heap.units + u

abbrev pub Measures : Type 0
Measures = (h a : ℕ) → 1 ≤ h → h ≤ 128 → 1 ≤ a → a ≤ 128 → (cs : List Call) → Measured h a cs
