-- What a crate that cites the law needs beside it: how runs are put together, and the widths of a state.
use Rattle.std.specs.Prelude.{◌≡◌, ℕ, false, List, [], ◌∷◌, ◌++◌, length, None, slice_index, slice_index_or}
use Rattle.calls.specs.declared.Call.{Call}
use Rattle.model.specs.State.{running, fresh}
use Rattle.model.specs.Calls.{apply, run_state}
use Rattle.model.specs.Runs.{start, run_from, extend}
use Rattle.model.specs.Law.{Exact}

-- of the run of calls `cs` on a fresh store with `h` places in its holder and `a` in its agenda
pub record Joint (h a : ℕ) (cs : List Call) : Type 0 where
  -- what the calls make of a fresh store
  pub state : (run_from (start h a) cs).state ≡ run_state cs (fresh h a)
  -- one call more
  pub more : (c : Call) → run_from (start h a) (cs ++ c ∷ []) ≡ extend (run_from (start h a) cs) c
  pub next_state : (c : Call) → (run_from (start h a) (cs ++ c ∷ [])).state ≡ (apply c (run_from (start h a) cs).state).0
  -- widths
  pub holder : length (run_from (start h a) cs).state.holder ≡ h
  pub agenda : length (run_from (start h a) cs).state.agenda ≡ a
  pub keys : length (run_from (start h a) cs).state.keys ≡ a
  pub pages : length (run_from (start h a) cs).state.heap.pages ≡ 64
  -- as in the graph
  pub clock : (run_from (start h a) cs).state.clock ≡ (run_from (start h a) cs).graph.clock
  pub serial : (run_from (start h a) cs).state.serial ≡ (run_from (start h a) cs).graph.serial
  -- an agenda place with no key holds nil
  pub blank : (i : ℕ) → slice_index_or (run_from (start h a) cs).state.keys i None ≡ None → slice_index (run_from (start h a) cs).state.agenda i ≡ 0
  -- held is what the last collection's begin reached and what was made since, whenever no collection runs
  pub exact : running (run_from (start h a) cs).state.heap.phase ≡ false → Exact (run_from (start h a) cs)

abbrev pub Joined : Type 0
Joined = (h a : ℕ) (cs : List Call) → Joint h a cs
