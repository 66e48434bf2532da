-- A run: a store and what has been done with it since it was fresh, with the graph that was fed the same calls.
use Rattle.std.specs.Prelude.{ℕ, zero, suc, ◌+◌, Bool, true, false, cond, List, [], ◌∷◌, length, Some, None, Ok, Err, Option, Result, ◌==◌, slice_index}
use Rattle.calls.specs.declared.Call.{Call}
use Rattle.calls.specs.declared.Call.TheVariants.{Make, Load, Store, Read, Write, Copy, Clear, Same, Shape, Schedule, Next, Begin, Step, Count}
use Rattle.calls.specs.declared.Answer.{Answer}
use Rattle.calls.specs.declared.Refusal.{Refusal}
use Rattle.model.specs.Classes.{sizes, fitting}
use Rattle.model.specs.Pages.{Page, page_at, number, lowest_free, count_of_current_blocks}
use Rattle.model.specs.State.{Phase, idle, roots, marking, sweeping, moving, running, State, fresh}
use Rattle.model.specs.Units.{unit, lowest_current_block, target_page}
use Rattle.model.specs.Making.{page_to_take, ready_pages, free_number}
use Rattle.model.specs.Calls.{if_some, apply}
use Rattle.model.specs.Graph.{Graph, empty, graph_after}

-- `owner` is the record that each block belongs to: the one that make or a move last put there;
-- `began` is the graph when the last collection began (empty before the first), and `held_then` the records held then
pub record Run : Type 0 where
  pub state : State
  pub graph : Graph
  pub owner : ℕ → ℕ
  pub began : Graph
  pub held_then : ℕ

abbrev pub put : (ℕ → ℕ) → ℕ → ℕ → ℕ → ℕ
put f n v m = cond (m == n) v (f m)

-- the block that a granted make gives out, given its page
abbrev pub block_made : List Page → ℕ → ℕ → ℕ
block_made ps size g = free_number (ready_pages ps g size) g

abbrev pub owner_made : State → (ℕ → ℕ) → ℕ → ℕ → ℕ → (ℕ → ℕ)
owner_made s f r d o =
    if_some (page_to_take s.heap.pages (fitting (2 + r + d))) (λ g. put f (block_made s.heap.pages (fitting (2 + r + d)) g) o) f

-- the copy that the next unit makes belongs to the record of the block that it copies
abbrev pub owner_moved : List Page → (ℕ → ℕ) → ℕ → Option ℕ → Option (ℕ × ℕ) → (ℕ → ℕ)
owner_moved ps f g None t = f
owner_moved ps f g (Some s) None = f
owner_moved ps f g (Some s) (Some t) = put f (number t.1 (lowest_free (page_at ps t.1).slots)) (f (number g s))

abbrev pub owner_unit : Phase → List Page → (ℕ → ℕ) → (ℕ → ℕ)
owner_unit idle ps f = f
owner_unit (roots i) ps f = f
owner_unit marking ps f = f
owner_unit (sweeping g) ps f = f
owner_unit (moving k None targets) ps f = f
owner_unit (moving k (Some g) targets) ps f =
    owner_moved ps f g (lowest_current_block g 0 (page_at ps g).slots) (target_page ps (slice_index sizes k))

abbrev pub owner_steps : ℕ → State → (ℕ → ℕ) → (ℕ → ℕ)
owner_steps zero s f = f
owner_steps (suc u) s f = cond (running s.heap.phase) (owner_steps u (unit s) (owner_unit s.heap.phase s.heap.pages f)) f

-- only make and the moves of a step put a record into a block; `o` is the number of the next record
abbrev pub owner_after : Call → State → (ℕ → ℕ) → ℕ → (ℕ → ℕ)
owner_after (Make p r d) s f o = owner_made s f r d o
owner_after (Load p q f) s w o = w
owner_after (Store q f p) s w o = w
owner_after (Read q w) s f o = f
owner_after (Write q w v) s f o = f
owner_after (Copy p q) s f o = f
owner_after (Clear p) s f o = f
owner_after (Same p q) s f o = f
owner_after (Shape q) s f o = f
owner_after (Schedule t p) s f o = f
owner_after (Next p) s f o = f
owner_after Begin s f o = f
owner_after (Step u) s f o = owner_steps u s f
owner_after Count s f o = f

abbrev pub is_begin : Call → Bool
is_begin (Make p r d) = false
is_begin (Load p q f) = false
is_begin (Store q f p) = false
is_begin (Read q w) = false
is_begin (Write q w v) = false
is_begin (Copy p q) = false
is_begin (Clear p) = false
is_begin (Same p q) = false
is_begin (Shape q) = false
is_begin (Schedule t p) = false
is_begin (Next p) = false
is_begin Begin = true
is_begin (Step u) = false
is_begin Count = false

-- a granted call; a refused one leaves the run as it was
abbrev pub granted : Run → Call → State → Run
granted r c t = record {
  state = t;
  graph = graph_after c r.graph;
  owner = owner_after c r.state r.owner (suc (length r.graph.records));
  began = cond (is_begin c) r.graph r.began;
  held_then = cond (is_begin c) (count_of_current_blocks r.state.heap.pages) r.held_then;
}

abbrev pub extend_by : Run → Call → State × Result Answer Refusal → Run
extend_by r c a = elim a.1 [ Ok n ↦ granted r c a.0 | Err n ↦ r ]

abbrev pub extend : Run → Call → Run
extend r c = extend_by r c (apply c r.state)

-- a fresh store with `h` places in its holder and `a` in its agenda, and an empty graph
abbrev pub start : ℕ → ℕ → Run
start h a = record { state = fresh h a; graph = empty h; owner = λ n. 0; began = empty h; held_then = 0 }

abbrev pub run_from : Run → List Call → Run
run_from r [] = r
run_from r (c ∷ cs) = run_from (extend r c) cs
