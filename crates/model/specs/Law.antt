-- The law: what a store promises after every list of calls.
use Rattle.std.specs.Prelude.{◌≡◌, ℕ, ◌+◌, ◌-◌, ◌*◌, ◌<◌, ◌≤◌, Bool, true, false, cond, ◌⊎◌, List, [], ◌∷◌, ◌++◌, length, Some, None, Option, ◌==◌, slice_index, slice_index_or}
use Rattle.calls.specs.declared.Call.{Call}
use Rattle.calls.specs.declared.Call.TheVariants.{Make, Load, Store, Read, Write, Copy, Clear, Same, Shape, Schedule, Next, Begin, Step, Count}
use Rattle.calls.specs.declared.Refusal.{Refusal}
use Rattle.calls.specs.declared.Refusal.TheVariants.{NoRoom, CollectionRuns, NoCollection}
use Rattle.holders.specs.declared.key.Key.{Key}
use Rattle.model.specs.Pages.{Block, block_at, current}
use Rattle.model.specs.State.{running, State}
use Rattle.model.specs.Units.{steps}
use Rattle.model.specs.Refusals.{conditions, refusal}
use Rattle.model.specs.Calls.{reply, apply}
use Rattle.model.specs.Graph.{Event, record_at, graph_reply, graph_refusal, Member, Reached}
use Rattle.model.specs.Runs.{Run, start, run_from}

-- a block is current if its forwarding word names itself
abbrev pub Current : Run → ℕ → Type 0
Current r n = (0 < n) × (current r.state.heap.pages n ≡ n)

-- a record is held if a current block belongs to it
abbrev pub Held : Run → ℕ → Type 0
Held r o = (n : ℕ) × Current r n × (r.owner n ≡ o)

-- the record that a number in a place or a reference stands for: the one that its current form belongs to, or 0 for nil
abbrev pub stands_for : Run → ℕ → ℕ
stands_for r x = let c = current r.state.heap.pages x in cond (c == 0) 0 (r.owner c)

abbrev pub all_stand_for : Run → List ℕ → List ℕ
all_stand_for r [] = []
all_stand_for r (x ∷ xs) = stands_for r x ∷ all_stand_for r xs

-- block `n` has the words of the graph's record `o`, and references that stand for its references
pub record Contents (r : Run) (o n : ℕ) : Type 0 where
  pub block : Block
  pub there : block_at r.state.heap.pages n ≡ Some block
  pub words : block.words ≡ (record_at r.graph o).words
  pub refs : all_stand_for r block.refs ≡ (record_at r.graph o).refs

-- record `o` has exactly one current block, with its contents
pub record Kept (r : Run) (o : ℕ) : Type 0 where
  pub at : ℕ
  pub current : Current r at
  pub owned : r.owner at ≡ o
  pub alone : (n : ℕ) → Current r n → r.owner n ≡ o → n ≡ at
  pub contents : Contents r o at

-- the event of an agenda place: its key, and the record that its number stands for
abbrev pub event_of : Run → Option Key → ℕ → Option Event
event_of r None x = None
event_of r (Some k) x = Some (record { key = k; names = stands_for r x })

-- the store is the graph: what it reaches is kept, the holder's places stand for its places, and the keyed places of
-- the agenda are its events, one to one
pub record Faithful (r : Run) : Type 0 where
  pub reached : (o : ℕ) → Reached r.graph o → Kept r o
  pub places : all_stand_for r r.state.holder ≡ r.graph.places
  pub planned : (i : ℕ) (k : Key) → slice_index_or r.state.keys i None ≡ Some k →
      Member (record { key = k; names = stands_for r (slice_index r.state.agenda i) }) r.graph.events
  pub events : (e : Event) → Member e r.graph.events →
      (i : ℕ) × (event_of r (slice_index_or r.state.keys i None) (slice_index r.state.agenda i) ≡ Some e)
  pub apart : (i j : ℕ) (k : Key) → slice_index_or r.state.keys i None ≡ Some k → slice_index_or r.state.keys j None ≡ Some k → i ≡ j
  pub as_many : length r.graph.events ≤ length r.state.keys

-- made since the last begin
abbrev pub MadeSince : Run → ℕ → Type 0
MadeSince r o = (length r.began.records < o) × (o ≤ length r.graph.records)

abbrev pub made_since : Run → ℕ
made_since r = length r.graph.records - length r.began.records

-- held are exactly the records that the graph reached when the last collection began, and those made since
pub record Exact (r : Run) : Type 0 where
  pub nothing_more : (o : ℕ) → Held r o → Reached r.began o ⊎ MadeSince r o
  pub nothing_less : (o : ℕ) → Reached r.began o ⊎ MadeSince r o → Held r o

-- places + 2 × records held at the begin + records made since + 213
abbrev pub Bounded : Run → Type 0
Bounded r = r.state.heap.units ≤ (length r.state.holder + length r.state.agenda) + 2 * r.held_then + made_since r + 213

-- the refusals that the graph does not decide
abbrev pub StoresOwn : Refusal → Type 0
StoresOwn n = (n ≡ NoRoom) ⊎ ((n ≡ CollectionRuns) ⊎ (n ≡ NoCollection))

-- step and count answer from the store, the other calls from the graph
abbrev pub graph_answers : Call → Bool
graph_answers (Make p r d) = true
graph_answers (Load p q f) = true
graph_answers (Store q f p) = true
graph_answers (Read q w) = true
graph_answers (Write q w v) = true
graph_answers (Copy p q) = true
graph_answers (Clear p) = true
graph_answers (Same p q) = true
graph_answers (Shape q) = true
graph_answers (Schedule t p) = true
graph_answers (Next p) = true
graph_answers Begin = true
graph_answers (Step u) = false
graph_answers Count = false

-- what the graph says of a call, with as many places in its agenda
abbrev pub by_graph : Run → Call → Option Refusal
by_graph r c = graph_refusal c r.graph (length r.state.agenda)

-- what the next call will answer: the graph's answer; a refusal's condition holds, and it is the graph's or the store's own;
-- a refused call changes nothing, and no granted call is one that the graph refuses
pub record Agrees (r : Run) (c : Call) : Type 0 where
  pub granted : refusal c r.state ≡ None → by_graph r c ≡ None
  pub answered : refusal c r.state ≡ None → graph_answers c ≡ true → reply c r.state ≡ graph_reply c r.graph
  pub refused : (n : Refusal) → refusal c r.state ≡ Some n → StoresOwn n ⊎ (by_graph r c ≡ Some n)
  pub holds : (n : Refusal) → refusal c r.state ≡ Some n → Member (true, n) (conditions c r.state)
  pub unchanged : (n : Refusal) → refusal c r.state ≡ Some n → (apply c r.state).0 ≡ r.state

pub record Upheld (r : Run) : Type 0 where
  pub faithful : Faithful r
  -- whenever no collection runs, so at each end of one
  pub exact : running r.state.heap.phase ≡ false → Exact r
  -- two current blocks never belong to one record, so that current blocks count the records held
  pub one_each : (m n : ℕ) → Current r m → Current r n → r.owner m ≡ r.owner n → m ≡ n
  pub bounded : Bounded r
  pub agrees : (c : Call) → Agrees r c
  -- a step that leaves its collection unfinished does all the units asked of it
  pub all_done : (u : ℕ) → running (steps u r.state).heap.phase ≡ true → (steps u r.state).heap.units ≡ r.state.heap.units + u

-- for every number of places of holder and agenda from 1 to 128, and every list of calls from a fresh store
abbrev pub Law : Type 0
Law = (h a : ℕ) → 1 ≤ h → h ≤ 128 → 1 ≤ a → a ≤ 128 → (cs : List Call) → Upheld (run_from (start h a) cs)

-- a call that leads from state `s` to state `t` is lawful: every list of calls that leads from a fresh store to `s`
-- leads to `t` with this call added, and the law holds of the longer list
pub record Lawful (h a : ℕ) (c : Call) (s t : State) : Type 0 where
  pub leads : (cs : List Call) → (run_from (start h a) cs).state ≡ s → (run_from (start h a) (cs ++ c ∷ [])).state ≡ t
  pub upheld : (cs : List Call) → (run_from (start h a) cs).state ≡ s → Upheld (run_from (start h a) (cs ++ c ∷ []))
