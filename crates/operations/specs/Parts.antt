-- What the parts of an engine make up.
use Rattle.std.specs.Prelude.{ℕ, cond, length, List, Some, None, Ok, Err, Option, Result, nat_lt, slice_index}
use Rattle.calls.specs.declared.Refusal.{Refusal}
use Rattle.calls.specs.declared.Refusal.TheVariants.{NoSuchPlace}
use Rattle.holders.specs.declared.key.Key.{Key}
use Rattle.model.specs.Pages.{Block}
use Rattle.model.specs.State.{State, Heap, running}
use Rattle.model.specs.Units.{unit}
use Rattle.collector.specs.View.{heap_of}
use Rattle.operations.specs.declared.parts.Parts.{Parts}

-- the state of a store with this heap, these numbers in its places, these keys, this clock and this next serial
abbrev pub together : Heap → List ℕ → List ℕ → List (Option Key) → ℕ → ℕ → State
together h holder agenda keys clock serial = record { heap = h; holder = holder; agenda = agenda; keys = keys; clock = clock; serial = serial }

-- the state of a store with these parts, a clock and a next serial, given what a holder and an agenda hold
abbrev pub state_of : {H A : Type 0} → (H → List ℕ) → (A → List ℕ) → (A → List (Option Key)) → Parts H A → ℕ → ℕ → State
state_of held planned keys p clock serial = together (heap_of p.collector) (held p.holder) (planned p.agenda) (keys p.agenda) clock serial

-- a unit, where a collection runs
abbrev pub unit_if_running : State → State
unit_if_running s = cond (running s.heap.phase) (unit s) s

-- the number in a place of the row, where there is such a place
abbrev pub held_at : List ℕ → ℕ → Result ℕ Refusal
held_at row place = cond (nat_lt place (length row)) (Ok (slice_index row place)) (Err NoSuchPlace)

-- the current form of a number, where it names a block
abbrev pub in_current_form : Option Block → Option ℕ
in_current_form None = None
in_current_form (Some b) = Some b.forward
