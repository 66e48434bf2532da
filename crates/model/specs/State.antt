-- The state of a store: its heap, the numbers in its places, the keys of its agenda, its clock and the next serial.
use Rattle.std.specs.Prelude.{ℕ, Bool, true, false, List, [], replicate, None, Option}
use Rattle.holders.specs.declared.key.Key.{Key}
use Rattle.model.specs.Pages.{Page, uncut}

-- what the next unit of a collection does: the next root; the newest block of the work list; the next page to sweep;
-- or, in moving, the class at hand, its source page if one is chosen, and the map of the pages into which a block was moved
pub data Phase : Type 0 where
  idle : Phase
  roots : ℕ → Phase
  marking : Phase
  sweeping : ℕ → Phase
  moving : ℕ → Option ℕ → ℕ → Phase

abbrev pub running : Phase → Bool
running idle = false
running (roots i) = true
running marking = true
running (sweeping g) = true
running (moving k source targets) = true

-- the pages, the work list with the newest block first, the phase, and the units done since the last begin
pub record Heap : Type 0 where
  pub pages : List Page
  pub work : List ℕ
  pub phase : Phase
  pub units : ℕ

-- `holder` and `agenda` are the numbers in the places of the two
pub record State : Type 0 where
  pub heap : Heap
  pub holder : List ℕ
  pub agenda : List ℕ
  pub keys : List (Option Key)
  pub clock : ℕ
  pub serial : ℕ

-- a store just made, with `h` places in its holder and `a` in its agenda
abbrev pub fresh : ℕ → ℕ → State
fresh h a = record {
  heap = record { pages = replicate 64 uncut; work = []; phase = idle; units = 0 };
  holder = replicate h 0;
  agenda = replicate a 0;
  keys = replicate a None;
  clock = 0;
  serial = 0;
}

abbrev pub with_heap : State → Heap → State
with_heap s h = record { heap = h; holder = s.holder; agenda = s.agenda; keys = s.keys; clock = s.clock; serial = s.serial }

abbrev pub with_holder : State → List ℕ → State
with_holder s h = record { heap = s.heap; holder = h; agenda = s.agenda; keys = s.keys; clock = s.clock; serial = s.serial }

abbrev pub with_agenda : State → List ℕ → State
with_agenda s p = record { heap = s.heap; holder = s.holder; agenda = p; keys = s.keys; clock = s.clock; serial = s.serial }

abbrev pub with_pages : Heap → List Page → Heap
with_pages h ps = record { pages = ps; work = h.work; phase = h.phase; units = h.units }

abbrev pub with_work : Heap → List ℕ → Heap
with_work h w = record { pages = h.pages; work = w; phase = h.phase; units = h.units }

abbrev pub with_phase : Heap → Phase → Heap
with_phase h p = record { pages = h.pages; work = h.work; phase = p; units = h.units }
