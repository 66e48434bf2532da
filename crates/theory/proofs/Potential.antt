-- The units that a collection may still take, by two bounds, and what each phase keeps.
-- By the room that there is the bound is a number; by the blocks that there are it is the sharp one.
use Rattle.std.proofs.Common.{◌≡◌, ℕ, suc, ◌+◌, ◌-◌, ◌*◌, ◌<◌, ◌≤◌, true, false, List, length, get_or, Some, None, Option, arith}
use Rattle.model.specs.Classes.{sizes}
use Rattle.model.specs.Maps.{has}
use Rattle.model.specs.Pages.{Page, page_at}
use Rattle.model.specs.State.{Phase, idle, roots, marking, sweeping, moving, Heap, State}
use Rattle.theory.proofs.PageShapes.{PagesOk}
use Rattle.theory.proofs.Counts.{Weight, current_block, current_or_marked, current_outside, current_unmarked, from, marked, marked_husk, marked_or_husk, occupied_block, total, unmarked}
use Rattle.theory.proofs.CurrentForms.{Forwards, Straight}
use Rattle.theory.proofs.SpentPages.{spent}

pub data Bound : Type 0 where
  by_room : Bound
  by_blocks : Bound

-- the blocks that may still be greyed
abbrev pub to_grey : Bound → Weight
to_grey by_room = unmarked
to_grey by_blocks = current_unmarked

-- the blocks that may still be moved, at most: seen while tracing, while page `g` is to be swept, and while moving
abbrev pub to_keep : Bound → List Page → ℕ
to_keep by_room ps = 4096
to_keep by_blocks ps = total current_or_marked ps

abbrev pub to_sweep : Bound → ℕ → List Page → ℕ
to_sweep by_room g ps = 4096
to_sweep by_blocks g ps = total (from g marked current_block) ps

abbrev pub to_move : Bound → ℕ → List Page → ℕ
to_move by_room targets ps = 4096 - total occupied_block ps
to_move by_blocks targets ps = total (current_outside targets) ps

abbrev pub to_trace : Bound → List Page → List ℕ → ℕ
to_trace b ps w = (length w + total (to_grey b) ps) + to_keep b ps

abbrev pub source_left : Option ℕ → ℕ
source_left None = 0
source_left (Some g) = 1

-- the units left, of a store with `n` places: one for each place, for each block to be greyed and for the end of marking;
-- one for each page to be swept; and one for each block to be moved, two for each page that may become a source, one for each class.
-- So 148 = 2 × 64 + 20 for moving beside the blocks, and 213 = 1 + 64 + 148 from the end of marking on
abbrev pub left : Bound → ℕ → List Page → List ℕ → Phase → ℕ
left b n ps w idle = 0
left b n ps w (roots i) = suc (n - suc i) + to_trace b ps w + 213
left b n ps w marking = to_trace b ps w + 213
left b n ps w (sweeping g) = suc (63 - g) + to_sweep b g ps + 148
left b n ps w (moving k source targets) = to_move b targets ps + 2 * (64 - spent k ps) + suc (19 - k) + source_left source

abbrev pub left_of : Bound → ℕ → Heap → ℕ
left_of b n h = left b n h.pages h.work h.phase

-- What each phase keeps.

-- no block is marked, and each current form is current
pub record Resting (ps : List Page) (w : List ℕ) : Type 0 where
  pub listed : length w ≡ 0
  pub clean : total marked ps ≡ 0
  pub straight : Straight ps

-- the work list has room for what may yet be greyed, and no husk is marked
pub record Tracing (ps : List Page) (w : List ℕ) : Type 0 where
  pub room : length w + total unmarked ps ≤ 4096
  pub husks : total marked_husk ps ≡ 0
  pub straight : Straight ps

-- in the pages before `g` each block is current and unmarked, in the others no husk is marked
pub record Clearing (g : ℕ) (ps : List Page) (w : List ℕ) : Type 0 where
  pub listed : length w ≡ 0
  pub swept : total (from g marked_husk marked_or_husk) ps ≡ 0

-- husks forward into the pages moved into
pub record Emptying (k targets : ℕ) (ps : List Page) (w : List ℕ) : Type 0 where
  pub class : k < 20
  pub listed : length w ≡ 0
  pub clean : total marked ps ≡ 0
  pub forwards : Forwards targets ps

-- the page from which blocks are moved
pub record AtHand (k targets : ℕ) (ps : List Page) (g : ℕ) : Type 0 where
  pub within : g < length ps
  pub size : (page_at ps g).size ≡ get_or sizes k 0
  pub closed : (page_at ps g).closed ≡ true
  pub apart : has targets g ≡ false

abbrev pub SourceAtHand : ℕ → ℕ → List Page → Option ℕ → Type 0
SourceAtHand k targets ps None = Unit {0}
SourceAtHand k targets ps (Some g) = AtHand k targets ps g

abbrev pub Stage : List Page → List ℕ → Phase → Type 0
Stage ps w idle = Resting ps w
Stage ps w (roots i) = Tracing ps w
Stage ps w marking = Tracing ps w
Stage ps w (sweeping g) = Clearing g ps w
Stage ps w (moving k source targets) = Emptying k targets ps w × SourceAtHand k targets ps source

pub record Sound (h : Heap) : Type 0 where
  pub pages : PagesOk h.pages
  pub stage : Stage h.pages h.work h.phase

pub listed_limit : (ps : List Page) (w : List ℕ) (ph : Phase) → Stage ps w ph → length w ≤ 4096
listed_limit ps w idle s = omega (arith, s.listed)
listed_limit ps w (roots i) s = omega (arith, s.room)
listed_limit ps w marking s = omega (arith, s.room)
listed_limit ps w (sweeping g) s = omega (arith, s.listed)
listed_limit ps w (moving k source targets) s = omega (arith, s.0.listed)

-- Of a state: its places, and the units that were done and are left.

abbrev pub places : State → ℕ
places s = length s.holder + length s.agenda

abbrev pub budget : Bound → State → ℕ
budget b s = s.heap.units + left_of b (places s) s.heap

-- a unit took heap `h`, in phase `ph`, to heap `k`
pub record Lowered (n : ℕ) (h : Heap) (ph : Phase) (k : Heap) : Type 0 where
  pub sound : Sound k
  pub units : k.units ≡ h.units
  pub less : (b : Bound) → left_of b n k < left b n h.pages h.work ph
