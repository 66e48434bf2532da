-- What one unit of a collection does, phase by phase.
use Rattle.std.specs.Prelude.{ℕ, zero, suc, ◌+◌, ◌-◌, Bool, true, false, cond, not, ◌&&◌, List, [], ◌∷◌, length, set, Some, None, Option, ◌==◌, nat_le, nat_lt, slice_index, slice_set}
use Rattle.model.specs.Classes.{sizes}
use Rattle.model.specs.Maps.{has, with_flag_set}
use Rattle.model.specs.Pages.{Block, Page, uncut, with_closed, number, page_at, block_at, put_block, current, refs_of, occupied, free, lowest_free, in_class, count_pages, is_uncut}
use Rattle.model.specs.State.{Phase, idle, roots, marking, sweeping, moving, running, Heap, State, with_heap, with_holder, with_agenda, with_pages, with_work, with_phase}

abbrev pub marked_block : Block → Block
marked_block b = record { forward = b.forward; marked = true; refs = b.refs; words = b.words }

abbrev pub with_refs : Block → List ℕ → Block
with_refs b r = record { forward = b.forward; marked = b.marked; refs = r; words = b.words }

abbrev pub with_forward : Block → ℕ → Block
with_forward b n = record { forward = n; marked = b.marked; refs = b.refs; words = b.words }

-- Greying: the current form of a number, if it names a block and that is unmarked, is marked and joins the work list.

abbrev pub grey_block : Heap → ℕ → Option Block → Heap
grey_block h n None = h
grey_block h n (Some b) =
    cond b.marked h
    (record { pages = put_block h.pages n (marked_block b); work = n ∷ h.work; phase = h.phase; units = h.units })

abbrev pub grey : Heap → ℕ → Heap
grey h n = grey_block h (current h.pages n) (block_at h.pages (current h.pages n))

-- Roots: the next place, the holder's before the agenda's, gets its number's current form, which is greyed.

abbrev pub root_unit : State → ℕ → State
root_unit s i =
    cond (nat_lt i (length s.holder))
    (let n = current s.heap.pages (slice_index s.holder i) in with_heap (with_holder s (slice_set s.holder i n)) (grey s.heap n))
    (let j = i - length s.holder in
    let n = current s.heap.pages (slice_index s.agenda j) in with_heap (with_agenda s (slice_set s.agenda j n)) (grey s.heap n))

-- after the last place comes marking
abbrev pub after_root : State → ℕ → Phase
after_root s i = cond (nat_lt (suc i) (length s.holder + length s.agenda)) (roots (suc i)) marking

-- Marking: the newest block leaves the work list, and each of its references gets its current form, which is greyed.

-- reference `f` of a block, if there is one
abbrev pub rescan : Heap → ℕ → ℕ → ℕ → Option Block → Heap
rescan h n f r None = h
rescan h n f r (Some b) = grey (with_pages h (put_block h.pages n (with_refs b (slice_set b.refs f (current h.pages r))))) r

-- references `f` and up of block `n`
abbrev pub scan : List ℕ → Heap → ℕ → ℕ → Heap
scan [] h n f = h
scan (r ∷ rs) h n f = scan rs (rescan h n f r (block_at h.pages n)) n (suc f)

-- with an empty work list the unit turns to sweeping
abbrev pub marking_unit : Heap → List ℕ → Heap
marking_unit h [] = with_phase h (sweeping 0)
marking_unit h (n ∷ w) = scan (refs_of (block_at h.pages n)) (with_work h w) n 0

-- Sweeping: in one page unmarked blocks become free, marks go, the page opens, and with no block left it is uncut.

abbrev pub survivor : Option Block → Option Block
survivor None = None
survivor (Some b) =
    cond b.marked (Some (record { forward = b.forward; marked = false; refs = b.refs; words = b.words })) None

abbrev pub survivors : List (Option Block) → List (Option Block)
survivors [] = []
survivors (x ∷ xs) = survivor x ∷ survivors xs

abbrev pub swept : Page → Page
swept p =
    cond (occupied (survivors p.slots) == 0) uncut
    (record { size = p.size; closed = false; slots = survivors p.slots })

-- after the last page the collection ends where 20 pages or more are uncut, else moving starts at the smallest class
abbrev pub after_sweep : List Page → ℕ → Phase
after_sweep ps g =
    cond (nat_lt (suc g) 64) (sweeping (suc g)) (cond (nat_le 20 (count_pages is_uncut ps)) idle (moving 0 None 0))

abbrev pub sweeping_unit : Heap → ℕ → Heap
sweeping_unit h g =
    let ps = set h.pages g (swept (page_at h.pages g)) in
    record { pages = ps; work = h.work; phase = after_sweep ps g; units = h.units }

-- Moving: thin pages are emptied into fuller ones of their class.

-- of two pages, each with its figure, the one with the smaller figure, the first of equals
abbrev pub lesser : Option (ℕ × ℕ) → Option (ℕ × ℕ) → Option (ℕ × ℕ)
lesser None y = y
lesser (Some x) None = Some x
lesser (Some x) (Some y) = cond (nat_le x.0 y.0) (Some x) (Some y)

-- the least page by a figure, then by number, of those that pass a test, with its figure; pages are counted from `g`
abbrev pub least_page : (ℕ → Page → Bool) → (Page → ℕ) → ℕ → List Page → Option (ℕ × ℕ)
least_page f m g [] = None
least_page f m g (p ∷ ps) = lesser (cond (f g p) (Some (m p, g)) None) (least_page f m (suc g) ps)

-- the source is the open page of the class least by occupancy, then number, among those into which no block was moved
abbrev pub source_page : List Page → ℕ → ℕ → Option (ℕ × ℕ)
source_page ps size targets = least_page (λ g p. in_class size p && not (has targets g)) (λ p. occupied p.slots) 0 ps

-- the target is the open page of the class least by free blocks, then number, among those with one
abbrev pub target_page : List Page → ℕ → Option (ℕ × ℕ)
target_page ps size = least_page (λ g p. in_class size p && nat_lt 0 (free p)) free 0 ps

-- the free blocks of the open pages of a class, but for page `but`, taken together
abbrev pub free_of_class : ℕ → ℕ → ℕ → List Page → ℕ
free_of_class size but g [] = 0
free_of_class size but g (p ∷ ps) = cond (in_class size p && not (g == but)) (free p) 0 + free_of_class size but (suc g) ps

-- after the last class the collection ends
abbrev pub class_done : Heap → ℕ → ℕ → Heap
class_done h k targets = with_phase h (cond (nat_lt (suc k) 20) (moving (suc k) None targets) idle)

abbrev pub close_page : List Page → ℕ → Bool → List Page
close_page ps g c = slice_set ps g (with_closed (page_at ps g) c)

-- with no source: the least page becomes source and closes if the others of the class can take its blocks, else the class is finished
abbrev pub choose_source : Heap → ℕ → ℕ → Option (ℕ × ℕ) → Heap
choose_source h k targets None = class_done h k targets
choose_source h k targets (Some x) =
    cond (nat_le x.0 (free_of_class (slice_index sizes k) x.1 0 h.pages))
    (with_phase (with_pages h (close_page h.pages x.1 true)) (moving k (Some x.1) targets))
    (class_done h k targets)

abbrev pub is_current_block : ℕ → Option Block → Bool
is_current_block n None = false
is_current_block n (Some b) = b.forward == n

-- the lowest slot of page `g` whose block is current, counted from `s`
abbrev pub lowest_current_block : ℕ → ℕ → List (Option Block) → Option ℕ
lowest_current_block g s [] = None
lowest_current_block g s (x ∷ xs) = cond (is_current_block (number g s) x) (Some s) (lowest_current_block g (suc s) xs)

-- a block is copied; the copy forwards to itself, the old block to the copy
abbrev pub moved : List Page → ℕ → ℕ → Option Block → List Page
moved ps from to None = ps
moved ps from to (Some b) = put_block (put_block ps to (with_forward b to)) from (with_forward b to)

-- with a current block in the source: it goes to the target's lowest free slot; with no target the source opens and the class is finished
abbrev pub move_to : Heap → ℕ → ℕ → ℕ → ℕ → Option (ℕ × ℕ) → Heap
move_to h k targets g s None = class_done (with_pages h (close_page h.pages g false)) k targets
move_to h k targets g s (Some t) =
    with_phase
    (with_pages h (moved h.pages (number g s) (number t.1 (lowest_free (page_at h.pages t.1).slots)) (block_at h.pages (number g s))))
    (moving k (Some g) (with_flag_set targets t.1))

-- with none left there is no source any more; the page stays closed until its next sweep
abbrev pub move_from : Heap → ℕ → ℕ → ℕ → Option ℕ → Heap
move_from h k targets g None = with_phase h (moving k None targets)
move_from h k targets g (Some s) = move_to h k targets g s (target_page h.pages (slice_index sizes k))

abbrev pub moving_unit : Heap → ℕ → Option ℕ → ℕ → Heap
moving_unit h k None targets = choose_source h k targets (source_page h.pages (slice_index sizes k) targets)
moving_unit h k (Some g) targets = move_from h k targets g (lowest_current_block g 0 (page_at h.pages g).slots)

-- One unit, and the units of a step.

abbrev pub one_more : Heap → Heap
one_more h = record { pages = h.pages; work = h.work; phase = h.phase; units = suc h.units }

abbrev pub by_phase : State → Phase → State
by_phase s idle = s
by_phase s (roots i) = let t = root_unit s i in with_heap t (with_phase t.heap (after_root s i))
by_phase s marking = with_heap s (marking_unit s.heap s.heap.work)
by_phase s (sweeping g) = with_heap s (sweeping_unit s.heap g)
by_phase s (moving k source targets) = with_heap s (moving_unit s.heap k source targets)

abbrev pub unit : State → State
unit s = with_heap (by_phase s s.heap.phase) (one_more (by_phase s s.heap.phase).heap)

-- the units of a step of `u`: they are done until `u` are done or the collection ends
abbrev pub steps : ℕ → State → State
steps zero s = s
steps (suc u) s = cond (running s.heap.phase) (steps u (unit s)) s

-- how many units such a step does
abbrev pub done_in : ℕ → State → ℕ
done_in zero s = 0
done_in (suc u) s = cond (running s.heap.phase) (suc (done_in u (unit s))) 0
