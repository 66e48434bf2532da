-- Where a new record goes, and what is greyed before a number is overwritten.
use Rattle.std.specs.Prelude.{ℕ, Bool, true, false, cond, ◌&&◌, List, replicate, Some, None, Option, nat_le, nat_lt, slice_index, slice_set}
use Rattle.model.specs.Pages.{Block, Page, cut, number, page_at, put_block, free, lowest_free, in_class, is_uncut, first_page}
use Rattle.model.specs.State.{Phase, idle, roots, marking, sweeping, moving, Heap, State, with_heap, with_holder, with_pages}
use Rattle.model.specs.Units.{grey}

-- the snapshot barrier: during roots and marking a number is greyed before it is overwritten
abbrev pub barrier_in : Heap → ℕ → Phase → Heap
barrier_in h n idle = h
barrier_in h n (roots i) = grey h n
barrier_in h n marking = grey h n
barrier_in h n (sweeping g) = h
barrier_in h n (moving k source targets) = h

abbrev pub barrier : Heap → ℕ → Heap
barrier h n = barrier_in h n h.phase

-- a place of the holder gets a number, behind the barrier
abbrev pub overwrite : State → ℕ → ℕ → State
overwrite s p n = with_holder (with_heap s (barrier s.heap (slice_index s.holder p))) (slice_set s.holder p n)

-- whether a record made in page `g` is marked: always during roots and marking, during sweeping in pages still to be swept
abbrev pub allocated_marked : Phase → ℕ → Bool
allocated_marked idle g = false
allocated_marked (roots i) g = true
allocated_marked marking g = true
allocated_marked (sweeping i) g = nat_le i g
allocated_marked (moving k source targets) g = false

abbrev pub or_else : Option ℕ → Option ℕ → Option ℕ
or_else None y = y
or_else (Some x) y = Some x

-- the page for a record of a class: the lowest open page of the class with a free block, else the lowest uncut page
abbrev pub page_to_take : List Page → ℕ → Option ℕ
page_to_take ps size = or_else (first_page (λ p. in_class size p && nat_lt 0 (free p)) 0 ps) (first_page is_uncut 0 ps)

-- a page is cut if it is not yet
abbrev pub ready : Page → ℕ → Page
ready p size = cond (is_uncut p) (cut size) p

abbrev pub ready_pages : List Page → ℕ → ℕ → List Page
ready_pages ps g size = slice_set ps g (ready (page_at ps g) size)

-- the number of the lowest free slot of page `g`
abbrev pub free_number : List Page → ℕ → ℕ
free_number ps g = number g (lowest_free (page_at ps g).slots)

-- a record of `r` nil references and `d` zero words, which forwards to itself
abbrev pub new_block : Phase → ℕ → ℕ → ℕ → ℕ → Block
new_block ph g n r d = record { forward = n; marked = allocated_marked ph g; refs = replicate r 0; words = replicate d 0 }

-- the heap with such a record in the lowest free slot of page `g`, which is cut if need be
abbrev pub with_new : Heap → ℕ → ℕ → ℕ → ℕ → Heap
with_new h g size r d =
    let ps = ready_pages h.pages g size in
    with_pages h (put_block ps (free_number ps g) (new_block h.phase g (free_number ps g) r d))
