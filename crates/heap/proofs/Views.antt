-- What holds of every heap's view.
use Rattle.std.proofs.Common.{◌≡◌, ℕ, ◌/◌, ◌<◌, ◌≤◌, Bool, [], sum_by, length, get_or, sym, ap, ◌∙◌, inl, inr, arith}
use Rattle.std.proofs.lemmas.Bool.{cases_lt}
use Rattle.std.specs.List.{range_with_len}
use Rattle.std.proofs.lemmas.List.{get_or_past}
use Rattle.std.proofs.lemmas.List.FromFn.{length-range_with_len}
use Rattle.std.proofs.lemmas.List.Sums.{sum_by-le}
use Rattle.model.specs.Pages.{Page, uncut, page_at, occupied, count_slots}
use Rattle.pages.specs.declared.entry.Entry.{Entry}
use Rattle.pages.specs.Entries.{no_entry, entry_at}
use Rattle.pages.proofs.Pages.{Full, pages_long, page_past, page_of_entry, closed_entry}
use Rattle.heap.specs.declared.heap.Heap.{Heap}
use Rattle.heap.specs.View.{view}
use Rattle.heap.proofs.Found.{slots_length}
use Rattle.heap.proofs.Counts.{counted_most, occupied_most}

pub full : (h : Heap) → Full h.pages.entries h.words
full h = (h.count, h.tall)

-- there are 64 pages
pub long : (h : Heap) → length (view h) ≡ 64
long h = pages_long h.pages.entries h.words (full h)

pub closed_is : (h : Heap) (g : ℕ) → g < 64 → (page_at (view h) g).closed ≡ (entry_at h.pages.entries g).closed
closed_is h g l =
    ap (λ (p : Page). p.closed) (page_of_entry h.pages.entries h.words g (full h) l) ∙ closed_entry (entry_at h.pages.entries g) (get_or h.words g [])

-- how many blocks a page has, at most 64
pub slots_count : (h : Heap) (g : ℕ) → length (page_at (view h) g).slots ≡ 256 / (entry_at h.pages.entries g).size
slots_count h g = elim (cases_lt g 64) [
  | inl l ↦ slots_length h.pages.entries h.words g h.count h.tall l
  | inr l ↦
      let n = h.count in
      ap (λ (p : Page). length p.slots) (page_past h.pages.entries h.words g uncut (omega arith))
      ∙ sym (ap (λ (e : Entry). 256 / e.size) (get_or_past h.pages.entries g no_entry (omega arith)))
]

pub slots_few : (h : Heap) (g : ℕ) → length (page_at (view h) g).slots ≤ 64
slots_few h g = let e = slots_count h g in let f = (entry_at h.pages.entries g).few in omega arith

pub few_slots : (h : Heap) (g : ℕ) → g < 64 → length (page_at (view h) g).slots ≤ 64
few_slots h g l = slots_few h g

-- a slot of a page is one of 64 in one of 64 pages
pub slot_low : (h : Heap) (g s : ℕ) → s < length (page_at (view h) g).slots → (g < 64) × (s < 64)
slot_low h g s l = let f = slots_few h g in (
  elim (cases_lt g 64) [
    | inl m ↦ m
    | inr m ↦
        let n = h.count in
        let e : length (page_at (view h) g).slots ≡ 0 = ap (λ (p : Page). length p.slots) (page_past h.pages.entries h.words g uncut (omega arith)) in
        absurd (omega arith)
  ],
  omega arith,
)

-- what is 64 a page at most is 4096 in all pages at most
few_in_pages : (f : ℕ → ℕ) → ((g : ℕ) → f g ≤ 64) → sum_by f (range_with_len 0 64) ≤ 4096
few_in_pages f few =
    let l : length (range_with_len 0 64) ≡ 64 = length-range_with_len 0 64 in
    let m = sum_by-le f 64 (range_with_len 0 64) (λ k d r. few (get_or (range_with_len 0 64) k d)) in
    omega arith

-- the blocks of all pages that count
pub few_in_all : (h : Heap) (c : Bool) → sum_by (λ g. count_slots c g 0 (page_at (view h) g).slots) (range_with_len 0 64) ≤ 4096
few_in_all h c =
    few_in_pages (λ g. count_slots c g 0 (page_at (view h) g).slots) (λ g. let a = counted_most c g 0 (page_at (view h) g).slots in let b = slots_few h g in omega arith)

-- the blocks of all pages that are occupied
pub few_occupied : (h : Heap) → sum_by (λ g. occupied (page_at (view h) g).slots) (range_with_len 0 64) ≤ 4096
few_occupied h =
    few_in_pages (λ g. occupied (page_at (view h) g).slots) (λ g. let a = occupied_most (page_at (view h) g).slots in let b = slots_few h g in omega arith)
