-- The choice of pages: its figures, and the laws that a choice obeys.
use Rattle.std.specs.Prelude.{◌≡◌, ℕ, ◌<◌, ◌≤◌, Bool, true, false, cond, not, ◌&&◌, ◌⊎◌, List, [], length, map, Some, None, Option, ◌==◌, ◌≢◌, nat_le, nat_lt, slice_index, slice_index_or}
use Rattle.std.specs.List.{range_with_len}
use Rattle.std.specs.Option.{option_map}
use Rattle.ranking.specs.declared.candidate.Candidate.{Candidate}
use Rattle.ranking.specs.Orders.{none_last, least_of}
use Rattle.ranking.specs.Candidates.{candidate_before}
use Rattle.model.specs.Classes.{sizes, fitting}
use Rattle.model.specs.Maps.{has}
use Rattle.model.specs.Pages.{Page, page_at, with_closed, in_class, free, occupied}
use Rattle.model.specs.Units.{free_of_class, source_page, target_page}
use Rattle.model.specs.Making.{page_to_take}
use Rattle.model.specs.Calls.{if_some}
use Rattle.pages.specs.declared.entry.Entry.{Entry}
use Rattle.pages.specs.Entries.{entry_view, WhateverWords, Changed, Taken}

-- whether the page is open, of the class, and has a free block
abbrev pub has_room_for : ℕ → Page → Bool
has_room_for size p = in_class size p && nat_lt 0 (free p)

-- the same of an entry, since it does not depend on the page's words
abbrev pub entry_has_room : ℕ → Entry → Bool
entry_has_room size e = has_room_for size (entry_view e [])

-- the figure of a page that may be the source, and of one that may be the target
abbrev pub source_figure : ℕ → ℕ → ℕ → Page → Option ℕ
source_figure size targets g p = cond (in_class size p && not (has targets g)) (Some (occupied p.slots)) None

abbrev pub target_figure : ℕ → Page → Option ℕ
target_figure size p = cond (has_room_for size p) (Some (free p)) None

-- the candidate of a page that has a figure
abbrev pub candidate_at : Option ℕ → ℕ → Option Candidate
candidate_at figure page = option_map (λ n. record { figure = n; number = page }) figure

abbrev pub pair_of : Option Candidate → Option (ℕ × ℕ)
pair_of None = None
pair_of (Some c) = Some (c.figure, c.number)

-- the least candidate of a row, with its figure
abbrev pub least_candidate : List (Option Candidate) → Option (ℕ × ℕ)
least_candidate row = if_some (least_of (none_last candidate_before) row) (λ b. pair_of (slice_index_or row b None)) None

-- the least of the pages by the figures that some have, with its figure
abbrev pub least_figure : (ℕ → Option ℕ) → Option (ℕ × ℕ)
least_figure h = least_candidate (map (λ k. candidate_at (h k) k) (range_with_len 0 64))

-- the page for a record of so many words, of which some size is to hold them
abbrev pub room_for : List Page → ℕ → Option ℕ
room_for ps words = cond (fitting words == 0) None (page_to_take ps (fitting words))

-- the least page, if its blocks find room in the others
abbrev pub movable : ℕ → List Page → Option (ℕ × ℕ) → Option ℕ
movable size ps None = None
movable size ps (Some x) = cond (nat_le x.0 (free_of_class size x.1 0 ps)) (Some x.1) None

-- the page of class `k` whose blocks are to be moved; there are twenty classes
abbrev pub source_of : List Page → ℕ → ℕ → Option ℕ
source_of ps k targets = cond (nat_lt k 20) (movable (slice_index sizes k) ps (source_page ps (slice_index sizes k) targets)) None

-- every candidate of a row has the number of a page
abbrev pub LowRow : List (Option Candidate) → Type 0
LowRow row = (k : ℕ) (c : Candidate) → slice_index_or row k None ≡ Some c → c.number < 64

abbrev pub LowPair : Option (ℕ × ℕ) → Type 0
LowPair None = Unit {0}
LowPair (Some x) = x.1 < 64

-- a page number, if there is one, is below 64
abbrev pub Low : Option ℕ → Type 0
Low None = Unit {0}
Low (Some g) = g < 64

-- Laws.

-- an open page of the class with a free block
pub record Takes (size : ℕ) (p : Page) : Type 0 where
  pub class : p.size ≡ size
  pub open_yet : p.closed ≡ false
  pub room : 0 < free p

-- the lowest open page of the class with a free block
pub record LowestOpen (ps : List Page) (size g : ℕ) : Type 0 where
  pub takes : Takes size (page_at ps g)
  pub lowest : (h : ℕ) → h < g → Takes size (page_at ps h) → ⊥

-- the lowest uncut page, where no open page of the class has a free block
pub record LowestUncut (ps : List Page) (size g : ℕ) : Type 0 where
  pub uncut_yet : (page_at ps g).size ≡ 0
  pub lowest : (h : ℕ) → h < g → (page_at ps h).size ≢ 0
  pub no_open : (h : ℕ) → h < length ps → Takes size (page_at ps h) → ⊥

-- no page takes a record
pub record FullUp (ps : List Page) (size : ℕ) : Type 0 where
  pub no_open : (h : ℕ) → h < length ps → Takes size (page_at ps h) → ⊥
  pub no_uncut : (h : ℕ) → h < length ps → (page_at ps h).size ≢ 0

abbrev pub ChosenPage : List Page → ℕ → Option ℕ → Type 0
ChosenPage ps size None = FullUp ps size
ChosenPage ps size (Some g) = LowestOpen ps size g ⊎ LowestUncut ps size g

-- less by figure, or the same and no higher number
abbrev pub Before : ℕ → ℕ → ℕ → ℕ → Type 0
Before m g n h = (m < n) ⊎ ((m ≡ n) × (g ≤ h))

-- a source is open, of the class, not moved into, and least by occupancy, then number
pub record Source (ps : List Page) (size targets g : ℕ) : Type 0 where
  pub class : (page_at ps g).size ≡ size
  pub open_yet : (page_at ps g).closed ≡ false
  pub spared : has targets g ≡ false
  pub least : (h : ℕ) → h < length ps → in_class size (page_at ps h) ≡ true → has targets h ≡ false
      → Before (occupied (page_at ps g).slots) g (occupied (page_at ps h).slots) h

-- a target is open, of the class, has a free block, and is least by free blocks, then number
pub record Target (ps : List Page) (size g : ℕ) : Type 0 where
  pub takes : Takes size (page_at ps g)
  pub least : (h : ℕ) → h < length ps → Takes size (page_at ps h) → Before (free (page_at ps g)) g (free (page_at ps h)) h

-- a page that can take a block of the size
abbrev pub Room : ℕ → Page → Type 0
Room size p = Takes size p ⊎ ((p.size ≡ 0) × (4 ≤ size) × (size ≤ 256))

-- What the functions that choose leave of the entries `es`: `fs`.

abbrev pub page_number : Option (ℕ × ℕ) → Option ℕ
page_number None = None
page_number (Some x) = Some x.0

abbrev pub Allocated : List Entry → List Entry → ℕ → ℕ → Option (ℕ × ℕ) → Type 0
Allocated es fs words from None = (fs ≡ es) × WhateverWords es (λ ps. room_for ps words ≡ None)
Allocated es fs words from (Some x) =
    Taken es fs x.0 x.1 (fitting words) (nat_le from x.0) × WhateverWords es (λ ps. room_for ps words ≡ Some x.0)

abbrev pub Retargeted : List Entry → List Entry → ℕ → Bool → Option (ℕ × ℕ) → Type 0
Retargeted es fs size marked None = (fs ≡ es) × WhateverWords es (λ ps. target_page ps size ≡ None)
Retargeted es fs size marked (Some x) =
    Taken es fs x.0 x.1 size marked × WhateverWords es (λ ps. (v : ℕ) × (target_page ps size ≡ Some (v, x.0)))

abbrev pub Targeted : List Page → ℕ → Option (ℕ × ℕ) → Type 0
Targeted ps size None = (h : ℕ) → h < length ps → Takes size (page_at ps h) → ⊥
Targeted ps size (Some x) = Target ps size x.0

abbrev pub Closes : List Entry → List Entry → Option ℕ → Type 0
Closes es fs None = fs ≡ es
Closes es fs (Some g) = Changed es fs g (λ p. with_closed p true)

abbrev pub Sourced : List Page → ℕ → ℕ → Option ℕ → Type 0
Sourced ps size targets None = Unit {0}
Sourced ps size targets (Some g) = Source ps size targets g
