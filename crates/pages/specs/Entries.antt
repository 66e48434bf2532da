-- What the entries of all pages stand for, whatever words the pages have.
use Rattle.std.specs.Prelude.{◌≡◌, ℕ, ◌/◌, ◌<◌, Bool, true, false, ◌⊎◌, List, [], ◌∷◌, length, Some, None, Option, slice_index_or, slice_set, refl}
use Rattle.std.proofs.Common.{arith, lit<, lit≤}
use Rattle.model.specs.Maps.{has}
use Rattle.model.specs.Pages.{Block, Page, page_at, lowest_free}
use Rattle.model.specs.Units.{marked_block}
use Rattle.model.specs.Making.{ready}
use Rattle.pages.specs.declared.entry.Entry.{Entry}
use Rattle.pages.specs.View.{page_view, filled, block_of, region}

abbrev pub entry_view : Entry → List ℕ → Page
entry_view e ws = page_view e.size e.closed e.occupied e.marked ws

unfoldable pub pages_of : List Entry → List (List ℕ) → List Page
pages_of [] ws = []
pages_of (e ∷ es) [] = []
pages_of (e ∷ es) (w ∷ ws) = entry_view e w ∷ pages_of es ws

-- the entry of an uncut page
abbrev pub no_entry : Entry
no_entry = record {
  size = 0;
  closed = false;
  occupied = 0;
  marked = 0;
  below = lit< tt;
  few = lit≤ tt;
  within = λ s on. on;
  blank = λ z. (refl, refl, refl);
  inhabited = λ l. absurd (omega arith);
}

abbrev pub entry_at : List Entry → ℕ → Entry
entry_at es g = slice_index_or es g no_entry

-- what holds of the pages, whatever words each of the 64 has
abbrev pub WhateverWords : List Entry → (List Page → Type 0) → Type 0
WhateverWords es P = (wss : List (List ℕ)) → length wss ≡ 64 → P (pages_of es wss)

-- every block that is occupied after was so before, in a page of the same size
abbrev pub NoneNew : List Entry → List Entry → Type 0
NoneNew es fs =
    (g s : ℕ) → has (entry_at fs g).occupied s ≡ true → (has (entry_at es g).occupied s ≡ true) × ((entry_at fs g).size ≡ (entry_at es g).size)

-- only page `g` changes, and it has no new block
pub record Changed (es fs : List Entry) (g : ℕ) (change : Page → Page) : Type 0 where
  pub count : length fs ≡ length es
  pub view : (wss : List (List ℕ)) → length wss ≡ 64 → pages_of fs wss ≡ slice_set (pages_of es wss) g (change (page_at (pages_of es wss) g))
  pub none_new : NoneNew es fs

abbrev pub mark_slot_in : Page → ℕ → Option Block → Page
mark_slot_in p s None = p
mark_slot_in p s (Some b) = filled p s (marked_block b)

-- the block in slot `s`, if there is one, is marked
abbrev pub mark_slot : Page → ℕ → Page
mark_slot p s = mark_slot_in p s (slice_index_or p.slots s None)

-- block `s` of page `g`, which was free and has none free below it, is occupied, in a page that is cut if it was not yet
pub record Taken (es fs : List Entry) (g s size : ℕ) (marked : Bool) : Type 0 where
  pub count : length fs ≡ length es
  pub low : g < 64
  pub short : s < 256 / size
  pub size_is : (entry_at fs g).size ≡ size
  pub free : has (entry_at es g).occupied s ≡ false
  pub below : (k : ℕ) → k < s → has (entry_at es g).occupied k ≡ true
  pub same_size : (k : ℕ) → has (entry_at es g).occupied k ≡ true → (entry_at es g).size ≡ size
  pub new : (h k : ℕ) → has (entry_at fs h).occupied k ≡ true
      → ((h ≡ g) × (k ≡ s)) ⊎ ((has (entry_at es h).occupied k ≡ true) × ((entry_at fs h).size ≡ (entry_at es h).size))
  pub lowest : (wss : List (List ℕ)) → length wss ≡ 64 → s ≡ lowest_free (ready (page_at (pages_of es wss) g) size).slots
  pub view : (wss : List (List ℕ)) → length wss ≡ 64
      → pages_of fs wss ≡ slice_set (pages_of es wss) g (filled (ready (page_at (pages_of es wss) g) size) s (block_of marked (region size (slice_index_or wss g []) s)))
