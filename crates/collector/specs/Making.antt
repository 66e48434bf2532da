-- A new block.
use Rattle.std.specs.Prelude.{◌≡◌, ℕ, ◌+◌, ◌-◌, ◌<◌, ◌≤◌, Bool, false, ◌⊎◌, List, length}
use Rattle.model.specs.Pages.{Page, occupied, put_block}
use Rattle.model.specs.Making.{ready_pages, free_number}
use Rattle.heap.specs.View.{new_block}

-- the size of a block with so many references and words
pub record Sized (size r d : ℕ) : Type 0 where
  pub least : 4 ≤ size
  pub most : size ≤ 32
  pub few : r + d ≤ 30
  pub fit : 2 + (r + d) ≤ size

-- an open page of the size with a free block
pub record Free (size : ℕ) (p : Page) : Type 0 where
  pub same : p.size ≡ size
  pub ajar : p.closed ≡ false
  pub space : 0 < length p.slots - occupied p.slots

-- a page that a block of the size can go to
abbrev pub Roomy : ℕ → Page → Type 0
Roomy size p = Free size p ⊎ (p.size ≡ 0)

abbrev pub place_number : List Page → ℕ → ℕ → ℕ
place_number ps size g = free_number (ready_pages ps g size) g

abbrev pub placed_in : List Page → ℕ → ℕ → ℕ → Bool → ℕ → List Page
placed_in ps size r d marked g = put_block (ready_pages ps g size) (place_number ps size g) (new_block (place_number ps size g) marked r d)
