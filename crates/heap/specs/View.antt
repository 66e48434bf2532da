-- What a heap stands for, and what its functions make of that.
use Rattle.std.specs.Prelude.{◌≡◌, ℕ, ◌+◌, Bool, true, false, cond, not, List, [], ◌∷◌, length, replicate, Some, None, Option, nat_le, nat_lt, slice_index_or}
use Rattle.model.specs.Classes.{fitting}
use Rattle.model.specs.Pages.{Block, Page, number, page_of, page_at, block_at, put_block, refs_of, words_of, occupied, lowest_free}
use Rattle.model.specs.Units.{target_page, moved}
use Rattle.model.specs.Making.{page_to_take, ready_pages, free_number}
use Rattle.model.specs.Calls.{if_some, with_word}
use Rattle.pages.specs.Entries.{pages_of}
use Rattle.heap.specs.declared.heap.Heap.{Heap}

abbrev pub view : Heap → List Page
view h = pages_of h.pages.entries h.words

-- how many references and how many words a block has
abbrev pub shape_of : Option Block → ℕ × ℕ
shape_of b = (length (refs_of b), length (words_of b))

abbrev pub white_of : Option Block → Bool
white_of None = false
white_of (Some b) = not b.marked

abbrev pub write_word_in : List Page → ℕ → ℕ → ℕ → Option Block → List Page
write_word_in ps n w v None = ps
write_word_in ps n w v (Some b) = put_block ps n (with_word b w v)

-- word `w` of block `n` gets the value `v`, where there is one
abbrev pub write_word : List Page → ℕ → ℕ → ℕ → List Page
write_word ps n w v = write_word_in ps n w v (block_at ps n)

-- the page for a record of `r` references and `d` words, which have 30 between them at most
abbrev pub new_page : List Page → ℕ → ℕ → Option ℕ
new_page ps r d = cond (nat_lt 30 (r + d)) None (page_to_take ps (fitting (2 + r + d)))

-- a block of nil references and zero words, which forwards to itself
abbrev pub new_block : ℕ → Bool → ℕ → ℕ → Block
new_block n marked r d = record { forward = n; marked = marked; refs = replicate r 0; words = replicate d 0 }

-- the number of the new block, and the pages with it, marked in pages from `from` on
abbrev pub new_number : List Page → ℕ → ℕ → Option ℕ
new_number ps r d = if_some (new_page ps r d) (λ g. Some (free_number (ready_pages ps g (fitting (2 + r + d))) g)) None

abbrev pub new_pages : List Page → ℕ → ℕ → ℕ → List Page
new_pages ps r d from =
    if_some (new_page ps r d)
    (λ g. put_block (ready_pages ps g (fitting (2 + r + d))) (free_number (ready_pages ps g (fitting (2 + r + d))) g)
    (new_block (free_number (ready_pages ps g (fitting (2 + r + d))) g) (nat_le from g) r d)) ps

-- the target of a block, if there is one: blocks leave closed pages only
abbrev pub target_of : List Page → ℕ → Option Block → Option (ℕ × ℕ)
target_of ps n None = None
target_of ps n (Some b) = cond (page_at ps (page_of n)).closed (target_page ps (page_at ps (page_of n)).size) None

abbrev pub target_number : Option (ℕ × ℕ) → Option ℕ
target_number None = None
target_number (Some t) = Some t.1

abbrev pub moved_to : List Page → ℕ → Option (ℕ × ℕ) → List Page
moved_to ps n None = ps
moved_to ps n (Some t) = moved ps n (number t.1 (lowest_free (page_at ps t.1).slots)) (block_at ps n)

-- how many blocks are occupied in all pages
abbrev pub occupied_blocks : List Page → ℕ
occupied_blocks [] = 0
occupied_blocks (p ∷ ps) = occupied p.slots + occupied_blocks ps

abbrev pub unmarked : Block → Block
unmarked b = record { forward = b.forward; marked = false; refs = b.refs; words = b.words }

-- sweeping leaves exactly the marked blocks of page `g`, without their marks
pub record LeavesMarked (ps qs : List Page) (g : ℕ) : Type 0 where
  pub stay : (s : ℕ) (b : Block) → slice_index_or (page_at ps g).slots s None ≡ Some b → b.marked ≡ true → slice_index_or (page_at qs g).slots s None ≡ Some (unmarked b)
  pub go : (s : ℕ) (b : Block) → slice_index_or (page_at ps g).slots s None ≡ Some b → b.marked ≡ false → slice_index_or (page_at qs g).slots s None ≡ None
  pub none_new : (s : ℕ) → slice_index_or (page_at ps g).slots s None ≡ None → slice_index_or (page_at qs g).slots s None ≡ None
