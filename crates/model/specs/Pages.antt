-- Pages, the blocks in them, and the numbers that name blocks.
use Rattle.std.specs.Prelude.{ℕ, suc, ◌+◌, ◌-◌, ◌*◌, ◌/◌, ◌%◌, Bool, true, false, cond, not, ◌&&◌, List, [], ◌∷◌, length, replicate, Some, None, Option, ◌==◌, slice_index_or, slice_set}
use Rattle.model.specs.Classes.{blocks}

-- a record in memory: its forwarding word, whether the collection has marked it, its references and its words
pub record Block : Type 0 where
  pub forward : ℕ
  pub marked : Bool
  pub refs : List ℕ
  pub words : List ℕ

-- a page's block size, whether it is closed, and its slots, each free or with a block; an uncut page has size 0 and no slot
pub record Page : Type 0 where
  pub size : ℕ
  pub closed : Bool
  pub slots : List (Option Block)

abbrev pub uncut : Page
uncut = record { size = 0; closed = false; slots = [] }

-- a page just cut: open, and every slot free
abbrev pub cut : ℕ → Page
cut size = record { size = size; closed = false; slots = replicate (blocks size) None }

abbrev pub with_slots : Page → List (Option Block) → Page
with_slots p s = record { size = p.size; closed = p.closed; slots = s }

abbrev pub with_closed : Page → Bool → Page
with_closed p c = record { size = p.size; closed = c; slots = p.slots }

-- the number of the block in slot `s` of page `g`, and back; 0 is nil
abbrev pub number : ℕ → ℕ → ℕ
number g s = 64 * g + s + 1

abbrev pub page_of : ℕ → ℕ
page_of n = (n - 1) / 64

abbrev pub slot_of : ℕ → ℕ
slot_of n = (n - 1) % 64

abbrev pub page_at : List Page → ℕ → Page
page_at ps g = slice_index_or ps g uncut

-- the block that a number names, if it is occupied
abbrev pub block_at : List Page → ℕ → Option Block
block_at ps n = cond (n == 0) None (slice_index_or (page_at ps (page_of n)).slots (slot_of n) None)

-- the pages with a block put where a number says
abbrev pub put_block : List Page → ℕ → Block → List Page
put_block ps n b = slice_set ps (page_of n) (with_slots (page_at ps (page_of n)) (slice_set (page_at ps (page_of n)).slots (slot_of n) (Some b)))

abbrev pub forward_of : Option Block → ℕ
forward_of None = 0
forward_of (Some b) = b.forward

-- the current form of a number: its block's forwarding word, nil where it names no block
abbrev pub current : List Page → ℕ → ℕ
current ps n = forward_of (block_at ps n)

abbrev pub refs_of : Option Block → List ℕ
refs_of None = []
refs_of (Some b) = b.refs

abbrev pub words_of : Option Block → List ℕ
words_of None = []
words_of (Some b) = b.words

-- how many slots are occupied
abbrev pub occupied : {A : Type 0} → List (Option A) → ℕ
occupied [] = 0
occupied (None ∷ s) = occupied s
occupied (Some b ∷ s) = suc (occupied s)

abbrev pub free : Page → ℕ
free p = length p.slots - occupied p.slots

-- the lowest free slot, or the number of slots
abbrev pub lowest_free : {A : Type 0} → List (Option A) → ℕ
lowest_free [] = 0
lowest_free (None ∷ s) = 0
lowest_free (Some b ∷ s) = suc (lowest_free s)

-- an open page cut into blocks of `size` words
abbrev pub in_class : ℕ → Page → Bool
in_class size p = p.size == size && not p.closed

abbrev pub is_uncut : Page → Bool
is_uncut p = p.size == 0

-- the lowest page that passes the test, counted from `g`
abbrev pub first_page : (Page → Bool) → ℕ → List Page → Option ℕ
first_page f g [] = None
first_page f g (p ∷ ps) = cond (f p) (Some g) (first_page f (suc g) ps)

abbrev pub count_pages : (Page → Bool) → List Page → ℕ
count_pages f [] = 0
count_pages f (p ∷ ps) = cond (f p) 1 0 + count_pages f ps

-- a block is current if its forwarding word names itself, else it is a husk; the slots of page `g` from `i` on with the one or the other
abbrev pub count_slots : Bool → ℕ → ℕ → List (Option Block) → ℕ
count_slots c g i [] = 0
count_slots c g i (None ∷ bs) = count_slots c g (suc i) bs
count_slots c g i (Some b ∷ bs) = cond (b.forward == number g i) (cond c 1 0) (cond c 0 1) + count_slots c g (suc i) bs

abbrev pub count_of_blocks : Bool → ℕ → List Page → ℕ
count_of_blocks c g [] = 0
count_of_blocks c g (p ∷ ps) = count_slots c g 0 p.slots + count_of_blocks c (suc g) ps

abbrev pub count_of_current_blocks : List Page → ℕ
count_of_current_blocks ps = count_of_blocks true 0 ps

abbrev pub husks : List Page → ℕ
husks ps = count_of_blocks false 0 ps
