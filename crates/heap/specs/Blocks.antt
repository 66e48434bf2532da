-- The words of the blocks of all pages.
use Rattle.std.specs.Prelude.{◌≡◌, ℕ, ◌+◌, ◌*◌, ◌<◌, ◌≤◌, Bool, true, false, ◌⊎◌, List, [], length, get_or, Some, None, Option, slice_index, slice_index_or, slice_set}
use Rattle.model.specs.Maps.{has}
use Rattle.model.specs.Pages.{Block, Page, page_of, slot_of, block_at, put_block, refs_of, words_of}
use Rattle.model.specs.Units.{with_refs, with_forward, marked_block}
use Rattle.pages.specs.declared.entry.Entry.{Entry}
use Rattle.pages.specs.View.{region, refs_in, words_in, block_of}
use Rattle.pages.specs.Entries.{pages_of, entry_at}

-- the words of block `s` of page `g`
abbrev pub block_words : List Entry → List (List ℕ) → ℕ → ℕ → List ℕ
block_words es wss g s = region (entry_at es g).size (slice_index_or wss g []) s

-- word `j` of block `s` of page `g` is written
abbrev pub with_word : List Entry → List (List ℕ) → ℕ → ℕ → ℕ → ℕ → List (List ℕ)
with_word es wss g s j v = slice_set wss g (slice_set (slice_index_or wss g []) (s * (entry_at es g).size + j) v)

-- the references and the words of a block lie in it
abbrev pub Fit : ℕ → List ℕ → Type 0
Fit size rs = 2 + (refs_in rs + words_in rs) ≤ size

-- every page has its words
abbrev pub Wide : List (List ℕ) → Type 0
Wide wss = (g : ℕ) → g < 64 → length (slice_index_or wss g []) ≡ 256

abbrev pub Fits : List Entry → List (List ℕ) → Type 0
Fits es wss = (g s : ℕ) → g < 64 → has (entry_at es g).occupied s ≡ true → Fit (entry_at es g).size (block_words es wss g s)

-- where the block that a number names lies
pub record Located (es : List Entry) (wss : List (List ℕ)) (n g s : ℕ) : Type 0 where
  pub page : g ≡ page_of n
  pub slot : s ≡ slot_of n
  pub low : g < 64
  pub short : s < 64
  pub on : has (entry_at es g).occupied s ≡ true
  pub room : s * (entry_at es g).size + (entry_at es g).size ≤ 256
  pub fit : Fit (entry_at es g).size (block_words es wss g s)
  pub block : block_at (pages_of es wss) n ≡ Some (block_of (has (entry_at es g).marked s) (block_words es wss g s))

abbrev pub Finds : List Entry → List (List ℕ) → ℕ → Option (ℕ × ℕ) → Type 0
Finds es wss n None = block_at (pages_of es wss) n ≡ None
Finds es wss n (Some p) = Located es wss n p.0 p.1

-- item `i` of the `count` that block `n` has from its word `from` on lies in word `j` of block `s` of page `g`
pub record Lies (es : List Entry) (wss : List (List ℕ)) (n i from count g s j : ℕ) : Type 0 where
  pub located : Located es wss n g s
  pub below : i < count
  pub word : j ≡ from + i
  pub within : j < (entry_at es g).size

-- where reference `f` of the block lies, if it has one
abbrev pub FindsReference : List Entry → List (List ℕ) → ℕ → ℕ → Option (ℕ × ℕ × ℕ) → Type 0
FindsReference es wss n f None = length (refs_of (block_at (pages_of es wss) n)) ≤ f
FindsReference es wss n f (Some p) = Lies es wss n f 2 (refs_in (block_words es wss p.0 p.1)) p.0 p.1 p.2

-- where word `w` of the block lies, if it has one
abbrev pub FindsWord : List Entry → List (List ℕ) → ℕ → ℕ → Option (ℕ × ℕ × ℕ) → Type 0
FindsWord es wss n w None = length (words_of (block_at (pages_of es wss) n)) ≤ w
FindsWord es wss n w (Some p) = Lies es wss n w (2 + refs_in (block_words es wss p.0 p.1)) (words_in (block_words es wss p.0 p.1)) p.0 p.1 p.2

-- the page and the slot that a number names
abbrev pub place : {A : Type 0} → Option A → ℕ → Option (ℕ × ℕ)
place None n = None
place (Some b) n = Some (page_of n, slot_of n)

abbrev pub write_ref_in : List Page → ℕ → ℕ → ℕ → Option Block → List Page
write_ref_in ps n f v None = ps
write_ref_in ps n f v (Some b) = put_block ps n (with_refs b (slice_set b.refs f v))

-- reference `f` of block `n` gets the value `v`, where there is one
abbrev pub write_ref : List Page → ℕ → ℕ → ℕ → List Page
write_ref ps n f v = write_ref_in ps n f v (block_at ps n)

abbrev pub marked_of : Option Block → Bool
marked_of None = false
marked_of (Some b) = b.marked

abbrev pub mark_in : List Page → ℕ → Option Block → List Page
mark_in ps n None = ps
mark_in ps n (Some b) = put_block ps n (marked_block b)

-- the block that `n` names is marked, where there is one
abbrev pub marking : List Page → ℕ → List Page
marking ps n = mark_in ps n (block_at ps n)

abbrev pub forward_in : List Page → ℕ → ℕ → Option Block → List Page
forward_in ps n v None = ps
forward_in ps n v (Some b) = put_block ps n (with_forward b v)

abbrev pub forwarding : List Page → ℕ → ℕ → List Page
forwarding ps n v = forward_in ps n v (block_at ps n)

-- Words that are written.

-- the words of a new block
pub record Cleared (rs : List ℕ) (n shape len : ℕ) : Type 0 where
  pub first : get_or rs 0 0 ≡ n
  pub second : get_or rs 1 0 ≡ shape
  pub rest : (k : ℕ) → 2 ≤ k → k < len → slice_index rs k ≡ 0

-- `vs` is `ws` but for the `len` words from `at` on, which are those of a new block
pub record Written (ws vs : List ℕ) (at n shape len : ℕ) : Type 0 where
  pub long : length vs ≡ length ws
  pub first : get_or vs at 0 ≡ n
  pub second : get_or vs (at + 1) 0 ≡ shape
  pub rest : (k : ℕ) → 2 ≤ k → k < len → slice_index vs (at + k) ≡ 0
  pub other : (i : ℕ) → (i < at) ⊎ (at + len ≤ i) → slice_index vs i ≡ slice_index ws i

-- word `from` of page `g` is the number of a copy, and so is word `to` of page `t`, in whose words `vt` the `len` words from there on
-- are otherwise those from `from` on
pub record Copied (wss vss : List (List ℕ)) (g from t to len n : ℕ) : Type 0 where
  pub vt : List ℕ
  pub pages : vss ≡ slice_set (slice_set wss g (slice_set (slice_index_or wss g []) from n)) t vt
  pub long : length vt ≡ length (slice_index_or wss t [])
  pub first : get_or vt to 0 ≡ n
  pub rest : (k : ℕ) → 1 ≤ k → k < len → slice_index vt (to + k) ≡ slice_index (slice_index_or wss g []) (from + k)
  pub other : (i : ℕ) → (i < to) ⊎ (to + len ≤ i) → slice_index vt i ≡ slice_index (slice_index_or wss t []) i
