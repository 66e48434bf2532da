-- What a page's entry and its words stand for.
use Rattle.std.specs.Prelude.{ℕ, ◌*◌, ◌/◌, ◌%◌, Bool, cond, List, map, take, drop, Some, None, Option, slice_index, slice_set}
use Rattle.std.specs.List.{range_with_len}
use Rattle.model.specs.Classes.{blocks}
use Rattle.model.specs.Maps.{has}
use Rattle.model.specs.Pages.{Block, Page, with_slots}

-- the words of block `s`, where blocks have `size` words
abbrev pub region : ℕ → List ℕ → ℕ → List ℕ
region size ws s = take size (drop (s * size) ws)

-- how many references and how many words a block has, by its shape word
abbrev pub refs_in : List ℕ → ℕ
refs_in rs = slice_index rs 1 % 32

abbrev pub words_in : List ℕ → ℕ
words_in rs = slice_index rs 1 / 32

unfoldable pub block_of : Bool → List ℕ → Block
block_of m rs = record {
  forward = slice_index rs 0;
  marked = m;
  refs = take (refs_in rs) (drop 2 rs);
  words = take (words_in rs) (drop (refs_in rs) (drop 2 rs));
}

unfoldable pub slot_view : ℕ → ℕ → ℕ → List ℕ → ℕ → Option Block
slot_view size o m ws s = cond (has o s) (Some (block_of (has m s) (region size ws s))) None

unfoldable pub page_view : ℕ → Bool → ℕ → ℕ → List ℕ → Page
page_view size closed o m ws =
    record { size = size; closed = closed; slots = map (slot_view size o m ws) (range_with_len 0 (blocks size)) }

-- slot `s` of the page holds the block
abbrev pub filled : Page → ℕ → Block → Page
filled p s b = with_slots p (slice_set p.slots s (Some b))
