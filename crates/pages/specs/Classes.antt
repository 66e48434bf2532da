-- The table of the size classes.
use Rattle.std.specs.Prelude.{◌≡◌, ℕ, ◌<◌, ◌≤◌, true, cond, length, Some, None, Option, ◌==◌, nat_lt, slice_index, slice_index_or}
use Rattle.model.specs.Classes.{sizes, blocks, by_rule, fitting}
use Rattle.pages.specs.declared.class.Class.{Class}

abbrev pub class_numbered : ℕ → Option Class
class_numbered k = cond (nat_lt k 20) (Some (record { size = slice_index sizes k; blocks = blocks (slice_index sizes k) })) None

-- the smallest size that holds the words, if there is one
abbrev pub size_for : ℕ → Option ℕ
size_for words = cond (fitting words == 0) None (Some (fitting words))

-- the first size is 4, each next one follows by the rule, the last is 32, and there are twenty
pub record Ruled : Type 0 where
  pub first : slice_index_or sizes 0 0 ≡ 4
  pub steps : by_rule sizes ≡ true
  pub twenty : length sizes ≡ 20

-- a size of the table that holds the words, and no smaller one of the table does; 0 where none does
pub record Smallest (words size : ℕ) : Type 0 where
  pub listed : 0 < size → (k : ℕ) × (k < 20) × (slice_index sizes k ≡ size)
  pub holds : 0 < size → words ≤ size
  pub least : (k : ℕ) → k < 20 → words ≤ slice_index sizes k → (0 < size) × (size ≤ slice_index sizes k)
