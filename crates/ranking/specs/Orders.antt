-- Orders made of orders, and the place of the least item of a row. Assumes nothing.
use Rattle.std.specs.Prelude.{◌≡◌, ℕ, suc, ◌<◌, Bool, true, false, cond, List, [], ◌∷◌, length, Some, None, Option, ◌≢◌, nat_lt, slice_index_or}

-- the lesser number comes first
abbrev pub by_number : {A : Type 0} → (A → ℕ) → A → A → Bool
by_number number x y = nat_lt (number x) (number y)

-- by the first order, and by the second where the first does not tell
abbrev pub then_by : {A : Type 0} → (A → A → Bool) → (A → A → Bool) → A → A → Bool
then_by first second x y = cond (first x y) true (cond (first y x) false (second x y))

-- none comes after every item
abbrev pub none_last : {A : Type 0} → (A → A → Bool) → Option A → Option A → Bool
none_last before None y = false
none_last before (Some x) None = true
none_last before (Some x) (Some y) = before x y

-- the place of the least of `x ∷ xs`, the lowest of equals
abbrev pub least_place : {A : Type 0} → (A → A → Bool) → A → List A → ℕ
least_place before x [] = 0
least_place before x (y ∷ ys) =
    cond (before (slice_index_or (y ∷ ys) (least_place before y ys) y) x) (suc (least_place before y ys)) 0

-- the place of the least item, if there is one
abbrev pub least_of : {A : Type 0} → (A → A → Bool) → List A → Option ℕ
least_of before [] = None
least_of before (x ∷ xs) = Some (least_place before x xs)

-- b is a place of the row, its item comes before every different item, and its equals stand after it
pub record Least {A : Type 0} (before : A → A → Bool) (xs : List A) (b : ℕ) : Type 0 where
  pub within : b < length xs
  pub first : (k : ℕ) (d : A) → k < length xs → (slice_index_or xs k d ≢ slice_index_or xs b d) → before (slice_index_or xs b d) (slice_index_or xs k d) ≡ true
  pub lowest : (k : ℕ) (d : A) → k < b → slice_index_or xs k d ≢ slice_index_or xs b d
