-- The order of keys, the place that is first, and the place that is spare. Assumes nothing.
use Rattle.std.specs.Prelude.{◌≡◌, ℕ, suc, ◌<◌, ◌≤◌, Bool, true, false, cond, List, [], ◌∷◌, length, is_some, Some, None, Option, ◌≢◌, nat_lt, slice_index_or}
use Rattle.ranking.specs.Orders.{by_number, then_by, none_last}
use Rattle.holders.specs.declared.key.Key.{Key}

-- by time, then by serial
abbrev pub key_before : Key → Key → Bool
key_before a b = then_by (by_number (λ k. k.time)) (by_number (λ k. k.serial)) a b

-- no key comes after every key
abbrev pub before_key : Option Key → Option Key → Bool
before_key a b = none_last key_before a b

abbrev pub keyed : List (Option Key) → ℕ → Bool
keyed ks p = is_some (slice_index_or ks p None)

-- whether the place p comes before the place q: by its key, then by its number
abbrev pub sooner : List (Option Key) → ℕ → ℕ → Bool
sooner ks p q = then_by (λ p q. before_key (slice_index_or ks p None) (slice_index_or ks q None)) nat_lt p q

-- the keyed place that comes first, the lowest of equals, or the number of places
abbrev pub first_of : List (Option Key) → ℕ
first_of [] = 0
first_of (k ∷ ks) = cond (before_key (slice_index_or ks (first_of ks) None) k) (suc (first_of ks)) (cond (is_some k) 0 (suc (first_of ks)))

-- the lowest place with no key, or the number of places
abbrev pub spare_of : List (Option Key) → ℕ
spare_of [] = 0
spare_of (None ∷ ks) = 0
spare_of (Some k ∷ ks) = suc (spare_of ks)

-- what is first: where any place q is keyed, p is keyed, q does not come before it, and unless q is p it comes before q;
-- where none is keyed, p is the number of places
pub record FirstKeyed (ks : List (Option Key)) (p : ℕ) : Type 0 where
  pub some : (q : ℕ) → keyed ks q ≡ true → (keyed ks p ≡ true) × (sooner ks q p ≡ false) × ((q ≢ p) → sooner ks p q ≡ true)
  pub none : ((q : ℕ) → keyed ks q ≡ false) → p ≡ length ks

-- what is spare: p is not keyed, every lower place is, and p does not pass the number of places
pub record LowestUnkeyed (ks : List (Option Key)) (p : ℕ) : Type 0 where
  pub unkeyed : keyed ks p ≡ false
  pub below : (q : ℕ) → q < p → keyed ks q ≡ true
  pub within : p ≤ length ks
