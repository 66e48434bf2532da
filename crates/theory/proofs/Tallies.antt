-- Sums over a list, in which the place of an element may count.
use Rattle.std.proofs.Common.{◌≡◌, ℕ, zero, suc, ◌+◌, ◌*◌, ◌<◌, ◌≤◌, List, [], ◌∷◌, length, get_or, set, replicate, refl, add-zero, suc-mul, zero-add, arith}

abbrev pub tally : {X : Type 0} → (ℕ → X → ℕ) → ℕ → List X → ℕ
tally f k [] = 0
tally f k (x ∷ xs) = f k x + tally f (suc k) xs

module _ {X : Type 0} (f : ℕ → X → ℕ) where
  set_from : (k : ℕ) (xs : List X) (i : ℕ) (y d : X) → i < length xs → tally f k (set xs i y) + f (k + i) (get_or xs i d) ≡ tally f k xs + f (k + i) y
  set_from k [] i y d h = omega arith
  set_from k (x ∷ xs) zero y d h = rw (add-zero k) (omega arith)
  set_from k (x ∷ xs) (suc i) y d h =
      let e : k + suc i ≡ suc k + i = omega arith in
      rw e (omega (arith, set_from (suc k) xs i y d (omega arith)))

  -- one element changes
  pub tally_set : (xs : List X) (i : ℕ) (y d : X) → i < length xs → tally f 0 (set xs i y) + f i (get_or xs i d) ≡ tally f 0 xs + f i y
  tally_set xs i y d h = rw zero-add at (set_from 0 xs i y d h)

  at_from : (k : ℕ) (xs : List X) (i : ℕ) (d : X) → i < length xs → f (k + i) (get_or xs i d) ≤ tally f k xs
  at_from k [] i d h = omega arith
  at_from k (x ∷ xs) zero d h = rw (add-zero k) (omega arith)
  at_from k (x ∷ xs) (suc i) d h =
      let e : k + suc i ≡ suc k + i = omega arith in
      rw e (omega (arith, at_from (suc k) xs i d (omega arith)))

  -- one element is no more than all
  pub at_le_tally : (xs : List X) (i : ℕ) (d : X) → i < length xs → f i (get_or xs i d) ≤ tally f 0 xs
  at_le_tally xs i d h = rw zero-add at (at_from 0 xs i d h)

  pub tally_none : (y : X) → ((i : ℕ) → f i y ≡ 0) → (k n : ℕ) → tally f k (replicate n y) ≡ 0
  tally_none y h k zero = refl
  tally_none y h k (suc n) = omega (arith, h k, tally_none y h (suc k) n)

module _ {X : Type 0} (f g : ℕ → X → ℕ) where
  -- less at each element is less in all
  pub tally_mono : ((i : ℕ) (x : X) → f i x ≤ g i x) → (k : ℕ) (xs : List X) → tally f k xs ≤ tally g k xs
  tally_mono h k [] = omega arith
  tally_mono h k (x ∷ xs) = omega (arith, h k x, tally_mono h (suc k) xs)

  below_from : (d : X) (k : ℕ) (xs ys : List X) → length xs ≡ length ys
      → ((i : ℕ) → i < length xs → f (k + i) (get_or xs i d) ≤ g (k + i) (get_or ys i d)) → tally f k xs ≤ tally g k ys
  below_from d k [] [] e h = omega arith
  below_from d k [] (y ∷ ys) e h = omega arith
  below_from d k (x ∷ xs) [] e h = omega arith
  below_from d k (x ∷ xs) (y ∷ ys) e h =
      let here : f k x ≤ g k y = rw (add-zero k) at (h 0 (omega arith)) in
      let there : tally f (suc k) xs ≤ tally g (suc k) ys =
      below_from d (suc k) xs ys (omega arith) (λ i l. let e' : k + suc i ≡ suc k + i = omega arith in rw e' at (h (suc i) (omega arith))) in
      omega arith

  -- less at each place is less in all, for two lists of one length
  pub tally_below : (d : X) (xs ys : List X) → length xs ≡ length ys → ((i : ℕ) → i < length xs → f i (get_or xs i d) ≤ g i (get_or ys i d))
      → tally f 0 xs ≤ tally g 0 ys
  tally_below d xs ys e h = below_from d 0 xs ys e (λ i l. rw zero-add (h i l))

pub tally_const : {X : Type 0} (m k : ℕ) (xs : List X) → tally (λ i x. m) k xs ≡ length xs * m
tally_const m k [] = omega arith
tally_const m k (x ∷ xs) = rw suc-mul (omega (arith, tally_const m (suc k) xs))
