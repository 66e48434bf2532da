-- Lists and options: what the shelf lacks.
use Rattle.std.proofs.Common.{◌≡◌, ℕ, zero, suc, ◌-◌, ◌<◌, ◌≤◌, Bool, true, ◌&&◌, ◌⊎◌, List, [], ◌∷◌, map, length, get_or, drop, set, replicate, Some, None, Option, sym, refl, ap, ◌∙◌, subst, ap₂, inl, inr, ⊎_elim, arith, drop-cons}
use Rattle.std.proofs.lemmas.List.{drop_all, get_or-map, get_or_past, get_or-set_other, get_or-set_same, length-map, length-set}
use Rattle.std.proofs.lemmas.Bool.{and_parts, cases_eq, cases_lt}
use Rattle.holders.specs.declared.key.Key.{Key}
use Rattle.model.specs.Pages.{lowest_free, occupied}
use Rattle.model.specs.Graph.{Member, here, there}

-- Options, and places of a list that hold one.

pub none_some : {A : Type 0} {P : Type 0} (a : A) → None ≡ Some a → P
none_some a e = cc

pub some_same : {A : Type 0} {x : Option A} {a b : A} → x ≡ Some a → x ≡ Some b → a ≡ b
some_same p q = cc

pub some_in : {A : Type 0} (xs : List (Option A)) (i : ℕ) (a : A) → get_or xs i None ≡ Some a → i < length xs
some_in xs i a h = ⊎_elim (λ l. l) (λ l. none_some a (sym (get_or_past xs i None l) ∙ h)) (cases_lt i (length xs))

pub set_cases : (ks : List (Option Key)) (i j : ℕ) (x y : Option Key) → i < length ks → get_or (set ks i x) j None ≡ y
    → ((j ≡ i) × (x ≡ y)) ⊎ ((j ≡ i → ⊥) × (get_or ks j None ≡ y))
set_cases ks i j x y l e =
    ⊎_elim
    (λ (q : j ≡ i). inl (q, sym (get_or-set_same ks i x None l) ∙ sym (ap (λ k. get_or (set ks i x) k None) q) ∙ e))
    (λ (q : j ≡ i → ⊥). inr (q, sym (get_or-set_other ks i j x None q) ∙ e))
    (cases_eq j i)

-- A number in a list, with its place.

pub record In (xs : List ℕ) (r : ℕ) : Type 0 where
  pub at : ℕ
  pub inside : at < length xs
  pub is : get_or xs at 0 ≡ r

pub in_head : (x : ℕ) (xs : List ℕ) → In (x ∷ xs) x
in_head x xs = record { at = 0; inside = omega arith; is = refl }

pub in_tail : {r : ℕ} (x : ℕ) (xs : List ℕ) → In xs r → In (x ∷ xs) r
in_tail x xs i = record { at = suc i.at; inside = omega arith; is = i.is }

pub in_none : {P : Type 0} {r : ℕ} → In [] r → P
in_none i = absurd (omega arith)

pub in_cons : {r : ℕ} (x : ℕ) (xs : List ℕ) → In (x ∷ xs) r → (x ≡ r) ⊎ In xs r
in_cons {r} x xs i = go i.at i.inside i.is
  where
    go : (k : ℕ) → k < length (x ∷ xs) → get_or (x ∷ xs) k 0 ≡ r → (x ≡ r) ⊎ In xs r
    go zero l e = inl e
    go (suc k) l e = inr (record { at = k; inside = omega arith; is = e })

pub in_set : {r : ℕ} (xs : List ℕ) (f v : ℕ) → In xs r → In (set xs f v) r ⊎ (get_or xs f 0 ≡ r)
in_set {r} xs f v i =
    ⊎_elim
    (λ (e : i.at ≡ f). inr (sym (ap (λ k. get_or xs k 0) e) ∙ i.is))
    (λ (d : i.at ≡ f → ⊥). inl (record {
      at = i.at;
      inside = rw (length-set xs f v) i.inside;
      is = get_or-set_other xs f i.at v 0 d ∙ i.is;
    }))
    (cases_eq i.at f)

pub in_set_same : (xs : List ℕ) (f v : ℕ) → f < length xs → In (set xs f v) v
in_set_same xs f v h = record { at = f; inside = rw (length-set xs f v) h; is = get_or-set_same xs f v 0 h }

pub in_set_back : {r : ℕ} (xs : List ℕ) (p v : ℕ) → In (set xs p v) r → (v ≡ r) ⊎ In xs r
in_set_back {r} xs p v i =
    let l : i.at < length xs = rw (length-set xs p v) at i.inside in
    ⊎_elim
    (λ (e : i.at ≡ p). inl (sym (ap (λ j. get_or (set xs p v) j 0) e ∙ get_or-set_same xs p v 0 (subst (λ j. j < length xs) e l)) ∙ i.is))
    (λ (d : i.at ≡ p → ⊥). inr (record { at = i.at; inside = l; is = sym (get_or-set_other xs p i.at v 0 d) ∙ i.is }))
    (cases_eq i.at p)

pub in_map : {r : ℕ} (f : ℕ → ℕ) (xs : List ℕ) → In xs r → In (map f xs) (f r)
in_map f xs i = record { at = i.at; inside = rw (length-map xs f) i.inside; is = get_or-map f xs i.at 0 0 i.inside ∙ ap f i.is }

pub in_map_back : {y : ℕ} (f : ℕ → ℕ) (xs : List ℕ) → In (map f xs) y → (r : ℕ) × In xs r × (f r ≡ y)
in_map_back f xs i =
    let l : i.at < length xs = rw (length-map xs f) at i.inside in
    (get_or xs i.at 0, record { at = i.at; inside = l; is = refl }, sym (get_or-map f xs i.at 0 0 l) ∙ i.is)

-- Membership, and places.

pub at_member : (xs : List ℕ) (k : ℕ) → k < length xs → Member (get_or xs k 0) xs
at_member [] k l = absurd (omega arith)
at_member (x ∷ xs) zero l = here
at_member (x ∷ xs) (suc k) l = there (at_member xs k (omega arith))

pub in_member : {r : ℕ} (xs : List ℕ) → In xs r → Member r xs
in_member xs i = subst (λ y. Member y xs) i.is (at_member xs i.at i.inside)

pub member_in : {r : ℕ} {xs : List ℕ} → Member r xs → In xs r
member_in here = record { at = 0; inside = omega arith; is = refl }
member_in (there m) = let i = member_in m in record { at = suc i.at; inside = omega (arith, i.inside); is = i.is }

-- A function over a list.

pub map_same : {f g : ℕ → ℕ} (xs : List ℕ) → ((r : ℕ) → In xs r → f r ≡ g r) → map f xs ≡ map g xs
map_same [] h = refl
map_same {f} {g} (x ∷ xs) h =
    ap₂ (λ (y : ℕ) (ys : List ℕ). y ∷ ys) (h x (record { at = 0; inside = omega arith; is = refl }))
    (map_same xs (λ r i. h r (record { at = suc i.at; inside = omega arith; is = i.is })))

-- Lists of one value.

pub replicate_at : {A : Type 0} (k i : ℕ) (x : A) → get_or (replicate k x) i x ≡ x
replicate_at zero i x = refl
replicate_at (suc k) zero x = refl
replicate_at (suc k) (suc i) x = replicate_at k i x

pub zeros : (f : ℕ → ℕ) (k : ℕ) → f 0 ≡ 0 → map f (replicate k 0) ≡ replicate k 0
zeros f zero e = refl
zeros f (suc k) e = ap₂ (λ (y : ℕ) (ys : List ℕ). y ∷ ys) e (zeros f k e)

pub in_zeros : (k r : ℕ) → In (replicate k 0) r → r ≡ 0
in_zeros k r i = sym i.is ∙ replicate_at k i.at 0

-- What is left of a list from a place on.

pub drop_front : (xs ys : List ℕ) (f r : ℕ) → r ∷ ys ≡ drop f xs → (f < length xs) × (get_or xs f 0 ≡ r) × (ys ≡ drop (suc f) xs)
drop_front xs ys f r e =
    ⊎_elim
    (λ (h : f < length xs). let d = drop-cons xs f 0 h in (h, cc, cc))
    (λ (h : length xs ≤ f). let d = drop_all f xs h in cc)
    (cases_lt f (length xs))

pub drop_none : (xs : List ℕ) (f : ℕ) → [] ≡ drop f xs → length xs ≤ f
drop_none xs f e =
    ⊎_elim
    (λ (h : f < length xs). let d = drop-cons xs f 0 h in cc)
    (λ h. h)
    (cases_lt f (length xs))

-- Slots: the lowest that is free, and how many are occupied.

pub lowest_in : {A : Type 0} (xs : List (Option A)) → 0 < length xs - occupied xs → lowest_free xs < length xs
lowest_in [] h = absurd (omega arith)
lowest_in (None ∷ s) h = omega arith
lowest_in (Some b ∷ s) h = let k = lowest_in s (omega arith) in omega arith

pub lowest_none : {A : Type 0} (xs : List (Option A)) → get_or xs (lowest_free xs) None ≡ None
lowest_none [] = refl
lowest_none (None ∷ s) = refl
lowest_none (Some b ∷ s) = lowest_none s

pub lowest_replicate : (A : Type 0) (k : ℕ) → lowest_free (replicate {A = Option A} k None) ≡ 0
lowest_replicate A zero = refl
lowest_replicate A (suc k) = refl

pub occupied_none : {A : Type 0} (xs : List (Option A)) (i : ℕ) → occupied xs ≡ 0 → get_or xs i None ≡ None
occupied_none [] i e = refl
occupied_none (None ∷ s) zero e = refl
occupied_none (None ∷ s) (suc i) e = occupied_none s i e
occupied_none (Some b ∷ s) i e = absurd (omega arith)

pub occupied_fill : {A : Type 0} (xs : List (Option A)) (i : ℕ) (x : A) → i < length xs → get_or xs i None ≡ None
    → occupied (set xs i (Some x)) ≡ suc (occupied xs)
occupied_fill [] i x l e = absurd (omega arith)
occupied_fill (None ∷ xs) zero x l e = refl
occupied_fill (Some y ∷ xs) zero x l e = none_some y (sym e)
occupied_fill (None ∷ xs) (suc i) x l e = occupied_fill xs i x (omega arith) e
occupied_fill (Some y ∷ xs) (suc i) x l e = ap suc (occupied_fill xs i x (omega arith) e)

pub occupied_drop : {A : Type 0} (xs : List (Option A)) (i : ℕ) (x : A) → get_or xs i None ≡ Some x → occupied xs ≡ suc (occupied (set xs i None))
occupied_drop [] i x e = none_some x e
occupied_drop (None ∷ xs) zero x e = none_some x e
occupied_drop (Some y ∷ xs) zero x e = refl
occupied_drop (None ∷ xs) (suc i) x e = occupied_drop xs i x e
occupied_drop (Some y ∷ xs) (suc i) x e = ap suc (occupied_drop xs i x e)

pub occupied_some : {A : Type 0} (xs : List (Option A)) → 0 < occupied xs → (i : ℕ) × ((a : A) × (get_or xs i None ≡ Some a))
occupied_some [] l = absurd (omega arith)
occupied_some (Some y ∷ xs) l = (0, (y, refl))
occupied_some (None ∷ xs) l = let z = occupied_some xs l in (suc z.0, z.1)

pub occupied_most : {A : Type 0} (xs : List (Option A)) → occupied xs ≤ length xs
occupied_most [] = omega arith
occupied_most (None ∷ xs) = let l = occupied_most xs in omega arith
occupied_most (Some x ∷ xs) = let l = occupied_most xs in omega arith

-- A test of all numbers below another, by computation.

abbrev pub below : (ℕ → Bool) → ℕ → Bool
below t zero = true
below t (suc n) = t n && below t n

pub below_at : (t : ℕ → Bool) (n k : ℕ) → below t n ≡ true → k < n → t k ≡ true
below_at t zero k e h = absurd (omega arith)
below_at t (suc n) k e h =
    let a = and_parts _ _ e in
    ⊎_elim (λ (f : k ≡ n). subst (λ j. t j ≡ true) (sym f) a.0) (λ (d : k ≡ n → ⊥). below_at t n k a.1 (omega arith)) (cases_eq k n)
