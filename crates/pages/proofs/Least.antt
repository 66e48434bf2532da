-- The least page by a figure: it is found, it is least, and the least candidate of a row is that page.
use Rattle.std.proofs.Common.{◌≡◌, ℕ, zero, suc, ◌+◌, ◌<◌, ◌≤◌, Bool, true, false, cond, ltb, leb, List, [], ◌∷◌, map, length, get_or, Some, None, Option, sym, refl, ap, ◌∙◌, subst, ap₂, inl, inr, arith}
use Rattle.std.specs.List.{range_with_len}
use Rattle.std.proofs.lemmas.List.{get_or_default}
use Rattle.std.proofs.lemmas.List.FromFn.{length-map-range_with_len, get_or-map-range_with_len}
use Rattle.std.proofs.lemmas.Bool.{cases_Bool, cases_lt, both_ways, leb-true, leb-false, lt-leb, le-leb, ltb-true, ltb-false, le-ltb}
use Rattle.ranking.specs.declared.candidate.Candidate.{Candidate}
use Rattle.ranking.specs.Orders.{none_last, least_place}
use Rattle.ranking.specs.Candidates.{candidate_before}
use Rattle.ranking.proofs.Leasts.{least_within}
use Rattle.model.specs.Pages.{Page, uncut, page_at}
use Rattle.model.specs.Units.{lesser, least_page}
use Rattle.pages.specs.Choices.{candidate_at, pair_of, least_candidate, least_figure, Before}

no_some : {A : Type 0} {B : Type 0} (x : A) → ◌≡◌ {A = Option A} None (Some x) → B
no_some x e = let z : ◌≡◌ {A = ℕ} 0 1 = cc in absurd (omega arith)

module _ (f : ℕ → Page → Bool) (m : Page → ℕ) where
  abbrev found : ℕ → List Page → ℕ × ℕ → Type 0
  found a ps x = (k : ℕ) × (x.1 ≡ a + k) × (k < length ps) × (f (a + k) (get_or ps k uncut) ≡ true) × (x.0 ≡ m (get_or ps k uncut))

  -- one page further
  later : (a : ℕ) (p : Page) (ps : List Page) (x : ℕ × ℕ) → found (suc a) ps x → found a (p ∷ ps) x
  later a p ps x i =
      let u = i.1 in
      let v = i.2 in
      let z : a + suc i.0 ≡ suc a + i.0 = omega arith in
      (suc i.0, omega arith, omega arith, ap (λ (y : ℕ). f y (get_or ps i.0 uncut)) z ∙ i.3, i.4)

  here : (a : ℕ) (p : Page) (ps : List Page) (x : ℕ × ℕ) → f a p ≡ true → (m p, a) ≡ x → found a (p ∷ ps) x
  here a p ps x t r =
      let s : a ≡ x.1 = ap (λ (y : ℕ × ℕ). y.1) r in
      let z : a + 0 ≡ a = omega arith in
      (0, omega arith, omega arith, ap (λ (y : ℕ). f y p) z ∙ t, sym (ap (λ (y : ℕ × ℕ). y.0) r))

  least_at : (a : ℕ) (ps : List Page) (x : ℕ × ℕ) → least_page f m a ps ≡ Some x → found a ps x
  least_at a [] x e = no_some x e
  least_at a (p ∷ ps) x e = go (λ y q. least_at (suc a) ps y q) (f a p) refl (least_page f m (suc a) ps) refl e
    where
      go : ((y : ℕ × ℕ) → least_page f m (suc a) ps ≡ Some y → found (suc a) ps y) → (t : Bool) → f a p ≡ t → (o : Option (ℕ × ℕ)) → least_page f m (suc a) ps ≡ o
          → lesser (cond t (Some (m p, a)) None) o ≡ Some x → found a (p ∷ ps) x
      go rest true t None o q = here a p ps x t (cc)
      go rest true t (Some y) o q = by (leb (m p) y.0) q
        where
          by : (b : Bool) → cond b (Some (m p, a)) (Some y) ≡ Some x → found a (p ∷ ps) x
          by true r = here a p ps x t (cc)
          by false r = later a p ps x (rest x (o ∙ r))
      go rest false t o w q = later a p ps x (rest x (w ∙ q))

  pub least_found : (ps : List Page) (x : ℕ × ℕ) → least_page f m 0 ps ≡ Some x → (x.1 < length ps) × (f x.1 (page_at ps x.1) ≡ true) × (x.0 ≡ m (page_at ps x.1))
  least_found ps x e =
      let i = least_at 0 ps x e in
      let u = i.1 in
      let v = i.2 in
      let q : x.1 ≡ i.0 = omega arith in
      (omega arith, ap₂ (λ (y k : ℕ). f y (get_or ps k uncut)) u q ∙ i.3, i.4 ∙ sym (ap (λ (k : ℕ). m (get_or ps k uncut)) q))

  pub least_none : (a : ℕ) (ps : List Page) → least_page f m a ps ≡ None → (k : ℕ) → k < length ps → f (a + k) (get_or ps k uncut) ≡ false
  least_none a [] e k l = absurd (omega arith)
  least_none a (p ∷ ps) e k l = go (λ q. least_none (suc a) ps q) (f a p) refl (least_page f m (suc a) ps) refl e k l
    where
      go : (least_page f m (suc a) ps ≡ None → (k : ℕ) → k < length ps → f (suc a + k) (get_or ps k uncut) ≡ false) → (t : Bool) → f a p ≡ t → (o : Option (ℕ × ℕ))
          → least_page f m (suc a) ps ≡ o → lesser (cond t (Some (m p, a)) None) o ≡ None → (k : ℕ) → k < length (p ∷ ps) → f (a + k) (get_or (p ∷ ps) k uncut) ≡ false
      go rest true t None o q k l = no_some (m p, a) (sym q)
      go rest true t (Some y) o q k l = by (leb (m p) y.0) q
        where
          by : (b : Bool) → cond b (Some (m p, a)) (Some y) ≡ None → f (a + k) (get_or (p ∷ ps) k uncut) ≡ false
          by true r = no_some (m p, a) (sym r)
          by false r = no_some y (sym r)
      go rest false t o w q zero l = let z : a + 0 ≡ a = omega arith in ap (λ (y : ℕ). f y p) z ∙ t
      go rest false t o w q (suc k) l =
          let z : a + suc k ≡ suc a + k = omega arith in ap (λ (y : ℕ). f y (get_or ps k uncut)) z ∙ rest (w ∙ q) k (omega arith)

  abbrev best : ℕ → List Page → ℕ × ℕ → Type 0
  best a ps x = (k : ℕ) → k < length ps → f (a + k) (get_or ps k uncut) ≡ true → Before x.0 x.1 (m (get_or ps k uncut)) (a + k)

  least_best : (a : ℕ) (ps : List Page) (x : ℕ × ℕ) → least_page f m a ps ≡ Some x → best a ps x
  least_best a [] x e k l t = absurd (omega arith)
  least_best a (p ∷ ps) x e k l s = go (λ y q. least_best (suc a) ps y q) (f a p) refl (least_page f m (suc a) ps) refl e k l s
    where
      -- the figure at hand, and one that is no less
      first_is : (r : (m p, a) ≡ x) → (v i : ℕ) → m p ≤ v → a ≤ i → Before x.0 x.1 v i
      first_is r v i l h =
          let y : m p ≡ x.0 = ap (λ (y : ℕ × ℕ). y.0) r in
          let z : a ≡ x.1 = ap (λ (y : ℕ × ℕ). y.1) r in
          elim (cases_lt (m p) v) [ inl q ↦ inl (omega arith) | inr q ↦ inr (omega arith, omega arith) ]

      at_zero : (B : Type 0) → f a p ≡ false → f (a + 0) p ≡ true → B
      at_zero B t s = let z : a + 0 ≡ a = omega arith in absurd (both_ways (f a p) t (sym (ap (λ (y : ℕ). f y p) z) ∙ s))

      after : (k : ℕ) → f (a + suc k) (get_or ps k uncut) ≡ true → f (suc a + k) (get_or ps k uncut) ≡ true
      after k s = let z : suc a + k ≡ a + suc k = omega arith in ap (λ (y : ℕ). f y (get_or ps k uncut)) z ∙ s

      shift : (v i k : ℕ) (y : ℕ × ℕ) → Before y.0 y.1 v (suc a + k) → Before y.0 y.1 v (a + suc k)
      shift v i k y (inl l) = inl l
      shift v i k y (inr h) = let q = h.1 in inr (h.0, omega arith)

      least : (y : ℕ × ℕ) (v i : ℕ) → Before y.0 y.1 v i → y.0 ≤ v
      least y v i (inl l) = omega arith
      least y v i (inr h) = let q = h.0 in omega arith

      go : ((y : ℕ × ℕ) → least_page f m (suc a) ps ≡ Some y → best (suc a) ps y) → (t : Bool) → f a p ≡ t → (o : Option (ℕ × ℕ)) → least_page f m (suc a) ps ≡ o
          → lesser (cond t (Some (m p, a)) None) o ≡ Some x → best a (p ∷ ps) x
      go rest true t None o q zero l s = first_is (cc) (m p) (a + 0) (omega arith) (omega arith)
      go rest true t None o q (suc k) l s =
          absurd (both_ways (f (suc a + k) (get_or ps k uncut)) (least_none (suc a) ps o k (omega arith)) (after k s))
      go rest true t (Some y) o q k l s = by (leb (m p) y.0) refl q k l s
        where
          by : (b : Bool) → leb (m p) y.0 ≡ b → cond b (Some (m p, a)) (Some y) ≡ Some x → best a (p ∷ ps) x
          by true b r zero l s = first_is (cc) (m p) (a + 0) (omega arith) (omega arith)
          by true b r (suc k) l s =
              let w = least y (m (get_or ps k uncut)) (suc a + k) (rest y o k (omega arith) (after k s)) in
              let u = leb-true (m p) y.0 b in
              first_is (cc) (m (get_or ps k uncut)) (a + suc k) (omega arith) (omega arith)
          by false b r zero l s =
              let u = leb-false (m p) y.0 b in
              let is : y ≡ x = cc in
              let z : y.0 ≡ x.0 = ap (λ (y : ℕ × ℕ). y.0) is in
              inl (omega arith)
          by false b r (suc k) l s = shift (m (get_or ps k uncut)) 0 k x (rest x (o ∙ r) k (omega arith) (after k s))
      go rest false t o w q zero l s = at_zero (Before x.0 x.1 (m p) (a + 0)) t s
      go rest false t o w q (suc k) l s = shift (m (get_or ps k uncut)) 0 k x (rest x (w ∙ q) k (omega arith) (after k s))

  pub least_first : (ps : List Page) (x : ℕ × ℕ) → least_page f m 0 ps ≡ Some x → (h : ℕ) → h < length ps → f h (page_at ps h) ≡ true
      → Before x.0 x.1 (m (page_at ps h)) h
  least_first ps x e h l s =
      let z : 0 + h ≡ h = omega arith in
      let P : ℕ → Type 0 = λ i. Before x.0 x.1 (m (page_at ps h)) i in
      subst P z (least_best 0 ps x e h l (ap (λ (i : ℕ). f i (page_at ps h)) z ∙ s))

-- ---- the least candidate

-- the second of two candidates, or the first
abbrev either_of : Candidate → Candidate → Bool → Option (ℕ × ℕ)
either_of c d t = cond t (pair_of (Some d)) (pair_of (Some c))

first_of_two : (c d : Candidate) (t : Bool) → either_of c d (cond t false false) ≡ pair_of (Some c)
first_of_two c d true = refl
first_of_two c d false = refl

-- of two candidates, the first with the lower number
joined : (x j : Option Candidate) → ((c d : Candidate) → x ≡ Some c → j ≡ Some d → c.number < d.number)
    → cond (none_last candidate_before j x) (pair_of j) (pair_of x) ≡ lesser (pair_of x) (pair_of j)
joined None None h = refl
joined None (Some d) h = refl
joined (Some c) None h = refl
joined (Some c) (Some d) h =
    elim (cases_Bool (ltb d.figure c.figure)) [
      | inl e ↦ ap (λ (t : Bool). either_of c d (cond t true (cond (ltb c.figure d.figure) false (ltb d.number c.number)))) e
          ∙ sym (ap (either_of d c) (lt-leb c.figure d.figure (ltb-true d.figure c.figure e)))
      | inr e ↦ ap (λ (t : Bool). either_of c d (cond t true (cond (ltb c.figure d.figure) false (ltb d.number c.number)))) e
          ∙ ap (λ (t : Bool). either_of c d (cond (ltb c.figure d.figure) false t)) (let l = h c d refl refl in le-ltb d.number c.number (omega arith))
          ∙ first_of_two c d (ltb c.figure d.figure)
          ∙ sym (ap (either_of d c) (le-leb c.figure d.figure (ltb-false d.figure c.figure e)))
    ]

-- a page that counts is a candidate by its figure
abbrev candidate_of : Bool → ℕ → ℕ → Option Candidate
candidate_of counts figure page = cond counts (Some (record { figure = figure; number = page })) None

pair_is : (t : Bool) (v a : ℕ) → pair_of (candidate_of t v a) ≡ cond t (Some (v, a)) None
pair_is true v a = refl
pair_is false v a = refl

pub number_is : (t : Bool) (v a : ℕ) (c : Candidate) → candidate_of t v a ≡ Some c → c.number ≡ a
number_is true v a c e =
    let F : Option Candidate → ℕ = number_or in sym (ap F e)
  where
    number_or : Option Candidate → ℕ
    number_or None = 0
    number_or (Some c) = c.number
number_is false v a c e = no_some c e

module _ (f : ℕ → Page → Bool) (m : Page → ℕ) where
  abbrev fills : ℕ → List Page → List (Option Candidate) → Type 0
  fills a ps row = (k : ℕ) → k < length ps → get_or row k None ≡ candidate_of (f (a + k) (get_or ps k uncut)) (m (get_or ps k uncut)) (a + k)

  abbrev order : Option Candidate → Option Candidate → Bool
  order = none_last candidate_before

  row_is : (a : ℕ) (p : Page) (ps : List Page) (x : Option Candidate) (xs : List (Option Candidate)) → length xs ≡ length ps → fills a (p ∷ ps) (x ∷ xs)
      → pair_of (get_or (x ∷ xs) (least_place order x xs) None) ≡ least_page f m a (p ∷ ps)
  row_is a p [] x [] n h =
      let z : a + 0 ≡ a = omega arith in
      ap pair_of (h 0 (omega arith)) ∙ pair_is (f (a + 0) p) (m p) (a + 0)
      ∙ ap (λ (i : ℕ). cond (f i p) (Some (m p, i)) None) z ∙ sym (none_right (cond (f a p) (Some (m p, a)) None))
    where
      none_right : (o : Option (ℕ × ℕ)) → lesser o None ≡ o
      none_right None = refl
      none_right (Some y) = refl
  row_is a p [] x (y ∷ ys) n h = absurd (omega arith)
  row_is a p (q ∷ qs) x [] n h = absurd (omega arith)
  row_is a p (q ∷ qs) x (y ∷ ys) n h =
      let L : ℕ = least_place order y ys in
      let j : Option Candidate = get_or (y ∷ ys) L None in
      let z : a + 0 ≡ a = omega arith in
      let rest : fills (suc a) (q ∷ qs) (y ∷ ys) =
      λ k l. h (suc k) (omega arith) ∙ (let w : a + suc k ≡ suc a + k = omega arith in ap (λ (i : ℕ). candidate_of (f i (get_or (q ∷ qs) k uncut)) (m (get_or (q ∷ qs) k uncut)) i) w) in
      let ih : pair_of j ≡ least_page f m (suc a) (q ∷ qs) = row_is (suc a) q qs y ys (omega arith) rest in
      let same : get_or (y ∷ ys) L y ≡ j = get_or_default (y ∷ ys) L y None (least_within order y ys) in
      let first : x ≡ candidate_of (f a p) (m p) a = h 0 (omega arith) ∙ ap (λ (i : ℕ). candidate_of (f i p) (m p) i) z in
      ap (λ (o : Option Candidate). pair_of (get_or (x ∷ y ∷ ys) (cond (order o x) (suc L) 0) None)) same
      ∙ pick (order j x)
      ∙ joined x j
      (λ c d cx dj.
      let u = number_is (f a p) (m p) a c (sym first ∙ cx) in
      let i = least_at f m (suc a) (q ∷ qs) (d.figure, d.number) (sym ih ∙ ap pair_of dj) in
      let v = i.1 in
      omega arith)
      ∙ ap₂ lesser (ap pair_of first ∙ pair_is (f a p) (m p) a) ih
    where
      pick : (b : Bool) → pair_of (get_or (x ∷ y ∷ ys) (cond b (suc (least_place order y ys)) 0) None) ≡ cond b (pair_of (get_or (y ∷ ys) (least_place order y ys) None)) (pair_of x)
      pick true = refl
      pick false = refl

  row_all : (ps : List Page) (row : List (Option Candidate)) → length row ≡ length ps → fills 0 ps row → least_candidate row ≡ least_page f m 0 ps
  row_all [] [] n h = refl
  row_all [] (x ∷ xs) n h = absurd (omega arith)
  row_all (p ∷ ps) [] n h = absurd (omega arith)
  row_all (p ∷ ps) (x ∷ xs) n h = row_is 0 p ps x xs (omega arith) h

  pub least_row : (ps : List Page) (row : List (Option Candidate)) → length row ≡ length ps
      → ((k : ℕ) → k < length ps → get_or row k None ≡ candidate_of (f k (page_at ps k)) (m (page_at ps k)) k) → least_candidate row ≡ least_page f m 0 ps
  least_row ps row n h =
      row_all ps row n
      (λ k l. let z : k ≡ 0 + k = omega arith in h k l ∙ ap (λ (i : ℕ). candidate_of (f i (page_at ps k)) (m (page_at ps k)) i) z)

  -- the least page by the figures of the pages that pass
  pub least_figures : (ps : List Page) (h : ℕ → Option ℕ) → length ps ≡ 64
      → ((k : ℕ) → k < 64 → h k ≡ cond (f k (page_at ps k)) (Some (m (page_at ps k))) None) → least_figure h ≡ least_page f m 0 ps
  least_figures ps h n is =
      let row : List (Option Candidate) = map (λ k. candidate_at (h k) k) (range_with_len 0 64) in
      let long : length row ≡ 64 = length-map-range_with_len (λ k. candidate_at (h k) k) 0 64 in
      least_row ps row (long ∙ sym n)
      (λ k l.
      get_or-map-range_with_len (λ k. candidate_at (h k) k) 0 64 k k None (omega arith) (omega arith)
      ∙ ap (λ (o : Option ℕ). candidate_at o k) (is k (omega arith)) ∙ counted (f k (page_at ps k)) (m (page_at ps k)) k)
    where
      counted : (t : Bool) (v k : ℕ) → candidate_at (cond t (Some v) None) k ≡ candidate_of t v k
      counted true v k = refl
      counted false v k = refl
