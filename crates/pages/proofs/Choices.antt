-- The choices obey their laws.
use Rattle.std.proofs.Common.{◌≡◌, ℕ, zero, suc, ◌+◌, ◌<◌, Bool, true, false, cond, not, ◌&&◌, eqb, ltb, leb, List, [], ◌∷◌, length, get_or, Some, None, Option, sym, refl, ap, ◌∙◌, subst, inl, inr, arith}
use Rattle.std.proofs.lemmas.Bool.{and_parts, and_from, both_ways, eqb-true, eq-eqb, ltb-true, lt-ltb}
use Rattle.model.specs.Classes.{fitting}
use Rattle.model.specs.Maps.{has}
use Rattle.model.specs.Pages.{Page, uncut, page_at, in_class, free, occupied, is_uncut, first_page}
use Rattle.model.specs.Units.{source_page, target_page, free_of_class}
use Rattle.model.specs.Making.{page_to_take, or_else}
use Rattle.pages.specs.Choices.{movable, Takes, ChosenPage, Before, Source, Target, Sourced}
use Rattle.pages.proofs.Least.{least_found, least_first, least_none}

no_some : {A : Type 0} {B : Type 0} (x : A) → ◌≡◌ {A = Option A} None (Some x) → B
no_some x e = let z : ◌≡◌ {A = ℕ} 0 1 = cc in absurd (omega arith)

not_true : (b : Bool) → not b ≡ true → b ≡ false
not_true true e = let z : ◌≡◌ {A = ℕ} 0 1 = cc in absurd (omega arith)
not_true false e = refl

-- ---- an open page of the class with a free block

abbrev pub takes_test : ℕ → Page → Bool
takes_test size p = in_class size p && ltb 0 (free p)

pub takes_in : (size : ℕ) (p : Page) → takes_test size p ≡ true → Takes size p
takes_in size p e =
    let a = and_parts (in_class size p) (ltb 0 (free p)) e in
    let b = and_parts (eqb p.size size) (not p.closed) a.0 in
    record { class = eqb-true p.size size b.0; open_yet = not_true p.closed b.1; room = ltb-true 0 (free p) a.1 }

pub takes_out : (size : ℕ) (p : Page) → Takes size p → takes_test size p ≡ true
takes_out size p t =
    and_from (in_class size p) (ltb 0 (free p))
    (and_from (eqb p.size size) (not p.closed) (eq-eqb p.size size t.class) (ap not t.open_yet))
    (lt-ltb 0 (free p) t.room)

no_takes : (size : ℕ) (p : Page) → takes_test size p ≡ false → Takes size p → ⊥
no_takes size p e t = both_ways (takes_test size p) e (takes_out size p t)

-- ---- the first page that passes a test

module _ (f : Page → Bool) where
  first_none : (a : ℕ) (ps : List Page) → first_page f a ps ≡ None → (k : ℕ) → k < length ps → f (get_or ps k uncut) ≡ false
  first_none a [] e k l = absurd (omega arith)
  first_none a (p ∷ ps) e k l = go (λ q. first_none (suc a) ps q) (f p) refl e k l
    where
      go : (first_page f (suc a) ps ≡ None → (k : ℕ) → k < length ps → f (get_or ps k uncut) ≡ false) → (t : Bool) → f p ≡ t → cond t (Some a) (first_page f (suc a) ps) ≡ None
          → (k : ℕ) → k < length (p ∷ ps) → f (get_or (p ∷ ps) k uncut) ≡ false
      go rest true t q k l = no_some a (sym q)
      go rest false t q zero l = t
      go rest false t q (suc k) l = rest q k (omega arith)

  abbrev found : ℕ → List Page → ℕ → Type 0
  found a ps g = (k : ℕ) × (g ≡ a + k) × (k < length ps) × (f (get_or ps k uncut) ≡ true) × ((j : ℕ) → j < k → f (get_or ps j uncut) ≡ false)

  first_at : (a : ℕ) (ps : List Page) (g : ℕ) → first_page f a ps ≡ Some g → found a ps g
  first_at a [] g e = no_some g e
  first_at a (p ∷ ps) g e = go (λ q. first_at (suc a) ps g q) (f p) refl e
    where
      go : (first_page f (suc a) ps ≡ Some g → found (suc a) ps g) → (t : Bool) → f p ≡ t → cond t (Some a) (first_page f (suc a) ps) ≡ Some g → found a (p ∷ ps) g
      go rest true t q = let r : a ≡ g = cc in (0, omega arith, omega arith, t, λ j l. absurd (omega arith))
      go rest false t q =
          let i = rest q in
          let x = i.1 in
          let y = i.2 in
          (suc i.0, omega arith, omega arith, i.3, below i.0 i.4)
        where
          below : (k : ℕ) → ((j : ℕ) → j < k → f (get_or ps j uncut) ≡ false) → (j : ℕ) → j < suc k → f (get_or (p ∷ ps) j uncut) ≡ false
          below k h zero l = t
          below k h (suc j) l = h j (omega arith)

  pub first_found : (ps : List Page) (g : ℕ) → first_page f 0 ps ≡ Some g
      → (g < length ps) × (f (page_at ps g) ≡ true) × ((j : ℕ) → j < g → f (page_at ps j) ≡ false)
  first_found ps g e =
      let i = first_at 0 ps g e in
      let x = i.1 in
      let y = i.2 in
      let q : g ≡ i.0 = omega arith in
      (omega arith, ap (λ (k : ℕ). f (get_or ps k uncut)) q ∙ i.3, λ j l. i.4 j (omega arith))

-- ---- the page for a new record

pub chosen_page : (ps : List Page) (size : ℕ) (r : Option ℕ) → r ≡ page_to_take ps size → ChosenPage ps size r
chosen_page ps size r e = by (first_page (takes_test size) 0 ps) refl (first_page is_uncut 0 ps) refl r e
  where
    by : (o : Option ℕ) → first_page (takes_test size) 0 ps ≡ o → (u : Option ℕ) → first_page is_uncut 0 ps ≡ u → (r : Option ℕ) → r ≡ or_else o u → ChosenPage ps size r
    by (Some x) q u w None s = no_some x s
    by (Some x) q u w (Some g) s =
        let same : x ≡ g = cc in
        let i = first_found (takes_test size) ps g (q ∙ ap Some same) in
        inl (record { takes = takes_in size (page_at ps g) i.1; lowest = λ h l. no_takes size (page_at ps h) (i.2 h l) })
    by None q None w None s = record {
      no_open = λ h l. no_takes size (page_at ps h) (first_none (takes_test size) 0 ps q h l);
      no_uncut = λ h l z. both_ways (is_uncut (page_at ps h)) (first_none is_uncut 0 ps w h l) (eq-eqb (page_at ps h).size 0 z);
    }
    by None q None w (Some g) s = no_some g (sym s)
    by None q (Some x) w None s = no_some x s
    by None q (Some x) w (Some g) s =
        let same : x ≡ g = cc in
        let i = first_found is_uncut ps g (w ∙ ap Some same) in
        inr (record {
          uncut_yet = eqb-true (page_at ps g).size 0 i.1;
          lowest = λ h l z. both_ways (is_uncut (page_at ps h)) (i.2 h l) (eq-eqb (page_at ps h).size 0 z);
          no_open = λ h l. no_takes size (page_at ps h) (first_none (takes_test size) 0 ps q h l);
        })

-- ---- the source and the target

abbrev used : Page → ℕ
used p = occupied p.slots

abbrev source_test : ℕ → ℕ → ℕ → Page → Bool
source_test size targets g p = in_class size p && not (has targets g)

pub source_law : (ps : List Page) (size targets : ℕ) (x : ℕ × ℕ) → source_page ps size targets ≡ Some x → (x.1 < length ps) × Source ps size targets x.1
source_law ps size targets x e =
    let i = least_found (source_test size targets) used ps x e in
    let a = and_parts (in_class size (page_at ps x.1)) (not (has targets x.1)) i.1 in
    let b = and_parts (eqb (page_at ps x.1).size size) (not (page_at ps x.1).closed) a.0 in (
      i.0,
      record {
        class = eqb-true (page_at ps x.1).size size b.0;
        open_yet = not_true (page_at ps x.1).closed b.1;
        spared = not_true (has targets x.1) a.1;
        least = λ h l c s.
            let P : ℕ → Type 0 = λ v. Before v x.1 (used (page_at ps h)) h in
            subst P i.2 (least_first (source_test size targets) used ps x e h l (and_from (in_class size (page_at ps h)) (not (has targets h)) c (ap not s)));
      },
    )

-- the chosen page is the least one
pub movable_is : (size : ℕ) (ps : List Page) (o : Option (ℕ × ℕ)) (g : ℕ) → movable size ps o ≡ Some g → (x : ℕ × ℕ) × (o ≡ Some x) × (x.1 ≡ g)
movable_is size ps None g e = no_some g e
movable_is size ps (Some x) g e = by (leb x.0 (free_of_class size x.1 0 ps)) e
  where
    by : (t : Bool) → cond t (Some x.1) None ≡ Some g → (y : ℕ × ℕ) × (Some x ≡ Some y) × (y.1 ≡ g)
    by true q = let r : x.1 ≡ g = cc in (x, refl, r)
    by false q = no_some g q

pub movable_law : (ps : List Page) (size targets g : ℕ) → movable size ps (source_page ps size targets) ≡ Some g → (g < length ps) × Source ps size targets g
movable_law ps size targets g e =
    let i = movable_is size ps (source_page ps size targets) g e in
    let P : ℕ → Type 0 = λ y. (y < length ps) × Source ps size targets y in
    subst P i.2 (source_law ps size targets i.0 i.1)

pub target_law : (ps : List Page) (size : ℕ) (x : ℕ × ℕ) → target_page ps size ≡ Some x → (x.1 < length ps) × Target ps size x.1
target_law ps size x e =
    let i = least_found (λ g p. takes_test size p) free ps x e in (
      i.0,
      record {
        takes = takes_in size (page_at ps x.1) i.1;
        least = λ h l t.
            let P : ℕ → Type 0 = λ v. Before v x.1 (free (page_at ps h)) h in
            subst P i.2 (least_first (λ g p. takes_test size p) free ps x e h l (takes_out size (page_at ps h) t));
      },
    )

pub target_none : (ps : List Page) (size : ℕ) → target_page ps size ≡ None → (h : ℕ) → h < length ps → Takes size (page_at ps h) → ⊥
target_none ps size e h l = no_takes size (page_at ps h) (least_none (λ g p. takes_test size p) free 0 ps e h l)

pub sourced : (ps : List Page) (size targets : ℕ) (r : Option ℕ) → r ≡ movable size ps (source_page ps size targets) → Sourced ps size targets r
sourced ps size targets None e = tt
sourced ps size targets (Some g) e = (movable_law ps size targets g (sym e)).1

-- ---- room for so many words

module _ (ps : List Page) (words size : ℕ) (is : size ≡ fitting words) where
  pub chosen_at : (r : Option ℕ) → r ≡ page_to_take ps size → ChosenPage ps (fitting words) r
  chosen_at r e = let P : ℕ → Type 0 = λ z. ChosenPage ps z r in subst P is (chosen_page ps size r e)
