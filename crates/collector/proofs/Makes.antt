-- Laws of making a block.
use Rattle.std.proofs.Common.{◌≡◌, ℕ, zero, suc, ◌+◌, ◌/◌, ◌<◌, ◌≤◌, Bool, true, false, cond, ◌&&◌, ◌||◌, eqb, ltb, leb, List, [], ◌∷◌, length, get_or, replicate, Some, None, Option, sym, refl, ap, ◌∙◌, subst, ap₂, inl, inr, arith, length-set, get_or-set_other, get_or-set_same}
use native.Mathlib.Nat.{div-le_of_le-mul}
use lib.ListN.{length-replicate}
use Rattle.std.proofs.lemmas.Nat.{le-div}
use Rattle.std.proofs.lemmas.Bool.{and_left, and_parts, both_ways, eqb-true, eq-eqb, ne_eqb, ltb-true, ltb-false, leb-true, leb-false, le-ltb}
use Rattle.model.specs.Classes.{sizes, first_fit, fitting}
use Rattle.model.specs.Pages.{Block, Page, uncut, cut, page_of, slot_of, page_at, in_class, free, lowest_free, is_uncut, first_page}
use Rattle.model.specs.State.{Heap, with_pages, Phase as Stage}
use Rattle.model.specs.Making.{ready, ready_pages, allocated_marked, page_to_take, or_else}
use Rattle.model.specs.Calls.{if_some}
use Rattle.heap.specs.declared.heap.Heap.{Heap as Blocks}
use Rattle.heap.specs.View.{view, new_block, new_page, new_pages}
use Rattle.heap.proofs.Views.{long, few_slots}
use Rattle.collector.specs.declared.phase.Phase.{Phase}
use Rattle.collector.specs.declared.phase.Phase.TheVariants.{Idle, Roots, Marking, Sweeping, Moving}
use Rattle.collector.specs.Counts.{sum_of, slot_white, page_white, white, page_spent, spent, stays}
use Rattle.collector.specs.Sound.{left, pressed, at_hand, Source, Placed}
use Rattle.collector.specs.Making.{Sized, Free, Roomy, place_number, placed_in}
use Rattle.collector.specs.View.{stage, new_heap}
use Rattle.collector.proofs.Sums.{sum_set, put_sum}
use Rattle.collector.proofs.Moves.{sizes_four, spent_set, put_spent, put_there, room_left, opened}

-- ---- the page is made ready

pub ready_cut : (p : Page) (size : ℕ) → p.size ≡ 0 → ready p size ≡ cut size
ready_cut p size e = ap (λ (b : Bool). cond b (cut size) p) (eq-eqb p.size 0 e)

pub ready_keep : (p : Page) (size : ℕ) → (p.size ≡ 0 → ⊥) → ready p size ≡ p
ready_keep p size ne = ap (λ (b : Bool). cond b (cut size) p) (ne_eqb p.size 0 ne)

-- a page with a free block
pub record Ready (size : ℕ) (p : Page) : Type 0 where
  pub size_is : p.size ≡ size
  pub room : lowest_free p.slots < length p.slots
  pub few : length p.slots ≤ 64

lowest_new : (A : Type 0) (n : ℕ) → 0 < n → lowest_free (replicate {A = Option A} n None) < length (replicate {A = Option A} n None)
lowest_new A zero h = absurd (omega arith)
lowest_new A (suc n) h = omega arith

pub cut_ready : (size : ℕ) → 4 ≤ size → size ≤ 32 → Ready size (cut size)
cut_ready size a b =
    let some : 1 ≤ 256 / size = le-div 1 256 size (omega arith) (omega arith) in
    let few : 256 / size ≤ 64 = div-le_of_le-mul size (omega arith) in
    let l : length (replicate {A = Option Block} (256 / size) None) ≡ 256 / size = length-replicate (256 / size) None in
    record { size_is = refl; room = lowest_new Block (256 / size) (omega arith); few = omega arith }

pub free_ready : (h : Blocks) (g size : ℕ) → g < 64 → Free size (page_at (view h) g) → Ready size (page_at (view h) g)
free_ready h g size l f = record { size_is = f.same; room = room_left (page_at (view h) g).slots f.space; few = few_slots h g l }

free_not : (size : ℕ) (p : Page) → 4 ≤ size → Free size p → p.size ≡ 0 → ⊥
free_not size p l f e = let s = f.same in omega arith

pub roomy_ready : (h : Blocks) (g size : ℕ) → g < 64 → 4 ≤ size → size ≤ 32 → Roomy size (page_at (view h) g) → Ready size (ready (page_at (view h) g) size)
roomy_ready h g size l a b (inl f) =
    let R : Page → Type 0 = λ p. Ready size p in
    subst R (sym (ready_keep (page_at (view h) g) size (free_not size (page_at (view h) g) a f))) (free_ready h g size l f)
roomy_ready h g size l a b (inr z) = let R : Page → Type 0 = λ p. Ready size p in subst R (sym (ready_cut (page_at (view h) g) size z)) (cut_ready size a b)

-- ---- the numbers

white_none : (n : ℕ) → sum_of slot_white (replicate {A = Option Block} n None) ≡ 0
white_none zero = refl
white_none (suc n) = let r = white_none n in omega arith

ready_white : (p : Page) (size : ℕ) → page_white (ready p size) ≤ page_white p
ready_white p size = by (is_uncut p)
  where
    by : (b : Bool) → page_white (cond b (cut size) p) ≤ page_white p
    by true = let r = white_none (256 / size) in omega arith
    by false = omega arith

ready_spent : (p : Page) (size k : ℕ) → page_spent k p ≤ page_spent k (ready p size)
ready_spent p size k = by (eqb p.size 0) refl
  where
    by : (b : Bool) → eqb p.size 0 ≡ b → page_spent k p ≤ page_spent k (cond b (cut size) p)
    by true e =
        let z = eqb-true p.size 0 e in
        let n : page_spent k p ≡ 0 = ap (λ (b : Bool). cond b 1 0) (and_left (ltb 0 p.size) (p.closed || ltb p.size (get_or sizes k 33)) (le-ltb 0 p.size (omega arith))) in
        omega arith
    by false e = omega arith

module _ (ps : List Page) (size g : ℕ) (n : length ps ≡ 64) (l : g < 64) where
  prepared_length : length (ready_pages ps g size) ≡ 64
  prepared_length = length-set ps g (ready (page_at ps g) size) ∙ n

  prepared_at : page_at (ready_pages ps g size) g ≡ ready (page_at ps g) size
  prepared_at = get_or-set_same ps g (ready (page_at ps g) size) uncut (omega arith)

  prepared_white : white (ready_pages ps g size) ≤ white ps
  unfolding white
  prepared_white =
      let q = sum_set page_white ps g (ready (page_at ps g) size) uncut (omega arith) in
      let r = ready_white (page_at ps g) size in omega arith

  prepared_spent : (k : ℕ) → spent k ps ≤ spent k (ready_pages ps g size)
  prepared_spent k =
      let q = spent_set k ps g (ready (page_at ps g) size) (omega arith) in
      let r = ready_spent (page_at ps g) size k in omega arith

  -- the new block
  module _ (rd : Ready size (ready (page_at ps g) size)) where
    z : ℕ
    z = lowest_free (page_at (ready_pages ps g size) g).slots

    z_room : lowest_free (page_at (ready_pages ps g size) g).slots < length (page_at (ready_pages ps g size) g).slots
    z_room = let P : Page → Type 0 = λ p. lowest_free p.slots < length p.slots in subst P (sym prepared_at) rd.room

    z_few : length (page_at (ready_pages ps g size) g).slots ≤ 64
    z_few = let P : Page → Type 0 = λ p. length p.slots ≤ 64 in subst P (sym prepared_at) rd.few

    the_page : page_of (place_number ps size g) ≡ g
    the_page = let a = z_room in let b = z_few in omega arith

    the_slot : slot_of (place_number ps size g) ≡ lowest_free (page_at (ready_pages ps g size) g).slots
    the_slot = let a = z_room in let b = z_few in omega arith

    module _ (r d : ℕ) (m : Bool) where
      abbrev qs : List Page
      qs = placed_in ps size r d m g

      new_white : m ≡ true → white qs ≤ white ps
      unfolding white
      new_white e =
          let p = the_page in
          let s = the_slot in
          let k = prepared_length in
          let w = prepared_white in
          let room = z_room in
          let S : ℕ → Type 0 = λ i. slot_of (place_number ps size g) < length (page_at (ready_pages ps g size) i).slots in
          let short = subst S (sym p) (let q : slot_of (place_number ps size g) < length (page_at (ready_pages ps g size) g).slots = omega arith in q) in
          let q = put_sum slot_white (ready_pages ps g size) (place_number ps size g) (new_block (place_number ps size g) m r d) (omega arith) short in
          let none : ◌≡◌ {A = ℕ} (cond m 0 1) 0 = ap (λ (b : Bool). cond b 0 1) e in
          omega arith

      new_spent : (k : ℕ) → spent k ps ≤ spent k qs
      new_spent k =
          let p = the_page in
          let n' = prepared_length in
          let a = put_spent (ready_pages ps g size) (place_number ps size g) k (new_block (place_number ps size g) m r d) (omega arith) in
          let b = prepared_spent k in
          omega arith

      new_other : (i : ℕ) → (i ≡ g → ⊥) → page_at qs i ≡ page_at ps i
      new_other i ne =
          put_there (ready_pages ps g size) (place_number ps size g) i (new_block (place_number ps size g) m r d) (λ e. ne (e ∙ the_page))
          ∙ get_or-set_other ps g i (ready (page_at ps g) size) uncut ne

      module _ (room : Roomy size (page_at ps g)) (big : 4 ≤ size) where
        not_source : (k i : ℕ) → k < 20 → Source k (Some i) ps → i ≡ g → ⊥
        not_source k i l s e = by room
          where
            by : Roomy size (page_at ps g) → ⊥
            by (inl f) = both_ways (page_at ps g).closed f.ajar (sym (ap (λ (x : ℕ). (page_at ps x).closed) e) ∙ s.1)
            by (inr y) =
                let q : (page_at ps i).size ≡ (page_at ps g).size = ap (λ (x : ℕ). (page_at ps x).size) e in
                let u = s.2 in
                let v = sizes_four k l in omega arith

        new_hand : (k : ℕ) (s : Option ℕ) → k < 20 → Source k s ps → at_hand s qs ≡ at_hand s ps
        new_hand k None l p = refl
        new_hand k (Some i) l p = ap (λ (x : Page). 1 + stays i x) (new_other i (not_source k i l p))

        new_source : (k : ℕ) (s : Option ℕ) → k < 20 → Source k s ps → Source k s qs
        new_source k None l p = tt
        new_source k (Some i) l p =
            let e = new_other i (not_source k i l p) in
            (p.0, ap (λ (x : Page). x.closed) e ∙ p.1, ap (λ (x : Page). x.size) e ∙ p.2)

        pub new_left : (ph : Phase) (targets t : ℕ) → Placed ph ps → m ≡ allocated_marked (stage ph targets) g → left ph qs t ≤ left ph ps t
        new_left Idle targets t p e = omega arith
        new_left (Roots i) targets t p e = let w = new_white e in omega arith
        new_left Marking targets t p e = let w = new_white e in omega arith
        new_left (Sweeping i) targets t p e = omega arith
        new_left (Moving k s) targets t p e = let h = new_hand k s p.0 p.1 in let a = new_spent k in omega arith

        pub new_pressed : (ph : Phase) (targets t : ℕ) → m ≡ allocated_marked (stage ph targets) g → pressed ph qs t ≤ pressed ph ps t
        new_pressed Idle targets t e = omega arith
        new_pressed (Roots i) targets t e = let w = new_white e in omega arith
        new_pressed Marking targets t e = let w = new_white e in omega arith
        new_pressed (Sweeping i) targets t e = omega arith
        new_pressed (Moving k s) targets t e = omega arith

        pub new_placed : (ph : Phase) → Placed ph ps → Placed ph qs
        new_placed Idle p = tt
        new_placed (Roots i) p = p
        new_placed Marking p = tt
        new_placed (Sweeping i) p = p
        new_placed (Moving k s) p = (p.0, new_source k s p.0 p.1)

-- ---- the size

abbrev good : List ℕ → Bool
good [] = false
good (s ∷ []) = leb 4 s && eqb s 32
good (s ∷ t ∷ ss) = leb 4 s && (leb s 32 && good (t ∷ ss))

fit_good : (ss : List ℕ) (w : ℕ) → good ss ≡ true → w ≤ 32 → (4 ≤ first_fit ss w) × (first_fit ss w ≤ 32) × (w ≤ first_fit ss w)
fit_good [] w e l = let z : ◌≡◌ {A = ℕ} 0 1 = cc in absurd (omega arith)
fit_good (s ∷ []) w e l =
    let a = and_parts (leb 4 s) (eqb s 32) e in
    let x = leb-true 4 s a.0 in
    let y = eqb-true s 32 a.1 in
    by (leb w s) refl x y
  where
    by : (b : Bool) → leb w s ≡ b → 4 ≤ s → s ≡ 32 → (4 ≤ cond b s 0) × (cond b s 0 ≤ 32) × (w ≤ cond b s 0)
    by true q x y = let m = leb-true w s q in (omega arith, omega arith, omega arith)
    by false q x y = let m = leb-false w s q in absurd (omega arith)
fit_good (s ∷ t ∷ ss) w e l =
    let a = and_parts (leb 4 s) (leb s 32 && good (t ∷ ss)) e in
    let b = and_parts (leb s 32) (good (t ∷ ss)) a.1 in
    by (leb w s) refl (leb-true 4 s a.0) (leb-true s 32 b.0) (fit_good (t ∷ ss) w b.1 l)
  where
    by : (b : Bool) → leb w s ≡ b → 4 ≤ s → s ≤ 32 → (4 ≤ first_fit (t ∷ ss) w) × (first_fit (t ∷ ss) w ≤ 32) × (w ≤ first_fit (t ∷ ss) w)
        → (4 ≤ cond b s (first_fit (t ∷ ss) w)) × (cond b s (first_fit (t ∷ ss) w) ≤ 32) × (w ≤ cond b s (first_fit (t ∷ ss) w))
    by true q x y r = let m = leb-true w s q in (omega arith, omega arith, omega arith)
    by false q x y r = r

pub fitting_sized : (size r d : ℕ) → size ≡ fitting (2 + r + d) → r + d ≤ 30 → Sized size r d
fitting_sized size r d e l =
    let S : ℕ → Type 0 = λ s. (4 ≤ s) × (s ≤ 32) × (2 + r + d ≤ s) in
    let f = subst S (sym e) (fit_good sizes (2 + r + d) refl (omega arith)) in
    let x = f.2 in
    record { least = f.0; most = f.1; few = l; fit = omega arith }

-- ---- the page that was found

found_at : (f : Page → Bool) (a : ℕ) (ps : List Page) (g : ℕ) → first_page f a ps ≡ Some g
    → (k : ℕ) × (g ≡ a + k) × (k < length ps) × (f (get_or ps k uncut) ≡ true)
found_at f a [] g e = let y : ◌≡◌ {A = ℕ} 0 1 = cc in absurd (omega arith)
found_at f a (p ∷ ps) g e = go (λ q. found_at f (suc a) ps g q) (f p) refl e
  where
    go : (first_page f (suc a) ps ≡ Some g → (k : ℕ) × (g ≡ suc a + k) × (k < length ps) × (f (get_or ps k uncut) ≡ true))
        → (b : Bool) → f p ≡ b → cond b (Some a) (first_page f (suc a) ps) ≡ Some g → (k : ℕ) × (g ≡ a + k) × (k < length (p ∷ ps)) × (f (get_or (p ∷ ps) k uncut) ≡ true)
    go rest true t q = let r : a ≡ g = cc in (0, omega arith, omega arith, t)
    go rest false t q =
        let i = rest q in
        let x = i.1 in
        let y = i.2 in
        (suc i.0, omega arith, omega arith, i.3)

found : (f : Page → Bool) (ps : List Page) (g : ℕ) → first_page f 0 ps ≡ Some g → (g < length ps) × (f (page_at ps g) ≡ true)
found f ps g e =
    let i = found_at f 0 ps g e in
    let x = i.1 in
    let y = i.2 in
    let q : g ≡ i.0 = omega arith in
    (omega arith, ap (λ (k : ℕ). f (get_or ps k uncut)) q ∙ i.3)

pub room_found : (ps : List Page) (size g : ℕ) → page_to_take ps size ≡ Some g → (g < length ps) × Roomy size (page_at ps g)
room_found ps size g e = by (first_page (λ p. in_class size p && ltb 0 (free p)) 0 ps) refl e
  where
    by : (o : Option ℕ) → first_page (λ p. in_class size p && ltb 0 (free p)) 0 ps ≡ o → or_else o (first_page is_uncut 0 ps) ≡ Some g → (g < length ps) × Roomy size (page_at ps g)
    by None q r = let f = found is_uncut ps g r in (f.0, inr (eqb-true (page_at ps g).size 0 f.1))
    by (Some x) q r =
        let same : x ≡ g = cc in
        let f = found (λ p. in_class size p && ltb 0 (free p)) ps g (q ∙ ap Some same) in
        let a = and_parts (in_class size (page_at ps g)) (ltb 0 (free (page_at ps g))) f.1 in
        let o = opened size (page_at ps g) a.0 in
        (f.0, inl (record { same = o.size_is; ajar = o.open_is; space = ltb-true 0 (free (page_at ps g)) a.1 }))

-- ---- a new record

-- a page is found only for a record that fits a block
new_found : (ps : List Page) (r d g : ℕ) → new_page ps r d ≡ Some g → (r + d ≤ 30) × (page_to_take ps (fitting (2 + r + d)) ≡ Some g)
new_found ps r d g e = by (ltb 30 (r + d)) refl e
  where
    by : (b : Bool) → ltb 30 (r + d) ≡ b → cond b None (page_to_take ps (fitting (2 + r + d))) ≡ Some g → (r + d ≤ 30) × (page_to_take ps (fitting (2 + r + d)) ≡ Some g)
    by true t q = let z : ◌≡◌ {A = ℕ} 0 1 = cc in absurd (omega arith)
    by false t q = (ltb-false 30 (r + d) t, q)

module _ (h : Blocks) (r d from targets t : ℕ) (ph : Phase) (marks : (g : ℕ) → g < 64 → leb from g ≡ allocated_marked (stage ph targets) g) (pl : Placed ph (view h)) where
  abbrev made : Option ℕ → List Page
  made o = if_some o (λ g. placed_in (view h) (fitting (2 + r + d)) r d (leb from g) g) (view h)

  -- a call that makes nothing, or a block in a page with room for it
  pub record Harmless (qs : List Page) : Type 0 where
    pub lefts : left ph qs t ≤ left ph (view h) t
    pub presses : pressed ph qs t ≤ pressed ph (view h) t
    pub places : Placed ph qs

  in_page : (g size : ℕ) → size ≡ fitting (2 + r + d) → r + d ≤ 30 → page_to_take (view h) size ≡ Some g → (g < 64) × Harmless (placed_in (view h) size r d (leb from g) g)
  in_page g size is few e =
      let f = room_found (view h) size g e in
      let n = long h in
      let k = f.0 in
      let low : g < 64 = omega arith in
      let s = fitting_sized size r d is few in
      let rd = roomy_ready h g size low s.least s.most f.1 in (
        low,
        record {
          lefts = new_left (view h) size g n low rd r d (leb from g) f.1 s.least ph targets t pl (marks g low);
          presses = new_pressed (view h) size g n low rd r d (leb from g) f.1 s.least ph targets t (marks g low);
          places = (new_placed (view h) size g n low rd r d (leb from g) f.1 s.least ph pl);
        },
      )

  pub made_harmless : Harmless (new_pages (view h) r d from)
  made_harmless = by (new_page (view h) r d) refl
    where
      by : (o : Option ℕ) → new_page (view h) r d ≡ o → Harmless (made o)
      by None e = record { lefts = omega arith; presses = omega arith; places = pl }
      by (Some g) e = let f = new_found (view h) r d g e in (in_page g (fitting (2 + r + d)) refl f.0 f.1).1

  pub made_heap : (k : Heap) → k.pages ≡ view h → k.phase ≡ stage ph targets → with_pages k (new_pages (view h) r d from) ≡ new_heap k r d
  made_heap k ps phs =
      by (new_page (view h) r d) refl
      ∙ ap₂ (λ (x : List Page) (y : Stage). if_some (new_page x r d) (λ g. with_pages k (placed_in x (fitting (2 + r + d)) r d (allocated_marked y g) g)) k) (sym ps) (sym phs)
    where
      by : (o : Option ℕ) → new_page (view h) r d ≡ o
          → with_pages k (made o) ≡ if_some o (λ g. with_pages k (placed_in (view h) (fitting (2 + r + d)) r d (allocated_marked (stage ph targets) g) g)) k
      by None e = ap (with_pages k) (sym ps)
      by (Some g) e =
          let f = new_found (view h) r d g e in
          ap (λ (b : Bool). with_pages k (placed_in (view h) (fitting (2 + r + d)) r d b g)) (marks g (in_page g (fitting (2 + r + d)) refl f.0 f.1).0)
