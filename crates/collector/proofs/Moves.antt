-- Laws of the moving phase.
use Rattle.std.proofs.Common.{◌≡◌, ℕ, zero, suc, ◌+◌, ◌-◌, ◌<◌, ◌≤◌, Bool, true, false, cond, not, ◌&&◌, ◌||◌, eqb, ltb, leb, List, [], ◌∷◌, length, get_or, set, Some, None, Option, sym, refl, ap, ◌∙◌, subst, ap₂, arith, length-set, get_or-set_other, get_or-set_same}
use Rattle.std.proofs.lemmas.Bool.{leb-true, and_right, both_ways, and_parts, eqb-true, eq-eqb, ne_eqb, ltb-true, lt-ltb, le-ltb}
use Rattle.std.proofs.lemmas.List.{get_or_default}
use Rattle.model.specs.Classes.{sizes}
use Rattle.model.specs.Maps.{has}
use Rattle.model.specs.Pages.{Block, Page, uncut, number, page_of, slot_of, page_at, block_at, put_block, with_slots, with_closed, in_class, free, occupied, lowest_free}
use Rattle.model.specs.State.{idle, moving}
use Rattle.model.specs.Units.{least_page, source_page, target_page, is_current_block, lowest_current_block, with_forward, close_page}
use Rattle.pages.specs.Choices.{movable, source_of}
use Rattle.pages.proofs.Least.{least_found}
use Rattle.pages.proofs.Choices.{movable_is}
use Rattle.heap.specs.declared.heap.Heap.{Heap as Blocks}
use Rattle.heap.specs.View.{view, target_of, target_number}
use Rattle.heap.proofs.Views.{long, few_slots}
use Rattle.collector.specs.declared.phase.Phase.TheVariants.{Idle, Moving}
use Rattle.collector.specs.Counts.{sum_of, is_spent, page_spent, spent, stays, slot_stays}
use Rattle.collector.specs.Sound.{left, pressed, Placed}
use Rattle.collector.specs.Moving.{next_of}
use Rattle.collector.specs.View.{stage}
use Rattle.collector.proofs.Sums.{sum_set, sum_bound}

-- ---- the source

-- a page of the class that is open
pub record Open (size : ℕ) (p : Page) : Type 0 where
  pub size_is : p.size ≡ size
  pub open_is : p.closed ≡ false

not_true : (b : Bool) → not b ≡ true → b ≡ false
not_true true e = let z : ◌≡◌ {A = ℕ} 0 1 = cc in absurd (omega arith)
not_true false e = refl

pub opened : (size : ℕ) (p : Page) → in_class size p ≡ true → Open size p
opened size p e =
    let a = and_parts (eqb p.size size) (not p.closed) e in
    record { size_is = eqb-true p.size size a.0; open_is = not_true p.closed a.1 }

pub picked_open : (k targets : ℕ) (ps : List Page) (g : ℕ) → movable (get_or sizes k 0) ps (source_page ps (get_or sizes k 0) targets) ≡ Some g → (g < length ps) × Open (get_or sizes k 0) (page_at ps g)
picked_open k targets ps g e =
    let i = movable_is (get_or sizes k 0) ps (source_page ps (get_or sizes k 0) targets) g e in
    let x : ℕ × ℕ = i.0 in
    let f = least_found (λ n p. in_class (get_or sizes k 0) p && not (has targets n)) (λ p. occupied p.slots) ps x i.1 in
    let P : ℕ → Type 0 = λ y. (y < length ps) × Open (get_or sizes k 0) (page_at ps y) in
    subst P i.2 (f.0, opened (get_or sizes k 0) (page_at ps x.1) (and_parts (in_class (get_or sizes k 0) (page_at ps x.1)) (not (has targets x.1)) f.1).0)

-- ---- pages that are spent

sum_more : {A : Type 0} (f g : A → ℕ) → ((x : A) → f x ≤ g x) → (xs : List A) → sum_of f xs ≤ sum_of g xs
sum_more f g h [] = omega arith
sum_more f g h (x ∷ xs) = let a = h x in let b = sum_more f g h xs in omega arith

one_most : (b : Bool) → cond b 1 0 ≤ 1
one_most true = omega arith
one_most false = omega arith

abbrev climbs : ℕ → List ℕ → Bool
climbs d [] = true
climbs d (x ∷ []) = leb x d
climbs d (x ∷ y ∷ zs) = leb x y && climbs d (y ∷ zs)

climbs_at : (d : ℕ) (xs : List ℕ) → climbs d xs ≡ true → (k : ℕ) → get_or xs k d ≤ get_or xs (suc k) d
climbs_at d [] e k = omega arith
climbs_at d (x ∷ []) e zero = leb-true x d e
climbs_at d (x ∷ []) e (suc k) = omega arith
climbs_at d (x ∷ y ∷ zs) e zero = leb-true x y (and_parts (leb x y) (climbs d (y ∷ zs)) e).0
climbs_at d (x ∷ y ∷ zs) e (suc k) = climbs_at d (y ∷ zs) (and_parts (leb x y) (climbs d (y ∷ zs)) e).1 k

spent_by : (a c x y : Bool) → (x ≡ true → y ≡ true) → cond (a && (c || x)) 1 0 ≤ cond (a && (c || y)) 1 0
spent_by false c x y h = omega arith
spent_by true true x y h = omega arith
spent_by true false true y h = let q : ◌≡◌ {A = ℕ} (cond y 1 0) 1 = ap (λ (b : Bool). cond b 1 0) (h refl) in omega arith
spent_by true false false y h = omega arith

page_more : (k : ℕ) (p : Page) → page_spent k p ≤ page_spent (suc k) p
page_more k p =
    spent_by (ltb 0 p.size) p.closed (ltb p.size (get_or sizes k 33)) (ltb p.size (get_or sizes (suc k) 33))
    (λ e.
    let a = ltb-true p.size (get_or sizes k 33) e in
    let b = climbs_at 33 sizes refl k in
    lt-ltb p.size (get_or sizes (suc k) 33) (omega arith))

sizes_from : (k : ℕ) → 4 ≤ get_or sizes k 33
sizes_from zero = omega arith
sizes_from (suc k) = let a = sizes_from k in let b = climbs_at 33 sizes refl k in omega arith

-- each class has blocks of four words at least
pub sizes_four : (k : ℕ) → k < 20 → 4 ≤ get_or sizes k 0
sizes_four k l = let a = sizes_from k in let e = get_or_default sizes k 0 33 l in omega arith

pub spent_next : (k : ℕ) (ps : List Page) → spent k ps ≤ spent (suc k) ps
unfolding spent
spent_next k ps = sum_more (page_spent k) (page_spent (suc k)) (page_more k) ps

page_one : (k : ℕ) (p : Page) → page_spent k p ≤ 1
page_one k p = one_most (is_spent k p)

pub spent_bound : (h : Blocks) (k : ℕ) → spent k (view h) ≤ 64
unfolding spent
spent_bound h k =
    let l = long h in
    let s = sum_bound (page_spent k) 1 uncut (view h) (λ g q. page_one k (page_at (view h) g)) in
    omega arith

stay_one : (g : ℕ) (o : Option Block) → slot_stays g o ≤ 1
stay_one g None = omega arith
stay_one g (Some b) = one_most (eqb (page_of b.forward) g)

pub stays_bound : (h : Blocks) (g : ℕ) → g < 64 → stays g (page_at (view h) g) ≤ 64
unfolding stays
stays_bound h g l =
    let few = few_slots h g l in
    let s = sum_bound (slot_stays g) 1 None (page_at (view h) g).slots (λ i q. stay_one g (get_or (page_at (view h) g).slots i None)) in
    omega arith

pub spent_set : (k : ℕ) (ps : List Page) (g : ℕ) (p : Page) → g < length ps → spent k (set ps g p) + page_spent k (page_at ps g) ≡ spent k ps + page_spent k p
unfolding spent
spent_set k ps g p h = sum_set (page_spent k) ps g p uncut h

open_unspent : (k : ℕ) (p : Page) → k < 20 → Open (get_or sizes k 0) p → page_spent k p ≡ 0
open_unspent k p l o =
    let S : ℕ = get_or sizes k 33 in
    let e : p.size ≡ get_or sizes k 33 = o.size_is ∙ get_or_default sizes k 0 33 l in
    ap₂ (λ (c : Bool) (x : ℕ). cond (ltb 0 x && (c || ltb x (get_or sizes k 33))) 1 0) o.open_is e
    ∙ ap (λ (b : Bool). cond b 1 0) (and_right (ltb 0 S) (ltb S S) (le-ltb S S (omega arith)))

closed_spent : (k : ℕ) (p : Page) → k < 20 → Open (get_or sizes k 0) p → page_spent k (with_closed p true) ≡ 1
closed_spent k p l o =
    let f = sizes_four k l in
    let e = o.size_is in
    ap (λ (b : Bool). cond (b && true) 1 0) (lt-ltb 0 p.size (omega arith))

-- ---- what is left after each kind of unit

pub choose_left : (h a : Blocks) (k g t : ℕ) → k < 20 → g < 64 → Open (get_or sizes k 0) (page_at (view h) g) → view a ≡ close_page (view h) g true
    → left (Moving k (Some g)) (view a) t < left (Moving k None) (view h) t
choose_left h a k g t l low o e =
    let n = long h in
    let q = spent_set k (view h) g (with_closed (page_at (view h) g) true) (omega arith) in
    let z = open_unspent k (page_at (view h) g) l o in
    let y = closed_spent k (page_at (view h) g) l o in
    let v : spent k (view a) ≡ spent k (close_page (view h) g true) = ap (spent k) e in
    let b = spent_bound a k in
    let s = stays_bound a g low in
    omega arith

pub closed_placed : (ps qs : List Page) (k g : ℕ) → length ps ≡ 64 → k < 20 → g < 64 → Open (get_or sizes k 0) (page_at ps g) → qs ≡ close_page ps g true
    → Placed (Moving k (Some g)) qs
closed_placed ps qs k g n l low o e =
    let p : page_at qs g ≡ with_closed (page_at ps g) true = ap (λ (x : List Page). page_at x g) e ∙ get_or-set_same ps g (with_closed (page_at ps g) true) uncut (omega arith) in
    (l, (low, ap (λ (x : Page). x.closed) p, ap (λ (x : Page). x.size) p ∙ o.size_is))

pub done_left : (ps qs : List Page) (k t : ℕ) (s : Option ℕ) → k < 20 → spent k ps ≤ spent (suc k) qs + 1 → left (next_of k) qs t < left (Moving k s) ps t
done_left ps qs k t s l e = by (ltb (suc k) 20)
  where
    by : (b : Bool) → left (cond b (Moving (suc k) None) Idle) qs t < left (Moving k s) ps t
    by true = omega arith
    by false = omega arith

pub done_pressed : (ps : List Page) (k t : ℕ) → pressed (next_of k) ps t ≡ 0
done_pressed ps k t = by (ltb (suc k) 20)
  where
    by : (b : Bool) → pressed (cond b (Moving (suc k) None) Idle) ps t ≡ 0
    by true = refl
    by false = refl

pub done_placed : (ps : List Page) (k : ℕ) → Placed (next_of k) ps
done_placed ps k = by (ltb (suc k) 20) refl
  where
    by : (b : Bool) → ltb (suc k) 20 ≡ b → Placed (cond b (Moving (suc k) None) Idle) ps
    by true e = (ltb-true (suc k) 20 e, tt)
    by false e = tt

pub done_stage : (k targets : ℕ) → stage (next_of k) targets ≡ cond (ltb (suc k) 20) (moving (suc k) None targets) idle
done_stage k targets = by (ltb (suc k) 20)
  where
    by : (b : Bool) → stage (cond b (Moving (suc k) None) Idle) targets ≡ cond b (moving (suc k) None targets) idle
    by true = refl
    by false = refl

pub reopen_spent : (ps qs : List Page) (k g : ℕ) → g < length ps → qs ≡ close_page ps g false → spent k ps ≤ spent (suc k) qs + 1
reopen_spent ps qs k g l e =
    let q = spent_set k ps g (with_closed (page_at ps g) false) l in
    let o = page_one k (page_at ps g) in
    let v : spent k qs ≡ spent k (close_page ps g false) = ap (spent k) e in
    let m = spent_next k qs in
    omega arith

-- ---- the block that is moved

lowest_at : (g a : ℕ) (xs : List (Option Block)) (s : ℕ) → lowest_current_block g a xs ≡ Some s
    → (i : ℕ) × (s ≡ a + i) × (i < length xs) × (is_current_block (number g s) (get_or xs i None) ≡ true)
lowest_at g a [] s e = let z : ◌≡◌ {A = ℕ} 0 1 = cc in absurd (omega arith)
lowest_at g a (x ∷ xs) s e = go (λ q. lowest_at g (suc a) xs s q) (is_current_block (number g a) x) refl e
  where
    go : (lowest_current_block g (suc a) xs ≡ Some s → (i : ℕ) × (s ≡ suc a + i) × (i < length xs) × (is_current_block (number g s) (get_or xs i None) ≡ true))
        → (t : Bool) → is_current_block (number g a) x ≡ t → cond t (Some a) (lowest_current_block g (suc a) xs) ≡ Some s
        → (i : ℕ) × (s ≡ a + i) × (i < length (x ∷ xs)) × (is_current_block (number g s) (get_or (x ∷ xs) i None) ≡ true)
    go rest true t q =
        let r : a ≡ s = cc in (0, omega arith, omega arith, ap (λ (y : ℕ). is_current_block (number g y) x) (sym r) ∙ t)
    go rest false t q =
        let i = rest q in
        let u = i.1 in
        let v = i.2 in
        (suc i.0, omega arith, omega arith, i.3)

current_some : (n : ℕ) (o : Option Block) → is_current_block n o ≡ true → (b : Block) × (o ≡ Some b) × (b.forward ≡ n)
current_some n None e = let z : ◌≡◌ {A = ℕ} 0 1 = cc in absurd (omega arith)
current_some n (Some b) e = (b, refl, eqb-true b.forward n e)

-- what is known of the block to be moved
pub record Moved (ps : List Page) (g s : ℕ) : Type 0 where
  pub block : Block
  pub within : s < length (page_at ps g).slots
  pub slot : get_or (page_at ps g).slots s None ≡ Some block
  pub form : block.forward ≡ number g s

pub to_move : (ps : List Page) (g s : ℕ) → lowest_current_block g 0 (page_at ps g).slots ≡ Some s → Moved ps g s
to_move ps g s e =
    let i = lowest_at g 0 (page_at ps g).slots s e in
    let u = i.1 in
    let v = i.2 in
    let q : i.0 ≡ s = omega arith in
    let P : ℕ → Type 0 = λ x. (x < length (page_at ps g).slots) × (is_current_block (number g s) (get_or (page_at ps g).slots x None) ≡ true) in
    let m = subst P q (i.2, i.3) in
    let b = current_some (number g s) (get_or (page_at ps g).slots s None) m.1 in
    record { block = b.0; within = m.0; slot = b.1; form = b.2 }

pub block_there : (ps : List Page) (g s : ℕ) → s < 64 → (m : Moved ps g s) → block_at ps (number g s) ≡ Some m.block
block_there ps g s l m =
    let x : page_of (number g s) ≡ g = omega arith in
    let y : slot_of (number g s) ≡ s = omega arith in
    ap (λ (b : Bool). cond b None (get_or (page_at ps (page_of (number g s))).slots (slot_of (number g s)) None)) (ne_eqb (number g s) 0 (λ q. omega arith))
    ∙ ap₂ (λ (i j : ℕ). get_or (page_at ps i).slots j None) x y
    ∙ m.slot

pub room_left : {A : Type 0} (xs : List (Option A)) → 0 < length xs - occupied xs → lowest_free xs < length xs
room_left [] h = absurd (omega arith)
room_left (None ∷ xs) h = omega arith
room_left (Some x ∷ xs) h = let i = room_left xs (omega arith) in omega arith

-- the page that it goes to
pub record Target (size : ℕ) (ps : List Page) (t : ℕ) : Type 0 where
  pub low : t < length ps
  pub class : Open size (page_at ps t)
  pub room : lowest_free (page_at ps t).slots < length (page_at ps t).slots

pub target : (size : ℕ) (ps : List Page) (x : ℕ × ℕ) → least_page (λ n p. in_class size p && ltb 0 (free p)) free 0 ps ≡ Some x → Target size ps x.1
target size ps x e =
    let f = least_found (λ n p. in_class size p && ltb 0 (free p)) free ps x e in
    let a = and_parts (in_class size (page_at ps x.1)) (ltb 0 (free (page_at ps x.1))) f.1 in
    record {
      low = f.0;
      class = opened size (page_at ps x.1) a.0;
      room = room_left (page_at ps x.1).slots (ltb-true 0 (free (page_at ps x.1)) a.1);
    }

pub apart : (size : ℕ) (ps : List Page) (t g : ℕ) → Target size ps t → (page_at ps g).closed ≡ true → g ≡ t → ⊥
apart size ps t g r c e = both_ways (page_at ps g).closed (ap (λ (x : ℕ). (page_at ps x).closed) e ∙ r.class.open_is) c

-- ---- pages after a block was put in

pub put_here : (ps : List Page) (n : ℕ) (b : Block) → page_of n < length ps
    → page_at (put_block ps n b) (page_of n) ≡ with_slots (page_at ps (page_of n)) (set (page_at ps (page_of n)).slots (slot_of n) (Some b))
put_here ps n b l = get_or-set_same ps (page_of n) (with_slots (page_at ps (page_of n)) (set (page_at ps (page_of n)).slots (slot_of n) (Some b))) uncut l

pub put_there : (ps : List Page) (n g : ℕ) (b : Block) → (g ≡ page_of n → ⊥) → page_at (put_block ps n b) g ≡ page_at ps g
put_there ps n g b ne = get_or-set_other ps (page_of n) g (with_slots (page_at ps (page_of n)) (set (page_at ps (page_of n)).slots (slot_of n) (Some b))) uncut ne

pub put_spent : (ps : List Page) (n k : ℕ) (b : Block) → page_of n < length ps → spent k (put_block ps n b) ≡ spent k ps
put_spent ps n k b l =
    let q = spent_set k ps (page_of n) (with_slots (page_at ps (page_of n)) (set (page_at ps (page_of n)).slots (slot_of n) (Some b))) l in
    omega arith

module _ (ps : List Page) (n : length ps ≡ 64) (g s t z : ℕ) (gl : g < 64) (sl : s < 64) (tl : t < 64) (zl : z < 64) (ne : g ≡ t → ⊥) (m : Moved ps g s) where
  abbrev b' : Block
  b' = with_forward m.block (number t z)

  abbrev mid : List Page
  mid = put_block ps (number t z) b'

  abbrev end : List Page
  end = put_block mid (number g s) b'

  mid_length : length mid ≡ 64
  mid_length = simp length-set n

  from_page : page_of (number g s) ≡ g
  from_page = omega arith

  to_page : page_of (number t z) ≡ t
  to_page = omega arith

  mid_at : page_at mid g ≡ page_at ps g
  mid_at = put_there ps (number t z) g b' (λ e. ne (e ∙ to_page))

  pub end_at : page_at end g ≡ with_slots (page_at ps g) (set (page_at ps g).slots s (Some b'))
  end_at =
      let x = from_page in
      let y : slot_of (number g s) ≡ s = omega arith in
      let l = mid_length in
      ap (page_at end) (sym x)
      ∙ put_here mid (number g s) b' (omega arith)
      ∙ ap₂ (λ (i j : ℕ). with_slots (page_at mid i) (set (page_at mid i).slots j (Some b'))) x y
      ∙ ap (λ (p : Page). with_slots p (set p.slots s (Some b'))) mid_at

  pub end_spent : (k : ℕ) → spent k end ≡ spent k ps
  end_spent k =
      let l = mid_length in
      let x = from_page in
      let y = to_page in
      put_spent mid (number g s) k b' (omega arith) ∙ put_spent ps (number t z) k b' (omega arith)

  pub end_stays : stays g (page_at end g) + 1 ≡ stays g (page_at ps g)
  unfolding stays
  end_stays =
      let q = sum_set (slot_stays g) (page_at ps g).slots s (Some b') None m.within in
      let x : sum_of (slot_stays g) (page_at end g).slots ≡ sum_of (slot_stays g) (set (page_at ps g).slots s (Some b')) = ap (λ (p : Page). sum_of (slot_stays g) p.slots) end_at in
      let old : slot_stays g (get_or (page_at ps g).slots s None) ≡ 1 =
      ap (slot_stays g) m.slot ∙ ap (λ (b : Bool). cond b 1 0) (ap (λ (y : ℕ). eqb (page_of y) g) m.form ∙ eq-eqb (page_of (number g s)) g from_page) in
      let new : slot_stays g (Some b') ≡ 0 = ap (λ (b : Bool). cond b 1 0) (ne_eqb (page_of (number t z)) g (λ e. ne (sym e ∙ to_page))) in
      omega arith

  pub moved_left : (k u : ℕ) (qs : List Page) → qs ≡ end → left (Moving k (Some g)) qs u < left (Moving k (Some g)) ps u
  moved_left k u qs e =
      let x = ap (spent k) e ∙ end_spent k in
      let y : stays g (page_at qs g) ≡ stays g (page_at end g) = ap (λ (xs : List Page). stays g (page_at xs g)) e in
      let w = end_stays in
      omega arith

  pub moved_placed : (k : ℕ) (qs : List Page) → qs ≡ end → Placed (Moving k (Some g)) ps → Placed (Moving k (Some g)) qs
  moved_placed k qs e a =
      let c = ap (λ (xs : List Page). page_at xs g) e ∙ end_at in
      (a.0, (a.1.0, ap (λ (x : Page). x.closed) c ∙ a.1.1, ap (λ (x : Page). x.size) c ∙ a.1.2))

-- ---- the choices of the pages

pub source_in : (ps : List Page) (k targets : ℕ) → k < 20 → source_of ps k targets ≡ movable (get_or sizes k 0) ps (source_page ps (get_or sizes k 0) targets)
source_in ps k targets l = ap (λ (b : Bool). cond b (movable (get_or sizes k 0) ps (source_page ps (get_or sizes k 0) targets)) None) (lt-ltb k 20 l)

pub target_in : (ps : List Page) (k g s : ℕ) (b : Block) → s < 64 → block_at ps (number g s) ≡ Some b → (page_at ps g).closed ≡ true → (page_at ps g).size ≡ get_or sizes k 0
    → target_of ps (number g s) (block_at ps (number g s)) ≡ target_page ps (get_or sizes k 0)
target_in ps k g s b l is closed size =
    let x : page_of (number g s) ≡ g = omega arith in
    ap (target_of ps (number g s)) is
    ∙ ap (λ (i : ℕ). cond (page_at ps i).closed (target_page ps (page_at ps i).size) None) x
    ∙ ap₂ (λ (c : Bool) (z : ℕ). cond c (target_page ps z) None) closed size

pub no_target : (o : Option (ℕ × ℕ)) → None ≡ target_number o → o ≡ None
no_target None e = refl
no_target (Some x) e = let z : ◌≡◌ {A = ℕ} 0 1 = cc in absurd (omega arith)

pub a_target : (o : Option (ℕ × ℕ)) (t : ℕ) → Some t ≡ target_number o → (v : ℕ) × (o ≡ Some (v, t))
a_target None t e = let z : ◌≡◌ {A = ℕ} 0 1 = cc in absurd (omega arith)
a_target (Some x) t e = let q : t ≡ x.1 = cc in (x.0, ap (λ (y : ℕ). Some (x.0, y)) (sym q))
