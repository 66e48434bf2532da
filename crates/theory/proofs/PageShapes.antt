-- The shape of pages: what a page put in another's place leaves, which page and slot a choice finds, and what sweeping and cutting leave.
use Rattle.std.proofs.Common.{◌≡◌, ℕ, zero, suc, ◌+◌, ◌<◌, ◌≤◌, Bool, true, false, cond, ◌&&◌, eqb, ltb, leb, ◌⊎◌, List, [], ◌∷◌, length, get_or, set, replicate, Some, None, Option, sym, refl, ap, ◌∙◌, subst, inl, inr, ⊎_elim, arith}
use Rattle.std.proofs.lemmas.List.{length-set, length-replicate, get_or-set_same}
use Rattle.std.proofs.lemmas.Bool.{ltb-true, leb-true, and_parts, eqb-true}
use Rattle.model.specs.Classes.{sizes, blocks, fitting}
use Rattle.model.specs.Pages.{Block, Page, uncut, cut, with_slots, with_closed, number, page_of, slot_of, page_at, block_at, put_block, occupied, free, lowest_free, in_class, is_uncut, first_page}
use Rattle.model.specs.Units.{survivors, swept, lesser, least_page, is_current_block, lowest_current_block, close_page}
use Rattle.model.specs.Making.{page_to_take, or_else}
use Rattle.theory.proofs.Lists.{below_at, lowest_none, lowest_replicate, none_some, replicate_at, some_in}
use Rattle.theory.proofs.Numbers.{Room, block_number, page_set, room_number}

-- Pages: an uncut page has no slot, and none has more than 64.

pub record PageOk (p : Page) : Type 0 where
  pub fit : length p.slots ≤ 64
  pub uncut : p.size ≡ 0 → p.slots ≡ []

pub record PagesOk (ps : List Page) : Type 0 where
  pub many : length ps ≡ 64
  pub each : (g : ℕ) → PageOk (page_at ps g)

uncut_ok : PageOk uncut
uncut_ok = record { fit = omega arith; uncut = λ e. refl }

pub uncut_at : (n g : ℕ) → page_at (replicate n uncut) g ≡ uncut
uncut_at zero g = refl
uncut_at (suc n) zero = refl
uncut_at (suc n) (suc g) = uncut_at n g

pub fresh_ok : PagesOk (replicate 64 uncut)
fresh_ok = record { many = refl; each = λ g. subst PageOk (sym (uncut_at 64 g)) uncut_ok }

pub at_set : (ps : List Page) (g : ℕ) (q : Page) → g < length ps → page_at (set ps g q) g ≡ q
at_set ps g q l = get_or-set_same ps g q uncut l

pub set_pages_ok : (ps : List Page) (g : ℕ) (p : Page) → PageOk p → PagesOk ps → PagesOk (set ps g p)
set_pages_ok ps g p k o = record {
  many = length-set ps g p ∙ o.many;
  each = λ j. page_set (λ i q. PageOk q) ps g p j (λ l. k) (o.each j);
}

-- the blocks are the same where the slots of the page are
pub set_blocks : (ps : List Page) (g : ℕ) (q : Page) → ((s : ℕ) → get_or q.slots s None ≡ get_or (page_at ps g).slots s None) → (m : ℕ)
    → block_at (set ps g q) m ≡ block_at ps m
set_blocks ps g q e m =
    ap (λ x. cond (eqb m 0) None x)
    (page_set (λ j p. get_or p.slots (slot_of m) None ≡ get_or (page_at ps j).slots (slot_of m) None) ps g q (page_of m) (λ l. e (slot_of m)) refl)

-- Pages that differ in their blocks only.

pub record Frame (ps qs : List Page) : Type 0 where
  pub pages : length qs ≡ length ps
  pub size : (g : ℕ) → (page_at qs g).size ≡ (page_at ps g).size
  pub closed : (g : ℕ) → (page_at qs g).closed ≡ (page_at ps g).closed
  pub slots : (g : ℕ) → length (page_at qs g).slots ≡ length (page_at ps g).slots

pub frame_refl : (ps : List Page) → Frame ps ps
frame_refl ps = record { pages = refl; size = λ g. refl; closed = λ g. refl; slots = λ g. refl }

pub frame_trans : (ps qs rs : List Page) → Frame ps qs → Frame qs rs → Frame ps rs
frame_trans ps qs rs a b = record {
  pages = b.pages ∙ a.pages;
  size = λ g. b.size g ∙ a.size g;
  closed = λ g. b.closed g ∙ a.closed g;
  slots = λ g. b.slots g ∙ a.slots g;
}

pub frame_put : (ps : List Page) (n : ℕ) (b : Block) → Frame ps (put_block ps n b)
frame_put ps n b = record {
  pages = length-set ps (page_of n) q;
  size = λ i. page_set (λ j p. p.size ≡ (page_at ps j).size) ps (page_of n) q i (λ l. refl) refl;
  closed = λ i. page_set (λ j p. p.closed ≡ (page_at ps j).closed) ps (page_of n) q i (λ l. refl) refl;
  slots = λ i. page_set (λ j p. length p.slots ≡ length (page_at ps j).slots) ps (page_of n) q i
      (λ l. length-set (page_at ps (page_of n)).slots (slot_of n) (Some b)) refl;
}
  where
    q : Page
    q = with_slots (page_at ps (page_of n)) (set (page_at ps (page_of n)).slots (slot_of n) (Some b))

no_slots : {A : Type 0} (xs : List A) → length xs ≡ 0 → xs ≡ []
no_slots [] e = refl
no_slots (x ∷ xs) e = absurd (omega arith)

pub frame_ok : (ps qs : List Page) → Frame ps qs → PagesOk ps → PagesOk qs
frame_ok ps qs f o = record {
  many = f.pages ∙ o.many;
  each = λ g. record {
    fit = omega (arith, f.slots g, (o.each g).fit);
    uncut = λ e. no_slots (page_at qs g).slots (f.slots g ∙ ap length ((o.each g).uncut (sym (f.size g) ∙ e)));
  };
}

-- Closing and opening a page.

pub close_ok : (ps : List Page) (g : ℕ) (c : Bool) → PagesOk ps → PagesOk (close_page ps g c)
close_ok ps g c o = set_pages_ok ps g (with_closed (page_at ps g) c) (record { fit = (o.each g).fit; uncut = (o.each g).uncut }) o

pub close_blocks : (ps : List Page) (g : ℕ) (c : Bool) (m : ℕ) → block_at (close_page ps g c) m ≡ block_at ps m
close_blocks ps g c = set_blocks ps g (with_closed (page_at ps g) c) (λ s. refl)

-- The choice of a page: it is there and passes the test.

pub record Chosen (f : ℕ → Page → Bool) (ps : List Page) (g : ℕ) : Type 0 where
  pub within : g < length ps
  pub passes : f g (page_at ps g) ≡ true

-- pages counted from `k`
abbrev Counted : (ℕ → Page → Bool) → List Page → ℕ → ℕ → Type 0
Counted f ps k g = (i : ℕ) × (g ≡ k + i) × (i < length ps) × (f g (page_at ps i) ≡ true)

counted_later : (f : ℕ → Page → Bool) (p : Page) (ps : List Page) (k g : ℕ) → Counted f ps (suc k) g → Counted f (p ∷ ps) k g
counted_later f p ps k g x = (suc x.0, omega (arith, x.1), omega (arith, x.2), x.3)

counted_chosen : (f : ℕ → Page → Bool) (ps : List Page) (g : ℕ) → Counted f ps 0 g → Chosen f ps g
counted_chosen f ps g x =
    let q : x.0 ≡ g = omega (arith, x.1) in
    record { within = subst (λ i. i < length ps) q x.2; passes = subst (λ i. f g (page_at ps i) ≡ true) q x.3 }

counted_here : (f : ℕ → Page → Bool) (p : Page) (ps : List Page) (k g : ℕ) → k ≡ g → f k p ≡ true → Counted f (p ∷ ps) k g
counted_here f p ps k g e t = (0, omega arith, omega arith, subst (λ j. f j p ≡ true) e t)

first_counted : (t : Page → Bool) (k : ℕ) (ps : List Page) (g : ℕ) → first_page t k ps ≡ Some g → Counted (λ i p. t p) ps k g
first_counted t k [] g e = none_some g e
first_counted t k (p ∷ ps) g e = go (t p) refl e (λ q. first_counted t (suc k) ps g q)
  where
    go : (x : Bool) → t p ≡ x → cond x (Some k) (first_page t (suc k) ps) ≡ Some g
        → (first_page t (suc k) ps ≡ Some g → Counted (λ i p. t p) ps (suc k) g) → Counted (λ i p. t p) (p ∷ ps) k g
    go true u q rec = let z : k ≡ g = cc in counted_here (λ i p. t p) p ps k g z u
    go false u q rec = counted_later (λ i p. t p) p ps k g (rec q)

pub first_chosen : (t : Page → Bool) (ps : List Page) (g : ℕ) → first_page t 0 ps ≡ Some g → Chosen (λ i p. t p) ps g
first_chosen t ps g e = counted_chosen (λ i p. t p) ps g (first_counted t 0 ps g e)

lesser_one : (x y : Option (ℕ × ℕ)) (z : ℕ × ℕ) → lesser x y ≡ Some z → (x ≡ Some z) ⊎ (y ≡ Some z)
lesser_one None y z e = inr e
lesser_one (Some x) None z e = inl e
lesser_one (Some x) (Some y) z e = go (leb x.0 y.0) e
  where
    go : (t : Bool) → cond t (Some x) (Some y) ≡ Some z → (Some x ≡ Some z) ⊎ (Some y ≡ Some z)
    go true e = inl e
    go false e = inr e

least_counted : (f : ℕ → Page → Bool) (m : Page → ℕ) (k : ℕ) (ps : List Page) (z : ℕ × ℕ) → least_page f m k ps ≡ Some z → Counted f ps k z.1
least_counted f m k [] z e = none_some z e
least_counted f m k (p ∷ ps) z e =
    ⊎_elim (λ q. here (f k p) refl q) (λ q. counted_later f p ps k z.1 (least_counted f m (suc k) ps z q)) (lesser_one _ _ z e)
  where
    here : (t : Bool) → f k p ≡ t → cond t (Some (m p, k)) None ≡ Some z → Counted f (p ∷ ps) k z.1
    here true u q = let y : (m p, k) ≡ z = cc in counted_here f p ps k z.1 (ap (λ (x : ℕ × ℕ). x.1) y) u
    here false u q = none_some z q

pub least_chosen : (f : ℕ → Page → Bool) (m : Page → ℕ) (ps : List Page) (z : ℕ × ℕ) → least_page f m 0 ps ≡ Some z → Chosen f ps z.1
least_chosen f m ps z e = counted_chosen f ps z.1 (least_counted f m 0 ps z e)

-- The choice of a slot.

-- the lowest free slot of a page that has one
pub record Target (ps : List Page) (g n : ℕ) : Type 0 where
  pub room : Room ps n
  pub page : page_of n ≡ g
  pub free : block_at ps n ≡ None

pub target_room : (ps : List Page) (g : ℕ) → PagesOk ps → g < length ps → lowest_free (page_at ps g).slots < length (page_at ps g).slots
    → Target ps g (number g (lowest_free (page_at ps g).slots))
target_room ps g o l low =
    let s : ℕ = lowest_free (page_at ps g).slots in
    let h : s < 64 = omega (arith, (o.each g).fit) in
    record { room = room_number ps g s l low h; page = omega arith; free = block_number ps g s h ∙ lowest_none (page_at ps g).slots }

is_current_some : (n : ℕ) (x : Option Block) → is_current_block n x ≡ true → (b : Block) × (x ≡ Some b) × (b.forward ≡ n)
is_current_some n None e = cc
is_current_some n (Some b) e = (b, refl, eqb-true _ _ e)

lowest_found : (g s : ℕ) (xs : List (Option Block)) (k : ℕ) → lowest_current_block g s xs ≡ Some k
    → (j : ℕ) × (k ≡ s + j) × ((b : Block) × (get_or xs j None ≡ Some b) × (b.forward ≡ number g k))
lowest_found g s [] k e = none_some k e
lowest_found g s (x ∷ xs) k e = go (is_current_block (number g s) x) refl e (λ f. lowest_found g (suc s) xs k f)
  where
    go : (t : Bool) → is_current_block (number g s) x ≡ t → cond t (Some s) (lowest_current_block g (suc s) xs) ≡ Some k
        → (lowest_current_block g (suc s) xs ≡ Some k → (j : ℕ) × (k ≡ suc s + j) × ((b : Block) × (get_or xs j None ≡ Some b) × (b.forward ≡ number g k)))
        → (j : ℕ) × (k ≡ s + j) × ((b : Block) × (get_or (x ∷ xs) j None ≡ Some b) × (b.forward ≡ number g k))
    go true u e rec = let q : s ≡ k = cc in (0, omega arith, subst (λ j. (b : Block) × (x ≡ Some b) × (b.forward ≡ number g j)) q (is_current_some (number g s) x u))
    go false u e rec = let y = rec e in (suc y.0, omega (arith, y.1), y.2)

-- the lowest current block of a page
pub record Source (ps : List Page) (g n : ℕ) : Type 0 where
  pub block : Block
  pub is : block_at ps n ≡ Some block
  pub forward : block.forward ≡ n
  pub page : page_of n ≡ g

pub source_block : (ps : List Page) (g s : ℕ) → PagesOk ps → lowest_current_block g 0 (page_at ps g).slots ≡ Some s → Source ps g (number g s)
source_block ps g s o e =
    let x = lowest_found g 0 (page_at ps g).slots s e in
    let q : x.0 ≡ s = omega (arith, x.1) in
    let i : get_or (page_at ps g).slots s None ≡ Some x.2.0 = subst (λ j. get_or (page_at ps g).slots j None ≡ Some x.2.0) q x.2.1 in
    let h : s < 64 = omega (arith, some_in (page_at ps g).slots s x.2.0 i, (o.each g).fit) in
    record { block = x.2.0; is = block_number ps g s h ∙ i; forward = x.2.2; page = omega arith }

-- Sweeping.

pub length_survivors : (xs : List (Option Block)) → length (survivors xs) ≡ length xs
length_survivors [] = refl
length_survivors (x ∷ xs) = ap suc (length_survivors xs)

pub swept_ok : (p : Page) → PageOk p → PageOk (swept p)
swept_ok p o = go (eqb (occupied (survivors p.slots)) 0)
  where
    go : (t : Bool) → PageOk (cond t uncut (record { size = p.size; closed = false; slots = survivors p.slots }))
    go true = uncut_ok
    go false = record { fit = rw (length_survivors p.slots) o.fit; uncut = λ e. ap survivors (o.uncut e) }

-- The page for a new record: it is open and has a free slot, or it is uncut.

pub record Takes (ps : List Page) (size g : ℕ) : Type 0 where
  pub within : g < length ps
  pub page : (((page_at ps g).size ≡ size) × (0 < free (page_at ps g))) ⊎ (is_uncut (page_at ps g) ≡ true)

pub page_for_takes : (ps : List Page) (size g : ℕ) → page_to_take ps size ≡ Some g → Takes ps size g
page_for_takes ps size g e = go (first_page (λ p. in_class size p && ltb 0 (free p)) 0 ps) refl e
  where
    go : (o : Option ℕ) → first_page (λ p. in_class size p && ltb 0 (free p)) 0 ps ≡ o → or_else o (first_page is_uncut 0 ps) ≡ Some g
        → Takes ps size g
    go None a q = let c = first_chosen is_uncut ps g q in record { within = c.within; page = inr c.passes }
    go (Some x) a q =
        let same : x ≡ g = cc in
        let c = first_chosen (λ p. in_class size p && ltb 0 (free p)) ps g (a ∙ q) in
        let t = and_parts _ _ c.passes in
        record { within = c.within; page = inl (eqb-true _ _ (and_parts _ _ t.0).0, ltb-true _ _ t.1) }

pub cut_ok : (size : ℕ) → 0 < size → blocks size ≤ 64 → PageOk (cut size)
cut_ok size h m = record { fit = rw (length-replicate {A = Option Block} (blocks size) None) m; uncut = λ z. absurd (omega arith) }

pub cut_room : (size : ℕ) → 0 < blocks size → lowest_free (cut size).slots < length (cut size).slots
cut_room size l = rw (length-replicate {A = Option Block} (blocks size) None, lowest_replicate Block (blocks size)) l

pub cut_blocks : (ps : List Page) (g size : ℕ) → (page_at ps g).slots ≡ [] → (m : ℕ) → block_at (set ps g (cut size)) m ≡ block_at ps m
cut_blocks ps g size e =
    set_blocks ps g (cut size) (λ s. replicate_at (blocks size) s None ∙ sym (ap (λ (x : List (Option Block)). get_or x s None) e))

-- The table of classes: its sizes rise, and every record that is not too large has a class with blocks.

pub sizes_rise : (k : ℕ) → suc k < 20 → get_or sizes k 0 < get_or sizes (suc k) 0
sizes_rise k h = ltb-true _ _ (below_at (λ j. ltb (get_or sizes j 0) (get_or sizes (suc j) 0)) 19 k refl (omega arith))

pub sizes_positive : (k : ℕ) → k < 20 → 0 < get_or sizes k 0
sizes_positive k h = ltb-true _ _ (below_at (λ j. ltb 0 (get_or sizes j 0)) 20 k refl h)

abbrev class_test : ℕ → Bool
class_test w = ltb 0 (fitting w) && (ltb 0 (blocks (fitting w)) && leb (blocks (fitting w)) 64)

pub class_fits : (w : ℕ) → w ≤ 32 → (0 < fitting w) × (0 < blocks (fitting w)) × (blocks (fitting w) ≤ 64)
class_fits w h =
    let a = and_parts _ _ (below_at class_test 33 w refl (omega arith)) in
    let b = and_parts _ _ a.1 in
    (ltb-true _ _ a.0, ltb-true _ _ b.0, leb-true _ _ b.1)
