-- What a write leaves of a page's view.
use Rattle.std.proofs.Common.{◌≡◌, ℕ, zero, suc, ◌+◌, ◌-◌, ◌^◌, ◌<◌, ◌≤◌, Bool, true, false, cond, ◌&&◌, eqb, ◌≢◌, List, ◌∷◌, map, get_or, set, replicate, is_some, Some, None, Option, sym, refl, ap, ◌∙◌, subst, ap₂, inl, inr, div-one, arith, length-set, get_or-set_other, get_or-set_same}
use lib.Bits.{bit_and, bit_or, and_le_l}
use lib.Count.{ones, count_trailing_zeros}
use Rattle.std.specs.List.{range_with_len}
use Rattle.std.proofs.lemmas.List.{same_lists, get_or_past}
use Rattle.std.proofs.lemmas.Bool.{cases_lt, cases_eq}
use Rattle.std.proofs.lemmas.List.FromFn.{length-map-range_with_len, get_or-map-range_with_len}
use Rattle.model.specs.Classes.{blocks}
use Rattle.model.specs.Maps.{has}
use Rattle.model.specs.Pages.{Block, with_slots, uncut, cut, occupied, free, lowest_free}
use Rattle.model.specs.Units.{marked_block, survivor, survivors, swept}
use Rattle.pages.specs.View.{region, block_of, slot_view, page_view, filled}
use Rattle.pages.proofs.Bits.{has_past, has_none, has_and, has_more_same, has_more_other, occupied_ones, lowest_trailing, ones_test}

-- ---- lists made from a function of the place

-- one place is changed
pub set_counted : {X : Type 0} (f g : ℕ → X) (n s : ℕ) (x : X) → s < n → g s ≡ x → ((k : ℕ) → k < n → k ≢ s → g k ≡ f k)
    → map g (range_with_len 0 n) ≡ set (map f (range_with_len 0 n)) s x
set_counted f g n s x l here there =
    let lf = length-map-range_with_len f 0 n in
    let lg = length-map-range_with_len g 0 n in
    let ls = length-set (map f (range_with_len 0 n)) s x in
    same_lists (map g (range_with_len 0 n)) (set (map f (range_with_len 0 n)) s x) (omega arith)
    (λ k d h.
    let kn : k < n = omega arith in
    let at : get_or (map g (range_with_len 0 n)) k d ≡ g k = get_or-map-range_with_len g 0 n k k d kn (omega arith) in
    elim (cases_eq k s) [
      | inl e ↦
          at ∙ ap g e ∙ here
          ∙ sym (get_or-set_same (map f (range_with_len 0 n)) s x d (omega arith))
          ∙ ap (λ (j : ℕ). get_or (set (map f (range_with_len 0 n)) s x) j d) (sym e)
      | inr ne ↦
          at ∙ there k kn ne ∙ sym (get_or-map-range_with_len f 0 n k k d kn (omega arith))
          ∙ sym (get_or-set_other (map f (range_with_len 0 n)) s k x d ne)
    ])

-- ---- slots

pub slot_at : (size : ℕ) (closed : Bool) (o m : ℕ) (ws : List ℕ) (s : ℕ) → o < 2 ^ blocks size
    → get_or (page_view size closed o m ws).slots s None ≡ slot_view size o m ws s
unfolding page_view slot_view
slot_at size closed o m ws s h =
    elim (cases_lt s (blocks size)) [
      | inl l ↦ get_or-map-range_with_len (slot_view size o m ws) 0 (blocks size) s s None l (omega arith)
      | inr l ↦
          let n = length-map-range_with_len (slot_view size o m ws) 0 (blocks size) in
          get_or_past (map (slot_view size o m ws) (range_with_len 0 (blocks size))) s None (omega arith)
          ∙ sym (ap (λ (x : Bool). cond x (Some (block_of (has m s) (region size ws s))) None) (has_past o (blocks size) s h l))
    ]

-- ---- counts

some_cond : {A : Type 0} (b : Bool) (x : A) → is_some (cond b (Some x) None) ≡ b
some_cond true x = refl
some_cond false x = refl

slot_some : (size o m : ℕ) (ws : List ℕ) (k : ℕ) → is_some (slot_view size o m ws k) ≡ has o k
unfolding slot_view
slot_some size o m ws k = some_cond (has o k) (block_of (has m k) (region size ws k))

pub slots_used : (size : ℕ) (closed : Bool) (o m : ℕ) (ws : List ℕ) → o < 2 ^ blocks size
    → occupied (page_view size closed o m ws).slots ≡ ones o
unfolding page_view
slots_used size closed o m ws h =
    occupied_ones (slot_view size o m ws) o (slot_some size o m ws) 0 (blocks size) (subst (λ (x : ℕ). x < 2 ^ blocks size) (sym (div-one o)) h)
    ∙ ap ones (div-one o)

pub slots_lowest : (size : ℕ) (closed : Bool) (o m : ℕ) (ws : List ℕ) → o < 2 ^ blocks size → blocks size ≤ 64
    → lowest_free (page_view size closed o m ws).slots ≡ count_trailing_zeros 64 (2 ^ 64 - 1 - o)
unfolding page_view
slots_lowest size closed o m ws h l =
    lowest_trailing (slot_view size o m ws) o (slot_some size o m ws) 64 0 (blocks size) l (subst (λ (x : ℕ). x < 2 ^ blocks size) (sym (div-one o)) h)
    ∙ ap (λ (x : ℕ). count_trailing_zeros 64 (2 ^ 64 - 1 - x)) (div-one o)

-- ---- a page that is swept

survivors_counted : (f g : ℕ → Option Block) → ((k : ℕ) → survivor (f k) ≡ g k) → (a n : ℕ)
    → survivors (map f (range_with_len a n)) ≡ map g (range_with_len a n)
survivors_counted f g h a zero = refl
survivors_counted f g h a (suc n) = ap₂ (λ (x : Option Block) (xs : List (Option Block)). x ∷ xs) (h a) (survivors_counted f g h (a + 1) n)

survivor_slot : (o m z : Bool) (rs : List ℕ) → z ≡ false
    → survivor (cond o (Some (block_of m rs)) None) ≡ cond (o && m) (Some (block_of z rs)) None
unfolding block_of
survivor_slot true true z rs e = ap (λ (b : Bool). Some (block_of b rs)) (sym e)
survivor_slot true false z rs e = refl
survivor_slot false m z rs e = refl

survivor_view : (size o m : ℕ) (ws : List ℕ) (k : ℕ) → survivor (slot_view size o m ws k) ≡ slot_view size (bit_and o m) 0 ws k
unfolding slot_view
survivor_view size o m ws k =
    survivor_slot (has o k) (has m k) (has 0 k) (region size ws k) (has_none k)
    ∙ ap (λ (b : Bool). cond b (Some (block_of (has 0 k) (region size ws k))) None) (sym (has_and o m k))

pub slots_survive : (size : ℕ) (closed : Bool) (o m : ℕ) (ws : List ℕ)
    → survivors (page_view size closed o m ws).slots ≡ (page_view size false (bit_and o m) 0 ws).slots
unfolding page_view
slots_survive size closed o m ws =
    survivors_counted (slot_view size o m ws) (slot_view size (bit_and o m) 0 ws) (survivor_view size o m ws) 0 (blocks size)

module _ (size : ℕ) (closed : Bool) (o m : ℕ) (ws : List ℕ) (h : o < 2 ^ blocks size) where
  swept_test : eqb (occupied (survivors (page_view size closed o m ws).slots)) 0 ≡ eqb (bit_and o m) 0
  swept_test =
      ap (λ (x : List (Option Block)). eqb (occupied x) 0) (slots_survive size closed o m ws)
      ∙ ap (λ (x : ℕ). eqb x 0) (slots_used size false (bit_and o m) 0 ws (let l = and_le_l o m in omega arith))
      ∙ ones_test (bit_and o m)

  pub swept_some : eqb (bit_and o m) 0 ≡ false → page_view size false (bit_and o m) 0 ws ≡ swept (page_view size closed o m ws)
  unfolding page_view
  swept_some e =
      sym (ap₂ (λ (b : Bool) (x : List (Option Block)). cond b uncut (record { size = size; closed = false; slots = x }))
      (swept_test ∙ e) (slots_survive size closed o m ws))

  pub swept_none : eqb (bit_and o m) 0 ≡ true → uncut ≡ swept (page_view size closed o m ws)
  swept_none e =
      sym (ap (λ (b : Bool). cond b uncut (record { size = (page_view size closed o m ws).size; closed = false; slots = survivors (page_view size closed o m ws).slots }))
      (swept_test ∙ e))

pub view_uncut : (ws : List ℕ) → page_view 0 false 0 0 ws ≡ uncut
unfolding page_view
view_uncut ws = refl

-- ---- a mark

pub block_marked : (m : Bool) (rs : List ℕ) → block_of true rs ≡ marked_block (block_of m rs)
unfolding block_of
block_marked m rs = refl

pub mark_page : (size : ℕ) (closed : Bool) (o m : ℕ) (ws : List ℕ) (s : ℕ) → s < blocks size → has o s ≡ true
    → page_view size closed o (bit_or m (2 ^ s)) ws
    ≡ with_slots (page_view size closed o m ws) (set (page_view size closed o m ws).slots s (Some (block_of true (region size ws s))))
unfolding page_view slot_view
mark_page size closed o m ws s l on =
    ap (λ (x : List (Option Block)). record { size = size; closed = closed; slots = x })
    (set_counted (slot_view size o m ws) (slot_view size o (bit_or m (2 ^ s)) ws) (blocks size) s (Some (block_of true (region size ws s))) l
    (ap₂ (λ (x y : Bool). cond x (Some (block_of y (region size ws s))) None) on (has_more_same m s))
    (λ k _ ne. ap (λ (y : Bool). cond (has o k) (Some (block_of y (region size ws k))) None) (has_more_other m s k ne)))

-- ---- a block that is taken

pub take_page : (size : ℕ) (closed : Bool) (o m o' m' : ℕ) (ws : List ℕ) (s : ℕ) (b : Bool) → s < blocks size → has o' s ≡ true → has m' s ≡ b
    → ((k : ℕ) → k < blocks size → k ≢ s → has o' k ≡ has o k) → ((k : ℕ) → k < blocks size → k ≢ s → has m' k ≡ has m k)
    → page_view size closed o' m' ws ≡ filled (page_view size closed o m ws) s (block_of b (region size ws s))
unfolding page_view slot_view
take_page size closed o m o' m' ws s b l on is others marks =
    ap (λ (x : List (Option Block)). record { size = size; closed = closed; slots = x })
    (set_counted (slot_view size o m ws) (slot_view size o' m' ws) (blocks size) s (Some (block_of b (region size ws s))) l
    (ap₂ (λ (x y : Bool). cond x (Some (block_of y (region size ws s))) None) on is)
    (λ k h ne. ap₂ (λ (x y : Bool). cond x (Some (block_of y (region size ws k))) None) (others k h ne) (marks k h ne)))

-- ---- a page that is cut

pub same_counted : {X : Type 0} (f g : ℕ → X) → ((k : ℕ) → f k ≡ g k) → (a n : ℕ) → map f (range_with_len a n) ≡ map g (range_with_len a n)
same_counted f g h a zero = refl
same_counted f g h a (suc n) = ap₂ (λ x xs. x ∷ xs) (h a) (same_counted f g h (a + 1) n)

counted_all : {X : Type 0} (f : ℕ → X) (x : X) → ((k : ℕ) → f k ≡ x) → (a n : ℕ) → map f (range_with_len a n) ≡ replicate n x
counted_all f x h a zero = refl
counted_all f x h a (suc n) = ap₂ (λ y ys. y ∷ ys) (h a) (counted_all f x h (a + 1) n)

pub cut_page : (size m : ℕ) (ws : List ℕ) → page_view size false 0 m ws ≡ cut size
unfolding page_view slot_view
cut_page size m ws =
    ap (λ (x : List (Option Block)). record { size = size; closed = false; slots = x })
    (counted_all (slot_view size 0 m ws) None (λ k. ap (λ (x : Bool). cond x (Some (block_of (has m k) (region size ws k))) None) (has_none k)) 0 (blocks size))

-- ---- free blocks

pub slots_free : (size : ℕ) (closed : Bool) (o m : ℕ) (ws : List ℕ) → o < 2 ^ blocks size → free (page_view size closed o m ws) ≡ blocks size - ones o
unfolding page_view
slots_free size closed o m ws h =
    ap₂ (λ (x y : ℕ). x - y) (length-map-range_with_len (slot_view size o m ws) 0 (blocks size)) (slots_used size closed o m ws h)
