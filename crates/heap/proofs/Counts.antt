-- Counts and searches over the blocks.
use Rattle.std.proofs.Common.{◌≡◌, ℕ, suc, ◌+◌, ◌<◌, ◌≤◌, Bool, true, false, cond, eqb, List, [], ◌∷◌, find, filter, sum_by, length, get_or, Some, None, Option, sym, refl, ap, ◌∙◌, ap₂, add-one, arith}
use Rattle.std.specs.List.{range_with_len}
use Rattle.std.proofs.lemmas.List.Sums.{sum_by-cons}
use Rattle.model.specs.Pages.{Block, Page, page_at, number, occupied, count_slots, count_of_blocks}
use Rattle.model.specs.Units.{is_current_block, lowest_current_block}
use Rattle.heap.specs.View.{occupied_blocks}

-- ---- the slots of a page, from slot `i` on, of which `f` tells which hold a current block

abbrev tells : (ℕ → Bool) → ℕ → ℕ → List (Option Block) → Type 0
tells f g i xs = (k : ℕ) → k < length xs → f (i + k) ≡ is_current_block (number g (i + k)) (get_or xs k None)

tells_more : (f : ℕ → Bool) (g i : ℕ) (x : Option Block) (xs : List (Option Block)) → tells f g i (x ∷ xs) → tells f g (i + 1) xs
tells_more f g i x xs h k l =
    let z : i + 1 + k ≡ i + suc k = omega arith in
    ap f z ∙ h (suc k) (omega arith) ∙ sym (ap (λ (j : ℕ). is_current_block (number g j) (get_or xs k None)) z)

tells_first : (f : ℕ → Bool) (g i : ℕ) (x : Option Block) (xs : List (Option Block)) → tells f g i (x ∷ xs) → f i ≡ is_current_block (number g i) x
tells_first f g i x xs h =
    let z : i + 0 ≡ i = omega arith in
    sym (ap f z) ∙ h 0 (omega arith) ∙ ap (λ (j : ℕ). is_current_block (number g j) x) z

slot_cons : (g i : ℕ) (x : Option Block) (xs : List (Option Block)) → cond (is_current_block (number g i) x) 1 0 + count_slots true g (i + 1) xs ≡ count_slots true g i (x ∷ xs)
slot_cons g i x xs = ap (λ (j : ℕ). cond (is_current_block (number g i) x) 1 0 + count_slots true g j xs) (add-one i) ∙ by x
  where
    by : (y : Option Block) → cond (is_current_block (number g i) y) 1 0 + count_slots true g (suc i) xs ≡ count_slots true g i (y ∷ xs)
    by None = omega arith
    by (Some b) = refl

pub count_current : (f : ℕ → Bool) (g i : ℕ) (xs : List (Option Block)) → tells f g i xs → length (filter f (range_with_len i (length xs))) ≡ count_slots true g i xs
count_current f g i [] h = refl
count_current f g i (x ∷ xs) h =
    one (f i)
    ∙ ap₂ (λ (b : Bool) (n : ℕ). cond b 1 0 + n) (tells_first f g i x xs h) (count_current f g (i + 1) xs (tells_more f g i x xs h))
    ∙ slot_cons g i x xs
  where
    one : (b : Bool) → length (cond b (i ∷ filter f (range_with_len (i + 1) (length xs))) (filter f (range_with_len (i + 1) (length xs))))
        ≡ cond b 1 0 + length (filter f (range_with_len (i + 1) (length xs)))
    one true = omega arith
    one false = omega arith

pub find_current : (f : ℕ → Bool) (g i : ℕ) (xs : List (Option Block)) → tells f g i xs → find f (range_with_len i (length xs)) ≡ lowest_current_block g i xs
find_current f g i [] h = refl
find_current f g i (x ∷ xs) h =
    ap₂ (λ (b : Bool) (o : Option ℕ). cond b (Some i) o) (tells_first f g i x xs h)
    (find_current f g (i + 1) xs (tells_more f g i x xs h) ∙ ap (λ (j : ℕ). lowest_current_block g j xs) (add-one i))

-- ---- all pages

-- a block is current or a husk
pub either_way : (g i : ℕ) (xs : List (Option Block)) → count_slots true g i xs + count_slots false g i xs ≡ occupied xs
either_way g i [] = omega arith
either_way g i (None ∷ xs) = either_way g (suc i) xs
either_way g i (Some b ∷ xs) = by (eqb b.forward (number g i)) (either_way g (suc i) xs)
  where
    by : (t : Bool) → count_slots true g (suc i) xs + count_slots false g (suc i) xs ≡ occupied xs
        → cond t 1 0 + count_slots true g (suc i) xs + (cond t 0 1 + count_slots false g (suc i) xs) ≡ suc (occupied xs)
    by true e = omega arith
    by false e = omega arith

pub counted_most : (c : Bool) (g i : ℕ) (xs : List (Option Block)) → count_slots c g i xs ≤ length xs
counted_most c g i [] = omega arith
counted_most c g i (None ∷ xs) = let r = counted_most c g (suc i) xs in omega arith
counted_most c g i (Some b ∷ xs) = let r = counted_most c g (suc i) xs in let m = one (eqb b.forward (number g i)) c in omega arith
  where
    one : (t c : Bool) → cond t (cond c 1 0) (cond c 0 1) ≤ 1
    one true true = omega arith
    one true false = omega arith
    one false true = omega arith
    one false false = omega arith

pub occupied_most : (xs : List (Option Block)) → occupied xs ≤ length xs
occupied_most [] = omega arith
occupied_most (None ∷ xs) = let r = occupied_most xs in omega arith
occupied_most (Some b ∷ xs) = let r = occupied_most xs in omega arith

-- what the pages weigh together, from page `a` on, where page `g` weighs `w g`: a sum over their numbers
module _ (w : ℕ → Page → ℕ) (all : ℕ → List Page → ℕ) (none : (a : ℕ) → all a [] ≡ 0) (one : (a : ℕ) (p : Page) (ps : List Page) → all a (p ∷ ps) ≡ w a p + all (suc a) ps) where
  sum_from : (h : ℕ → ℕ) (a : ℕ) (ps : List Page) → ((k : ℕ) → k < length ps → h (a + k) ≡ w (a + k) (page_at ps k)) → sum_by h (range_with_len a (length ps)) ≡ all a ps
  sum_from h a [] e = sym (none a)
  sum_from h a (p ∷ ps) e =
      let z : a + 0 ≡ a = omega arith in
      sum_by-cons h a (range_with_len (a + 1) (length ps))
      ∙ ap₂ (λ (m n : ℕ). m + n) (sym (ap h z) ∙ e 0 (omega arith) ∙ ap (λ (i : ℕ). w i p) z)
      (sum_from h (a + 1) ps
      (λ k l. let v : a + 1 + k ≡ a + suc k = omega arith in ap h v ∙ e (suc k) (omega arith) ∙ sym (ap (λ (i : ℕ). w i (page_at ps k)) v))
      ∙ ap (λ (i : ℕ). all i ps) (add-one a))
      ∙ sym (one a p ps)

  sum_of_pages : (ps : List Page) → length ps ≡ 64 → sum_by (λ g. w g (page_at ps g)) (range_with_len 0 64) ≡ all 0 ps
  sum_of_pages ps n =
      ap (λ (k : ℕ). sum_by (λ g. w g (page_at ps g)) (range_with_len 0 k)) (sym n)
      ∙ sum_from (λ g. w g (page_at ps g)) 0 ps
      (λ k l. let z : 0 + k ≡ k = omega arith in ap (λ (i : ℕ). w i (page_at ps i)) z ∙ sym (ap (λ (i : ℕ). w i (page_at ps k)) z))

pub sum_of_blocks : (c : Bool) (ps : List Page) → length ps ≡ 64 → sum_by (λ g. count_slots c g 0 (page_at ps g).slots) (range_with_len 0 64) ≡ count_of_blocks c 0 ps
sum_of_blocks c = sum_of_pages (λ g p. count_slots c g 0 p.slots) (count_of_blocks c) (λ a. refl) (λ a p ps. refl)

pub sum_of_occupied : (ps : List Page) → length ps ≡ 64 → sum_by (λ g. occupied (page_at ps g).slots) (range_with_len 0 64) ≡ occupied_blocks ps
sum_of_occupied = sum_of_pages (λ g p. occupied p.slots) (λ a. occupied_blocks) (λ a. refl) (λ a p ps. refl)

-- current blocks and husks are the occupied blocks
pub all_either_way : (g : ℕ) (ps : List Page) → count_of_blocks true g ps + count_of_blocks false g ps ≡ occupied_blocks ps
all_either_way g [] = omega arith
all_either_way g (p ∷ ps) = let a = either_way g 0 p.slots in let b = all_either_way (suc g) ps in omega arith
