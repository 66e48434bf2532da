-- A scan, reference by reference.
use Rattle.std.proofs.Common.{◌≡◌, ℕ, zero, suc, ◌+◌, ◌<◌, ◌≤◌, Bool, true, false, cond, eqb, ◌⊎◌, List, [], ◌∷◌, length, get_or, drop, set, slice_get, Some, None, Option, sym, refl, ap, ◌∙◌, ap₂, inl, inr, add-one, arith, length-set, get_or-set_other, get_or-set_same, drop-set-lt}
use Rattle.std.proofs.lemmas.Bool.{cases_eq, cases_Bool}
use Rattle.std.proofs.lemmas.List.{at_drop_more, get_or_past, set_past, set-get_or}
use Rattle.model.specs.Pages.{Block, Page, uncut, page_of, slot_of, page_at, block_at, put_block, with_slots, current, refs_of}
use Rattle.model.specs.State.{Heap, Phase, idle, roots, marking, sweeping, moving, with_pages}
use Rattle.model.specs.Units.{grey, marked_block, with_refs, scan}
use Rattle.model.specs.Making.{barrier, barrier_in}
use Rattle.model.specs.Calls.{alter}
use Rattle.heap.specs.Blocks.{write_ref, write_ref_in, mark_in}
use Rattle.heap.specs.View.{white_of}
use Rattle.collector.specs.Tracing.{rescan_at}
use Rattle.collector.specs.View.{stored_in}
use Rattle.collector.proofs.Sums.{some_within, block_slot, page_within}
use Rattle.collector.proofs.Sounds.{grey_white, grey_not}

-- what does not tell the new block from the old one does not tell the pages apart
pub same_through : {A : Type 0} (F : Option Block → A) (ps : List Page) (m : ℕ) (b a : Block) (n : ℕ) → block_at ps m ≡ Some b → F (Some a) ≡ F (Some b)
    → F (block_at (put_block ps m a) n) ≡ F (block_at ps n)
same_through {A = A} F ps m b a n is same = wrapped (eqb n 0) (cases_eq (page_of n) (page_of m)) (cases_eq (slot_of n) (slot_of m))
  where
    slots : List (Option Block)
    slots = (page_at ps (page_of m)).slots

    P : Page
    P = with_slots (page_at ps (page_of m)) (set (page_at ps (page_of m)).slots (slot_of m) (Some a))

    sl : get_or (page_at ps (page_of m)).slots (slot_of m) None ≡ Some b
    sl = block_slot ps m b is

    low : page_of m < length ps
    low = page_within ps (page_of m) (slot_of m) b sl

    short : slot_of m < length (page_at ps (page_of m)).slots
    short = some_within (page_at ps (page_of m)).slots (slot_of m) b sl

    here : page_at (put_block ps m a) (page_of m) ≡ P
    here = get_or-set_same ps (page_of m) P uncut low

    inner : (page_of n ≡ page_of m) ⊎ (page_of n ≡ page_of m → ⊥) → (slot_of n ≡ slot_of m) ⊎ (slot_of n ≡ slot_of m → ⊥)
        → F (get_or (page_at (put_block ps m a) (page_of n)).slots (slot_of n) None) ≡ F (get_or (page_at ps (page_of n)).slots (slot_of n) None)
    inner (inr ne) x = ap (λ (p : Page). F (get_or p.slots (slot_of n) None)) (get_or-set_other ps (page_of m) (page_of n) P uncut ne)
    inner (inl e) (inl q) =
        ap₂ (λ (g s : ℕ). F (get_or (page_at (put_block ps m a) g).slots s None)) e q
        ∙ ap (λ (p : Page). F (get_or p.slots (slot_of m) None)) here
        ∙ ap F (get_or-set_same (page_at ps (page_of m)).slots (slot_of m) (Some a) None short)
        ∙ same ∙ sym (ap F sl)
        ∙ sym (ap₂ (λ (g s : ℕ). F (get_or (page_at ps g).slots s None)) e q)
    inner (inl e) (inr ne) =
        ap (λ (g : ℕ). F (get_or (page_at (put_block ps m a) g).slots (slot_of n) None)) e
        ∙ ap (λ (p : Page). F (get_or p.slots (slot_of n) None)) here
        ∙ ap F (get_or-set_other (page_at ps (page_of m)).slots (slot_of m) (slot_of n) (Some a) None ne)
        ∙ sym (ap (λ (g : ℕ). F (get_or (page_at ps g).slots (slot_of n) None)) e)

    wrapped : (t : Bool) → (page_of n ≡ page_of m) ⊎ (page_of n ≡ page_of m → ⊥) → (slot_of n ≡ slot_of m) ⊎ (slot_of n ≡ slot_of m → ⊥)
        → F (cond t None (get_or (page_at (put_block ps m a) (page_of n)).slots (slot_of n) None)) ≡ F (cond t None (get_or (page_at ps (page_of n)).slots (slot_of n) None))
    wrapped true x y = refl
    wrapped false x y = inner x y

module _ {A : Type 0} (F : Option Block → A) where
  pub grey_through : ((b : Block) → F (Some (marked_block b)) ≡ F (Some b)) → (h : Heap) (r n : ℕ)
      → F (block_at (grey h r).pages n) ≡ F (block_at h.pages n)
  grey_through same h r n = by (cases_Bool (white_of (block_at h.pages (current h.pages r))))
    where
      marked : (m : ℕ) (o : Option Block) → block_at h.pages m ≡ o → F (block_at (mark_in h.pages m o) n) ≡ F (block_at h.pages n)
      marked m None e = refl
      marked m (Some b) e = same_through F h.pages m b (marked_block b) n e (same b)

      by : (white_of (block_at h.pages (current h.pages r)) ≡ true) ⊎ (white_of (block_at h.pages (current h.pages r)) ≡ false)
          → F (block_at (grey h r).pages n) ≡ F (block_at h.pages n)
      by (inl e) =
          ap (λ (k : Heap). F (block_at k.pages n)) (grey_white h r e)
          ∙ marked (current h.pages r) (block_at h.pages (current h.pages r)) refl
      by (inr e) = ap (λ (k : Heap). F (block_at k.pages n)) (grey_not h r e)

  pub write_through : (ps : List Page) (n f v m : ℕ) → ((b : Block) → F (Some (with_refs b (set b.refs f v))) ≡ F (Some b))
      → F (block_at (write_ref ps n f v) m) ≡ F (block_at ps m)
  write_through ps n f v m same = by_block (block_at ps n) refl
    where
      by_block : (o : Option Block) → block_at ps n ≡ o → F (block_at (write_ref_in ps n f v o) m) ≡ F (block_at ps m)
      by_block None e = refl
      by_block (Some b) e = same_through F ps n b (with_refs b (set b.refs f v)) m e (same b)

  pub rescan_through : (h : Heap) (n f r m : ℕ) → ((b : Block) → F (Some (marked_block b)) ≡ F (Some b))
      → ((b : Block) (v : ℕ) → F (Some (with_refs b (set b.refs f v))) ≡ F (Some b))
      → F (block_at (rescan_at h n f r).pages m) ≡ F (block_at h.pages m)
  rescan_through h n f r m marks writes =
      grey_through marks (with_pages h (write_ref h.pages n f (current h.pages r))) r m
      ∙ write_through h.pages n f (current h.pages r) m (λ b. writes b (current h.pages r))

-- ---- a reference that is not there

past : (xs : List ℕ) (i : ℕ) → None ≡ slice_get xs i → length xs ≤ i
past [] i e = omega arith
past (x ∷ xs) zero e = absurd (cc)
past (x ∷ xs) (suc i) e = let l = past xs i e in omega arith

pub there : (xs : List ℕ) (i x : ℕ) → Some x ≡ slice_get xs i → get_or xs i 0 ≡ x
there [] i x e = absurd (cc)
there (y ∷ ys) zero x e = cc
there (y ∷ ys) (suc i) x e = there ys i x e

pub index_past : (xs : List ℕ) (i : ℕ) → None ≡ slice_get xs i → get_or xs i 0 ≡ 0
index_past xs i e = get_or_past xs i 0 (past xs i e)

put_same : (ps : List Page) (n : ℕ) (b : Block) → block_at ps n ≡ Some b → put_block ps n b ≡ ps
put_same ps n b is =
    let P = page_at ps (page_of n) in
    ap (λ (slots : List (Option Block)). set ps (page_of n) (with_slots P slots))
    (ap (set P.slots (slot_of n)) (sym (block_slot ps n b is)) ∙ set-get_or P.slots (slot_of n) None)
    ∙ set-get_or ps (page_of n) uncut

-- a write to a reference that is not there changes nothing
pub write_past : (ps : List Page) (n f v : ℕ) → None ≡ slice_get (refs_of (block_at ps n)) f → write_ref ps n f v ≡ ps
write_past ps n f v e = by_block (block_at ps n) refl e
  where
    by_block : (o : Option Block) → block_at ps n ≡ o → None ≡ slice_get (refs_of o) f → write_ref_in ps n f v o ≡ ps
    by_block None is q = refl
    by_block (Some b) is q = ap (λ (rs : List ℕ). put_block ps n (with_refs b rs)) (set_past b.refs f v (past b.refs f q)) ∙ put_same ps n b is

barrier_nil : (h : Heap) (ph : Phase) → barrier_in h 0 ph ≡ h
barrier_nil h idle = refl
barrier_nil h (roots i) = refl
barrier_nil h marking = refl
barrier_nil h (sweeping g) = refl
barrier_nil h (moving k s targets) = refl

pub stored_past : (h : Heap) (n f v : ℕ) → None ≡ slice_get (refs_of (block_at h.pages n)) f → stored_in h n f v ≡ h
stored_past h n f v e =
    ap (λ (k : Heap). alter k n (λ b. with_refs b (set b.refs f v)) (block_at k.pages n)) (ap (barrier h) (index_past (refs_of (block_at h.pages n)) f e) ∙ barrier_nil h h.phase)
    ∙ altered (block_at h.pages n)
    ∙ ap (with_pages h) (write_past h.pages n f v e)
  where
    altered : (o : Option Block) → alter h n (λ b. with_refs b (set b.refs f v)) o ≡ with_pages h (write_ref_in h.pages n f v o)
    altered None = refl
    altered (Some b) = refl

-- ---- one reference
some_refs : (o : Option Block) → 0 < length (refs_of o) → (b : Block) × (o ≡ Some b)
some_refs None h = absurd (omega arith)
some_refs (Some b) h = (b, refl)

scan_some : (rs : List ℕ) (h : Heap) (n f r : ℕ) (b : Block) → block_at h.pages n ≡ Some b → scan (r ∷ rs) h n f ≡ scan rs (rescan_at h n f r) n (suc f)
scan_some rs h n f r b e = rw e

pub scan_step : (h k : Heap) (n f : ℕ) → f < length (refs_of (block_at h.pages n))
    → k ≡ rescan_at h n f (get_or (refs_of (block_at h.pages n)) f 0)
    → scan (drop (f + 1) (refs_of (block_at k.pages n))) k n (f + 1) ≡ scan (drop f (refs_of (block_at h.pages n))) h n f
scan_step h k n f l e =
    let R : List ℕ = refs_of (block_at h.pages n) in
    let r : ℕ = get_or R f 0 in
    let i = some_refs (block_at h.pages n) (omega arith) in
    let rest : drop (f + 1) (refs_of (block_at k.pages n)) ≡ drop (f + 1) R =
    ap (λ (x : Heap). drop (f + 1) (refs_of (block_at x.pages n))) e
    ∙ rescan_through (λ (o : Option Block). drop (f + 1) (refs_of o)) h n f r n (λ b. refl) (λ b v. drop-set-lt (f + 1) b.refs f v (omega arith)) in
    ap₂ (λ (x : List ℕ) (y : Heap). scan x y n (f + 1)) rest e
    ∙ ap (λ (x : ℕ). scan (drop (f + 1) R) (rescan_at h n f r) n x) (add-one f)
    ∙ sym (scan_some (drop (f + 1) R) h n f r i.0 i.1)
    ∙ sym (at_drop_more (λ xs. scan xs h n f) R f 0 l)

pub scan_count : (h k : Heap) (n f r : ℕ) → k ≡ rescan_at h n f r → length (refs_of (block_at k.pages n)) ≡ length (refs_of (block_at h.pages n))
scan_count h k n f r e =
    ap (λ (x : Heap). length (refs_of (block_at x.pages n))) e
    ∙ rescan_through (λ (o : Option Block). length (refs_of o)) h n f r n (λ b. refl) (λ b v. length-set b.refs f v)
