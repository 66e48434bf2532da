-- What holds of a collection under way.
use Rattle.std.proofs.Common.{◌≡◌, ℕ, ◌+◌, ◌≤◌, Bool, true, false, cond, not, List, ◌∷◌, get_or, Some, None, Option, sym, refl, ap, ◌∙◌, arith}
use Rattle.model.specs.Pages.{Block, Page, uncut, page_of, slot_of, page_at, block_at, put_block, current}
use Rattle.model.specs.State.{Heap}
use Rattle.model.specs.Units.{grey, grey_block, marked_block}
use Rattle.heap.specs.Blocks.{marking, mark_in}
use Rattle.heap.specs.View.{white_of}
use Rattle.collector.specs.Counts.{sum_of, slot_white, page_white, white}
use Rattle.heap.specs.declared.heap.Heap.{Heap as Blocks}
use Rattle.heap.specs.View.{view}
use Rattle.heap.proofs.Views.{long, few_slots}
use Rattle.collector.proofs.Sums.{sum_bound, some_within, block_slot, page_within, put_sum}

-- ---- a block is greyed

-- the default of a block that is not marked
white_slot : (o : Option Block) → white_of o ≡ true → (slot_white o ≡ 1) × ((b : Block) × (o ≡ Some b))
white_slot None e = let z : ◌≡◌ {A = ℕ} 0 1 = cc in absurd (omega arith)
white_slot (Some b) e = (by_mark b.marked e, (b, refl))
  where
    by_mark : (m : Bool) → not m ≡ true → ◌≡◌ {A = ℕ} (cond m 0 1) 1
    by_mark true q = let z : ◌≡◌ {A = ℕ} 0 1 = cc in absurd (omega arith)
    by_mark false q = refl

pub white_marking : (ps : List Page) (n : ℕ) → white_of (block_at ps n) ≡ true → white (marking ps n) + 1 ≡ white ps
unfolding white
white_marking ps n e =
    let w = white_slot (block_at ps n) e in
    let b : Block = w.1.0 in
    let is : block_at ps n ≡ Some b = w.1.1 in
    let sl = block_slot ps n b is in
    let put = put_sum slot_white ps n (marked_block b) (page_within ps (page_of n) (slot_of n) b sl) (some_within (page_at ps (page_of n)).slots (slot_of n) b sl) in
    let q : sum_of page_white (marking ps n) ≡ sum_of page_white (put_block ps n (marked_block b)) = ap (λ (o : Option Block). sum_of page_white (mark_in ps n o)) is in
    let one : slot_white (get_or (page_at ps (page_of n)).slots (slot_of n) None) ≡ 1 = ap slot_white (sl ∙ sym is) ∙ w.0 in
    omega arith

pub grey_white : (h : Heap) (n : ℕ) → white_of (block_at h.pages (current h.pages n)) ≡ true
    → grey h n ≡ record { pages = marking h.pages (current h.pages n); work = current h.pages n ∷ h.work; phase = h.phase; units = h.units }
grey_white h n e = by_block (block_at h.pages (current h.pages n)) e
  where
    m : ℕ
    m = current h.pages n

    by_mark : (b : Block) (t : Bool) → not t ≡ true
        → cond t h (record { pages = put_block h.pages (current h.pages n) (marked_block b); work = current h.pages n ∷ h.work; phase = h.phase; units = h.units })
        ≡ record { pages = put_block h.pages (current h.pages n) (marked_block b); work = current h.pages n ∷ h.work; phase = h.phase; units = h.units }
    by_mark b true q = let z : ◌≡◌ {A = ℕ} 0 1 = cc in absurd (omega arith)
    by_mark b false q = refl

    by_block : (o : Option Block) → white_of o ≡ true
        → grey_block h (current h.pages n) o ≡ record { pages = mark_in h.pages (current h.pages n) o; work = current h.pages n ∷ h.work; phase = h.phase; units = h.units }
    by_block None q = let z : ◌≡◌ {A = ℕ} 0 1 = cc in absurd (omega arith)
    by_block (Some b) q = by_mark b b.marked q

pub grey_not : (h : Heap) (n : ℕ) → white_of (block_at h.pages (current h.pages n)) ≡ false → grey h n ≡ h
grey_not h n e = by_block (block_at h.pages (current h.pages n)) e
  where
    by_mark : (k : Heap) (t : Bool) → not t ≡ false → cond t h k ≡ h
    by_mark k true q = refl
    by_mark k false q = let z : ◌≡◌ {A = ℕ} 0 1 = cc in absurd (omega arith)

    by_block : (o : Option Block) → white_of o ≡ false → grey_block h (current h.pages n) o ≡ h
    by_block None q = refl
    by_block (Some b) q =
        by_mark (record { pages = put_block h.pages (current h.pages n) (marked_block b); work = current h.pages n ∷ h.work; phase = h.phase; units = h.units }) b.marked q

-- ---- there are 4096 blocks at most

slot_white_one : (o : Option Block) → slot_white o ≤ 1
slot_white_one None = omega arith
slot_white_one (Some b) = by b.marked
  where
    by : (m : Bool) → cond m 0 1 ≤ 1
    by true = omega arith
    by false = omega arith

pub white_bound : (h : Blocks) → white (view h) ≤ 4096
unfolding white
white_bound h =
    let l = long h in
    let s = sum_bound page_white 64 uncut (view h)
    (λ g k.
    let few = few_slots h g (omega arith) in
    let b = sum_bound slot_white 1 None (page_at (view h) g).slots (λ i q. slot_white_one (get_or (page_at (view h) g).slots i None)) in
    omega arith) in
    omega arith
