-- Numbers of blocks: where they lead, and what a block that is written leaves of the others.
use Rattle.std.proofs.Common.{◌≡◌, ℕ, zero, suc, ◌<◌, ◌≤◌, eqb, ◌≢◌, List, [], ◌∷◌, length, get_or, set, Some, None, sym, refl, ap, ◌∙◌, ⊎_elim, arith}
use Rattle.std.proofs.lemmas.List.{get_or-set_same, get_or-set_other, get_or_past}
use Rattle.std.proofs.lemmas.Bool.{cases_lt, ne_eqb, cond-false}
use Rattle.model.specs.Pages.{Block, Page, uncut, with_slots, number, page_of, slot_of, page_at, block_at, put_block}
use Rattle.theory.proofs.Lists.{none_some, some_in}

pub page_number : (g s : ℕ) → s < 64 → page_of (number g s) ≡ g
page_number g s h = omega arith

pub slot_number : (g s : ℕ) → s < 64 → slot_of (number g s) ≡ s
slot_number g s h = omega arith

pub number_of : (n : ℕ) → 0 < n → number (page_of n) (slot_of n) ≡ n
number_of n h = omega arith

pub same_number : (m n : ℕ) → 0 < m → 0 < n → page_of m ≡ page_of n → slot_of m ≡ slot_of n → m ≡ n
same_number m n h k p q = omega arith

-- the page and the slot that a number names are there
pub record Room (ps : List Page) (n : ℕ) : Type 0 where
  pub named : 0 < n
  pub page : page_of n < length ps
  pub slot : slot_of n < length (page_at ps (page_of n)).slots

pub block_past : (ps : List Page) (n : ℕ) → 0 < n → block_at ps n ≡ get_or (page_at ps (page_of n)).slots (slot_of n) None
block_past ps n h = cond-false (eqb n 0) _ _ (ne_eqb n 0 (λ e. omega arith))

pub block_number : (ps : List Page) (g s : ℕ) → s < 64 → block_at ps (number g s) ≡ get_or (page_at ps g).slots s None
block_number ps g s h =
    block_past ps (number g s) (omega arith)
    ∙ ap (λ j. get_or (page_at ps j).slots (slot_of (number g s)) None) (page_number g s h)
    ∙ ap (λ j. get_or (page_at ps g).slots j None) (slot_number g s h)

pub room_number : (ps : List Page) (g s : ℕ) → g < length ps → s < length (page_at ps g).slots → s < 64 → Room ps (number g s)
room_number ps g s l k h =
    let p : page_of (number g s) ≡ g = page_number g s h in
    let r : slot_of (number g s) ≡ s = slot_number g s h in
    record { named = omega arith; page = rw p l; slot = rw (p, r) k }

pub named_from : (ps : List Page) (n : ℕ) (b : Block) → block_at ps n ≡ Some b → 0 < n
named_from ps zero b e = none_some b e
named_from ps (suc n) b e = omega arith

pub room_from : (ps : List Page) (n : ℕ) (b : Block) → block_at ps n ≡ Some b → Room ps n
room_from ps n b e =
    let h : 0 < n = named_from ps n b e in
    let k = sym (block_past ps n h) ∙ e in
    let out : length ps ≤ page_of n → page_of n < length ps
    = λ l. none_some b (sym (ap (λ (p : Page). get_or p.slots (slot_of n) None) (get_or_past ps (page_of n) uncut l)) ∙ k) in
    record {
      named = h;
      page = ⊎_elim (λ l. l) out (cases_lt (page_of n) (length ps));
      slot = some_in _ (slot_of n) b k;
    }

-- a page in place of another: what is read afterwards
pub page_set : (P : ℕ → Page → Type 0) (ps : List Page) (g : ℕ) (q : Page) (i : ℕ) → (g < length ps → P g q) → P i (page_at ps i)
    → P i (page_at (set ps g q) i)
page_set P [] g q i h k = k
page_set P (p ∷ ps) zero q zero h k = h (omega arith)
page_set P (p ∷ ps) zero q (suc i) h k = k
page_set P (p ∷ ps) (suc g) q zero h k = k
page_set P (p ∷ ps) (suc g) q (suc i) h k = page_set (λ j r. P (suc j) r) ps g q i (λ l. h (omega arith)) k

pub put_same : (ps : List Page) (n : ℕ) (b : Block) → Room ps n → block_at (put_block ps n b) n ≡ Some b
put_same ps n b r =
    block_past (put_block ps n b) n r.named
    ∙ ap (λ (p : Page). get_or p.slots (slot_of n) None) (get_or-set_same ps (page_of n) _ uncut r.page)
    ∙ get_or-set_same (page_at ps (page_of n)).slots (slot_of n) (Some b) None r.slot

pub put_other : (ps : List Page) (n m : ℕ) (b : Block) → Room ps n → m ≢ n → block_at (put_block ps n b) m ≡ block_at ps m
put_other ps n zero b r d = refl
put_other ps n (suc k) b r d =
    let m : ℕ = suc k in
    let h : 0 < suc k = omega arith in
    block_past (put_block ps n b) m h
    ∙ page_set (λ i p. (i ≡ page_of n → slot_of m ≢ slot_of n) → get_or p.slots (slot_of m) None ≡ get_or (page_at ps i).slots (slot_of m) None)
    ps (page_of n) (with_slots (page_at ps (page_of n)) (set (page_at ps (page_of n)).slots (slot_of n) (Some b))) (page_of m)
    (λ l e. get_or-set_other (page_at ps (page_of n)).slots (slot_of n) (slot_of m) (Some b) None (e refl)) (λ e. refl)
    (λ e f. d (same_number m n h r.named e f))
    ∙ sym (block_past ps m h)
