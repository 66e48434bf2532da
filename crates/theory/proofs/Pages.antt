-- What sweeping a page, closing it, making a block and putting one do to the blocks of a memory.
use Rattle.std.proofs.Common.{◌≡◌, ℕ, zero, suc, ◌<◌, ◌≤◌, Bool, true, false, cond, eqb, ◌≢◌, List, [], ◌∷◌, length, get_or, set, Some, None, Option, sym, refl, ap, ◌∙◌, subst, ⊎_elim, arith}
use mathlib.Core.Path.{fun_ext}
use Rattle.std.proofs.lemmas.List.{length-set, get_or-set_other}
use Rattle.std.proofs.lemmas.Bool.{eqb-true, ne_eqb, cond-true, cond-false}
use Rattle.model.specs.Classes.{blocks}
use Rattle.model.specs.Pages.{Block, Page, uncut, cut, page_of, slot_of, page_at, block_at, put_block, occupied, free, lowest_free, is_uncut}
use Rattle.model.specs.Units.{survivor, survivors, swept, close_page}
use Rattle.model.specs.Making.{page_to_take, ready, ready_pages, free_number}
use Rattle.theory.proofs.Lists.{lowest_in, occupied_none, replicate_at}
use Rattle.theory.proofs.Numbers.{block_past, page_set, put_other, put_same, room_from}
use Rattle.theory.proofs.PageShapes.{PageOk, PagesOk, Target, at_set, close_blocks, cut_ok, cut_room, frame_ok, frame_put, page_for_takes, set_blocks, set_pages_ok, target_room}
use Rattle.theory.proofs.Memory.{Wrote}

-- Putting a block where one is.

pub wrote_put : (ps : List Page) (n : ℕ) (a b : Block) → block_at ps n ≡ Some a → Wrote (block_at ps) (block_at (put_block ps n b)) n b
wrote_put ps n a b e =
    let r = room_from ps n a e in
    record { same = put_same ps n b r; other = λ m d. put_other ps n m b r d }

pub put_ok : {ps : List Page} (n : ℕ) (b : Block) → PagesOk ps → PagesOk (put_block ps n b)
put_ok {ps} n b o = frame_ok ps (put_block ps n b) (frame_put ps n b) o

-- Closing or opening a page: no block changes.

pub close_memory : (ps : List Page) (g : ℕ) (c : Bool) → block_at ps ≡ block_at (close_page ps g c)
close_memory ps g c = fun_ext (λ m. sym (close_blocks ps g c m))

-- Sweeping a page: a block of it survives if it is marked, and the others stay.

survivors_at : (xs : List (Option Block)) (i : ℕ) → get_or (survivors xs) i None ≡ survivor (get_or xs i None)
survivors_at [] i = refl
survivors_at (x ∷ xs) zero = refl
survivors_at (x ∷ xs) (suc i) = survivors_at xs i

swept_at : (p : Page) (i : ℕ) → get_or (swept p).slots i None ≡ survivor (get_or p.slots i None)
swept_at p i = go (eqb (occupied (survivors p.slots)) 0) refl ∙ survivors_at p.slots i
  where
    go : (t : Bool) → eqb (occupied (survivors p.slots)) 0 ≡ t
        → get_or (cond t uncut (record { size = p.size; closed = false; slots = survivors p.slots })).slots i None ≡ get_or (survivors p.slots) i None
    go true e = sym (occupied_none (survivors p.slots) i (eqb-true _ _ e))
    go false e = refl

pub sweep_same : (ps : List Page) (g m : ℕ) → PagesOk ps → 0 < m → g < 64 → page_of m ≡ g
    → block_at (set ps g (swept (page_at ps g))) m ≡ survivor (block_at ps m)
sweep_same ps g m o h l e =
    let q : Page = swept (page_at ps g) in
    block_past (set ps g q) m h
    ∙ ap (λ (p : Page). get_or p.slots (slot_of m) None) (ap (page_at (set ps g q)) e ∙ at_set ps g q (omega (arith, o.many)))
    ∙ swept_at (page_at ps g) (slot_of m)
    ∙ ap survivor (ap (λ k. get_or (page_at ps k).slots (slot_of m) None) (sym e) ∙ sym (block_past ps m h))

pub sweep_other : (ps : List Page) (g : ℕ) (p : Page) (m : ℕ) → 0 < m → page_of m ≢ g → block_at (set ps g p) m ≡ block_at ps m
sweep_other ps g p m h d =
    block_past (set ps g p) m h
    ∙ ap (λ (q : Page). get_or q.slots (slot_of m) None) (get_or-set_other ps g (page_of m) p uncut d)
    ∙ sym (block_past ps m h)

-- Making a block: the page is made ready, where the block goes was free, and nothing else changes.

record Ready (p q : Page) : Type 0 where
  pub ok : PageOk q
  pub room : lowest_free q.slots < length q.slots
  pub same : (i : ℕ) → get_or q.slots i None ≡ get_or p.slots i None

ready_open : (p : Page) (size : ℕ) → 0 < size → PageOk p → p.size ≡ size → 0 < free p → Ready p (ready p size)
ready_open p size h o e f =
    let same : ready p size ≡ p = cond-false (is_uncut p) (cut size) p (ne_eqb p.size 0 (λ z. omega arith)) in
    subst (Ready p) (sym same) (record { ok = o; room = lowest_in p.slots f; same = λ i. refl })

ready_cut : (p : Page) (size : ℕ) → 0 < size → 0 < blocks size → blocks size ≤ 64 → PageOk p → is_uncut p ≡ true → Ready p (ready p size)
ready_cut p size h l m o t =
    let none : p.slots ≡ [] = o.uncut (eqb-true _ _ t) in
    subst (Ready p) (sym (cond-true (is_uncut p) (cut size) p t)) (record {
      ok = cut_ok size h m;
      room = cut_room size l;
      same = λ i. replicate_at (blocks size) i None ∙ sym (ap (λ (x : List (Option Block)). get_or x i None) none);
    })

pub record Made (ps qs : List Page) (n g : ℕ) : Type 0 where
  pub named : 0 < n
  pub free : block_at ps n ≡ None
  pub page : page_of n ≡ g
  pub wrote : (b : Block) → Wrote (block_at ps) (block_at (put_block qs n b)) n b
  pub pages : (b : Block) → PagesOk (put_block qs n b)

pub make_room : (ps : List Page) (size g : ℕ) → 0 < size → 0 < blocks size → blocks size ≤ 64 → PagesOk ps → page_to_take ps size ≡ Some g
    → Made ps (ready_pages ps g size) (free_number (ready_pages ps g size) g) g
make_room ps size g h k m o e = record {
  named = target.room.named;
  free = sym (same n) ∙ target.free;
  page = target.page;
  wrote = λ b. record { same = put_same qs n b target.room; other = λ j d. put_other qs n j b target.room d ∙ same j };
  pages = λ b. put_ok n b fine;
}
  where
    within : g < length ps
    within = (page_for_takes ps size g e).within

    q : Page
    q = ready (page_at ps g) size

    got : Ready (page_at ps g) (ready (page_at ps g) size)
    got = ⊎_elim
        (λ (p : ((page_at ps g).size ≡ size) × (0 < free (page_at ps g))). ready_open (page_at ps g) size h (o.each g) p.0 p.1)
        (λ (t : is_uncut (page_at ps g) ≡ true). ready_cut (page_at ps g) size h k m (o.each g) t)
        (page_for_takes ps size g e).page

    qs : List Page
    qs = ready_pages ps g size

    n : ℕ
    n = free_number (ready_pages ps g size) g

    fine : PagesOk (ready_pages ps g size)
    fine = set_pages_ok ps g (ready (page_at ps g) size) got.ok o

    same : (j : ℕ) → block_at (ready_pages ps g size) j ≡ block_at ps j
    same = set_blocks ps g (ready (page_at ps g) size) got.same

    target : Target (ready_pages ps g size) g (free_number (ready_pages ps g size) g)
    target = target_room (ready_pages ps g size) g fine (rw (length-set ps g (ready (page_at ps g) size)) within)
        (subst (λ (p : Page). lowest_free p.slots < length p.slots) (sym (at_set ps g (ready (page_at ps g) size) within)) got.room)

-- a page that is cut stays as it is
pub ready_keeps : (ps : List Page) (g size j : ℕ) → (page_at ps j).size ≢ 0 → page_at (ready_pages ps g size) j ≡ page_at ps j
ready_keeps ps g size j =
    page_set (λ i p. (page_at ps i).size ≢ 0 → p ≡ page_at ps i) ps g (ready (page_at ps g) size) j
    (λ l d. cond-false (is_uncut (page_at ps g)) (cut size) (page_at ps g) (ne_eqb _ _ d)) (λ d. refl)
