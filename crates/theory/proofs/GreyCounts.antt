-- What greying does to counts: an unmarked current block becomes marked and joins the work list, and nothing else changes.
use Rattle.std.proofs.Common.{◌≡◌, ℕ, suc, ◌+◌, true, false, eqb, List, [], ◌∷◌, length, set, Some, None, Option, sym, refl, ap, ◌∙◌, arith}
use Rattle.std.proofs.lemmas.Bool.{cond_both, eq-eqb}
use Rattle.model.specs.Pages.{Block, Page, page_of, block_at, put_block, current, forward_of}
use Rattle.model.specs.State.{Heap, with_pages}
use Rattle.model.specs.Units.{marked_block, with_refs, grey_block, grey, rescan, scan}
use Rattle.theory.proofs.Numbers.{room_from}
use Rattle.theory.proofs.PageShapes.{Frame, frame_put, frame_refl, frame_trans}
use Rattle.theory.proofs.Counts.{Weight, total, total_put, weigh}
use Rattle.theory.proofs.CurrentForms.{Alike, Straight, alike_put, put_current_same, straight_same}

-- a current block counts one more while it is unmarked
abbrev pub Pays : Weight → Type 0
Pays f = (g : ℕ) → f g false true ≡ suc (f g true true)

-- a current block counts the same, marked or not
abbrev pub Keeps : Weight → Type 0
Keeps f = (g : ℕ) → f g false true ≡ f g true true

-- heap `k` is heap `h` but for blocks that were greyed, and references that got their current form
pub record Greyed (h k : Heap) : Type 0 where
  pub frame : Frame h.pages k.pages
  pub phase : k.phase ≡ h.phase
  pub units : k.units ≡ h.units
  pub straight : Straight k.pages
  pub pays : (f : Weight) → Pays f → length k.work + total f k.pages ≡ length h.work + total f h.pages
  pub keeps : (f : Weight) → Keeps f → total f k.pages ≡ total f h.pages

greyed_refl : (h : Heap) → Straight h.pages → Greyed h h
greyed_refl h s = record { frame = frame_refl h.pages; phase = refl; units = refl; straight = s; pays = λ f p. refl; keeps = λ f p. refl }

greyed_trans : (h k l : Heap) → Greyed h k → Greyed k l → Greyed h l
greyed_trans h k l a b = record {
  frame = frame_trans h.pages k.pages l.pages a.frame b.frame;
  phase = b.phase ∙ a.phase;
  units = b.units ∙ a.units;
  straight = b.straight;
  pays = λ f p. b.pays f p ∙ a.pays f p;
  keeps = λ f p. b.keeps f p ∙ a.keeps f p;
}

greyed_block : (h : Heap) (n : ℕ) (o : Option Block) → block_at h.pages n ≡ o → current h.pages n ≡ n → Straight h.pages
    → Greyed h (grey_block h n o)
greyed_block h n None e c s = greyed_refl h s
greyed_block h n (Some b) e c s =
    cond_both b.marked h (record { pages = put_block ps n (marked_block b); work = n ∷ h.work; phase = h.phase; units = h.units })
    (Greyed h) (λ u. greyed_refl h s) marking
  where
    ps : List Page
    ps = h.pages

    own : b.forward ≡ n
    own = sym (ap forward_of e) ∙ c

    was : (f : Weight) → b.marked ≡ false → weigh f (page_of n) n (block_at ps n) ≡ f (page_of n) false true
    was f u = ap (weigh f (page_of n) n) e ∙ ap (λ m. f (page_of n) m (eqb b.forward n)) u ∙ ap (f (page_of n) false) (eq-eqb b.forward n own)

    now : (f : Weight) → weigh f (page_of n) n (Some (marked_block b)) ≡ f (page_of n) true true
    now f = ap (f (page_of n) true) (eq-eqb b.forward n own)

    marking : b.marked ≡ false → Greyed h (record { pages = put_block ps n (marked_block b); work = n ∷ h.work; phase = h.phase; units = h.units })
    marking u =
        let r = room_from ps n b e in
        record {
          frame = frame_put ps n (marked_block b);
          phase = refl;
          units = refl;
          straight = straight_same ps (put_block ps n (marked_block b)) (put_current_same ps n (marked_block b) r (sym (ap forward_of e))) s;
          pays = λ f p. omega (arith, total_put f ps n (marked_block b) r, was f u, now f, p (page_of n));
          keeps = λ f p. omega (arith, total_put f ps n (marked_block b) r, was f u, now f, p (page_of n));
        }

pub greyed : (h : Heap) (n : ℕ) → Straight h.pages → Greyed h (grey h n)
greyed h n s = greyed_block h (current h.pages n) (block_at h.pages (current h.pages n)) refl (s n) s

greyed_rescan : (h : Heap) (n f r : ℕ) (o : Option Block) → block_at h.pages n ≡ o → Straight h.pages → Greyed h (rescan h n f r o)
greyed_rescan h n f r None e s = greyed_refl h s
greyed_rescan h n f r (Some b) e s =
    let c : Block = with_refs b (set b.refs f (current h.pages r)) in
    let k : Heap = with_pages h (put_block h.pages n c) in
    let a : Alike h.pages k.pages = alike_put h.pages n b c e refl refl in
    let s' : Straight k.pages = straight_same h.pages k.pages a.current s in
    let one : Greyed h k = record {
      frame = frame_put h.pages n c;
      phase = refl;
      units = refl;
      straight = s';
      pays = λ w p. omega (arith, a.counts w);
      keeps = λ w p. a.counts w;
    } in
    greyed_trans h k (grey k r) one (greyed k r s')

pub greyed_scan : (rs : List ℕ) (h : Heap) (n f : ℕ) → Straight h.pages → Greyed h (scan rs h n f)
greyed_scan [] h n f s = greyed_refl h s
greyed_scan (r ∷ rs) h n f s =
    let k : Heap = rescan h n f r (block_at h.pages n) in
    let one : Greyed h k = greyed_rescan h n f r (block_at h.pages n) refl s in
    greyed_trans h k (scan rs k n (suc f)) one (greyed_scan rs k n (suc f) one.straight)
