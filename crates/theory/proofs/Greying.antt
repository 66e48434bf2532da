-- Greying keeps the weak tricolour invariant and the phase.
use Rattle.std.proofs.Common.{◌≡◌, ℕ, suc, ◌<◌, ◌≤◌, Bool, true, false, cond, ◌⊎◌, List, [], ◌∷◌, ◌++◌, length, get_or, set, Some, None, Option, sym, refl, ap, ◌∙◌, subst, inl, inr, ⊎_elim}
use Rattle.std.proofs.lemmas.List.{get_or-set_other, length-set}
use Rattle.std.proofs.lemmas.Bool.{cases_eq}
use Rattle.model.specs.Pages.{Block, block_at, current, forward_of, put_block}
use Rattle.model.specs.State.{Heap, Phase, State, idle, marking, moving, roots, sweeping, with_pages}
use Rattle.model.specs.Units.{grey, grey_block, marked_block, rescan, scan, with_refs}
use Rattle.theory.proofs.PageShapes.{PagesOk}
use Rattle.theory.proofs.Lists.{In, in_cons, in_head, in_none, in_tail, none_some}
use Rattle.theory.proofs.Memory.{AllMarked, Forwarding, Keeps, Marked, Mem, White, Wrote, bare, bare_forward, form, form_twice, keeps_refl, white_marked, wrote_all_marked, wrote_back, wrote_forwarding, wrote_keeps}
use Rattle.theory.proofs.WhiteChains.{Covers, Pended, Pending, covers_end, covers_step, shade_step, shrink_step}
use Rattle.theory.proofs.Pages.{put_ok, wrote_put}

abbrev pub memory : Heap → Mem
memory h = block_at h.pages

-- the pages are well formed, forwards lead to current blocks, and the work list has marked blocks
pub record HeapOk (h : Heap) : Type 0 where
  pub pages : PagesOk h.pages
  pub sound : Forwarding (memory h)
  pub works : AllMarked (memory h) h.work

-- the weak tricolour invariant of a heap, with `Q` pending besides the work list
abbrev pub Cover : (ℕ → Type 0) → (ℕ → Type 0) → Heap → Type 0
Cover S Q h = Covers S (memory h) (Pending Q (memory h) h.work)

-- heap `h` with number `n` greyed is heap `k`
pub record Greyed (h k : Heap) (n : ℕ) : Type 1 where
  pub ok : HeapOk k
  pub keeps : Keeps (memory h) (memory k)
  pub cover : (S Q : ℕ → Type 0) → Cover S Q h → Cover S Q k
  pub bared : (m : ℕ) → bare (memory k m) ≡ bare (memory h m)
  pub dark : White (memory k) (form (memory h) n) → ⊥
  pub marks : (m : ℕ) → Marked (memory k) m → Marked (memory h) m ⊎ ((m ≡ form (memory h) n) × In k.work m)
  pub lists : (m : ℕ) → In h.work m → In k.work m
  pub phase : k.phase ≡ h.phase
  pub units : k.units ≡ h.units

pub greyed_form : {h k : Heap} {n : ℕ} → Greyed h k n → (r : ℕ) → form (memory k) r ≡ form (memory h) r
greyed_form {h} {k} g r = sym (bare_forward (memory k r)) ∙ ap forward_of (g.bared r) ∙ bare_forward (memory h r)

abbrev greyed_heap : Heap → ℕ → Block → Heap
greyed_heap h n b = record { pages = put_block h.pages n (marked_block b); work = n ∷ h.work; phase = h.phase; units = h.units }

grey_not : (h : Heap) (n : ℕ) → HeapOk h → (White (memory h) (form (memory h) n) → ⊥) → Greyed h h n
grey_not h n ok d = record {
  ok = ok;
  keeps = keeps_refl (memory h);
  cover = λ S Q c. c;
  bared = λ m. refl;
  dark = d;
  marks = λ m i. inl i;
  lists = λ m i. i;
  phase = refl;
  units = refl;
}

grey_new : (h : Heap) (n : ℕ) (b : Block) → HeapOk h → memory h (form (memory h) n) ≡ Some b → b.marked ≡ false
    → Greyed h (greyed_heap h (form (memory h) n) b) n
grey_new h n b ok e u = record {
  ok = record { pages = put_ok c (marked_block b) ok.pages; sound = wrote_forwarding e wr refl (λ t. here) ok.sound; works = works };
  keeps = wrote_keeps e wr refl (λ t. refl);
  cover = λ S Q. covers_step S (shade_step e wr Q h.work);
  bared = λ m. ⊎_elim (λ (f : m ≡ c). ap bare (ap N f ∙ wr.same) ∙ sym (ap bare (ap M f ∙ e))) (λ (d : m ≡ c → ⊥). ap bare (wr.other m d)) (cases_eq m c);
  dark = λ w. white_marked w black;
  marks = λ m x. ⊎_elim
      (λ p. inr (p.0, subst (In (c ∷ h.work)) (sym p.0) (in_head c h.work)))
      (λ p. inl (record { block = x.block; is = p.1; marked = x.marked }))
      (wrote_back e wr refl m x.block x.is);
  lists = λ m i. in_tail c h.work i;
  phase = refl;
  units = refl;
}
  where
    M : Mem
    M = memory h

    c : ℕ
    c = form M n

    N : Mem
    N = block_at (put_block h.pages c (marked_block b))

    wr : Wrote M N c (marked_block b)
    wr = wrote_put h.pages c b (marked_block b) e

    here : b.forward ≡ c
    here = sym (ap forward_of e) ∙ form_twice ok.sound n

    black : Marked N c
    black = record { block = marked_block b; is = wr.same; marked = refl }

    works : (m : ℕ) → In (c ∷ h.work) m → Marked N m
    works m i =
        ⊎_elim
        (λ (f : c ≡ m). subst (Marked N) f black)
        (λ j. wrote_all_marked e wr refl (λ t. refl) h.work ok.works m j)
        (in_cons c h.work i)

grey_at : (h : Heap) (n : ℕ) → HeapOk h → (x : Option Block) → memory h (form (memory h) n) ≡ x → Greyed h (grey_block h (form (memory h) n) x) n
grey_at h n ok None e = grey_not h n ok (λ w. none_some w.block (sym e ∙ w.is))
grey_at h n ok (Some b) e = go b.marked refl
  where
    go : (t : Bool) → b.marked ≡ t → Greyed h (cond t h (greyed_heap h (form (memory h) n) b)) n
    go true u = grey_not h n ok (λ w. white_marked w (record { block = b; is = e; marked = u }))
    go false u = grey_new h n b ok e u

pub grey_done : (h : Heap) (n : ℕ) → HeapOk h → Greyed h (grey h n) n
grey_done h n ok = grey_at h n ok (memory h (form (memory h) n)) refl

-- what leads to no white block need not be pending
pub forget : (S Q R : ℕ → Type 0) (h : Heap) → ((r : ℕ) → Q r → White (memory h) (form (memory h) r) → R r) → Cover S Q h → Cover S R h
forget S Q R h f = covers_step S (shrink_step (memory h) _ _ go)
  where
    go : (r n : ℕ) → Pending Q (memory h) h.work r → form (memory h) r ≡ n → White (memory h) n
        → Pended (memory h) (Pending R (memory h) h.work) n
    go r n (inl q) e v = (r, inl (f r q (subst (White (memory h)) (sym e) v)), e)
    go r n (inr w) e v = (r, inr w, e)

-- a number in a place from `i` on
pub record Unscanned (xs : List ℕ) (i r : ℕ) : Type 0 where
  pub at : ℕ
  pub from : i ≤ at
  pub inside : at < length xs
  pub is : get_or xs at 0 ≡ r

abbrev pub places : State → List ℕ
places s = s.holder ++ s.agenda

abbrev pub OrIn : (ℕ → Type 0) → List ℕ → ℕ → Type 0
OrIn Q rs r = Q r ⊎ In rs r

-- with the roots done and nothing on the work list, all of `S` is marked
pub mark_end : (S : ℕ → Type 0) (h : Heap) → h.work ≡ [] → Cover S (λ r. ⊥) h → (n : ℕ) → S n → Marked (memory h) n
mark_end S h e c = covers_end S none c
  where
    none : (r : ℕ) → Pending (λ r. ⊥) (memory h) h.work r → ⊥
    none r (inl x) = x
    none r (inr x) = in_none (subst (λ l. In l x.from) e x.listed)

-- the phases with the barrier, and the places that each has yet to scan
abbrev pub Barrier : Phase → Type 0
Barrier idle = ⊥
Barrier (roots i) = Unit {0}
Barrier marking = Unit {0}
Barrier (sweeping g) = ⊥
Barrier (moving k s i) = ⊥

abbrev pub Left : Phase → List ℕ → ℕ → Type 0
Left idle xs r = ⊥
Left (roots i) xs r = Unscanned xs i r
Left marking xs r = ⊥
Left (sweeping g) xs r = ⊥
Left (moving k s i) xs r = ⊥

unscanned_set : (xs : List ℕ) (i p v r : ℕ) → Unscanned xs i r → (get_or xs p 0 ≡ r) ⊎ Unscanned (set xs p v) i r
unscanned_set xs i p v r u =
    ⊎_elim
    (λ (e : u.at ≡ p). inl (sym (ap (λ j. get_or xs j 0) e) ∙ u.is))
    (λ (d : u.at ≡ p → ⊥). inr (record { at = u.at; from = u.from; inside = rw (length-set xs p v) u.inside; is = get_or-set_other xs p u.at v 0 d ∙ u.is }))
    (cases_eq u.at p)

pub left_set : (ph : Phase) (xs : List ℕ) (p v r : ℕ) → Left ph xs r → (get_or xs p 0 ≡ r) ⊎ Left ph (set xs p v) r
left_set idle xs p v r x = absurd x
left_set (roots i) xs p v r x = unscanned_set xs i p v r x
left_set marking xs p v r x = absurd x
left_set (sweeping g) xs p v r x = absurd x
left_set (moving k s i) xs p v r x = absurd x

pub grey_block_phase : (h : Heap) (n : ℕ) (x : Option Block) → (grey_block h n x).phase ≡ h.phase
grey_block_phase h n None = refl
grey_block_phase h n (Some b) = go b.marked
  where
    go : (t : Bool) → (cond t h (record { pages = put_block h.pages n (marked_block b); work = n ∷ h.work; phase = h.phase; units = h.units })).phase ≡ h.phase
    go true = refl
    go false = refl

rescan_phase : (h : Heap) (n f r : ℕ) (x : Option Block) → (rescan h n f r x).phase ≡ h.phase
rescan_phase h n f r None = refl
rescan_phase h n f r (Some b) =
    let k = with_pages h (put_block h.pages n (with_refs b (set b.refs f (current h.pages r)))) in
    grey_block_phase k (current k.pages r) (block_at k.pages (current k.pages r))

pub scan_phase : (rs : List ℕ) (h : Heap) (n f : ℕ) → (scan rs h n f).phase ≡ h.phase
scan_phase [] h n f = refl
scan_phase (r ∷ rs) h n f = scan_phase rs _ n (suc f) ∙ rescan_phase h n f r (block_at h.pages n)
