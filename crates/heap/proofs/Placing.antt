-- A block that is taken, and the words that are put there.
use Rattle.std.proofs.Common.{◌≡◌, ℕ, suc, ◌+◌, ◌*◌, ◌<◌, ◌≤◌, Bool, true, false, cond, ◌⊎◌, List, [], length, get_or, set, replicate, Some, None, Option, sym, refl, ap, ◌∙◌, subst, inl, inr, mul-le-mul_right, suc-mul, arith, length-drop, length-set, length-take, get_or-set_other, get_or-set_same, ext_get_or}
use lib.ListN.{length-replicate, get_or-replicate}
use lib.Seq.{set-get_or}
use Rattle.std.proofs.lemmas.Bool.{both_ways, cases_eq, cases_lt}
use Rattle.model.specs.Classes.{blocks}
use Rattle.model.specs.Maps.{has}
use Rattle.model.specs.Pages.{Block, Page, uncut, page_at}
use Rattle.model.specs.Making.{ready}
use Rattle.pages.specs.declared.entry.Entry.{Entry}
use Rattle.pages.specs.View.{region, block_of, slot_view, page_view, filled}
use Rattle.pages.specs.Entries.{pages_of, no_entry, entry_at, Taken}
use Rattle.pages.proofs.Views.{same_counted}
use Rattle.pages.proofs.Pages.{Full, set_words, page_of_entry}
use Rattle.heap.specs.Blocks.{Fit, Fits, Wide, Cleared, Written}
use Rattle.heap.proofs.Words.{region_at}

-- ---- words of all pages

pub wide_new : Wide (replicate 64 (replicate 256 0))
wide_new g l = ap length (get_or-replicate 64 g (replicate {A = ℕ} 256 0) [] l) ∙ length-replicate {A = ℕ} 256 0

pub wide_set : (wss : List (List ℕ)) (t : ℕ) (vt : List ℕ) → Wide wss → length wss ≡ 64 → t < 64 → length vt ≡ 256 → Wide (set wss t vt)
wide_set wss t vt wide tall l n g h = elim (cases_eq g t) [
  | inl q ↦ ap (λ (x : ℕ). length (get_or (set wss t vt) x [])) q ∙ ap length (get_or-set_same wss t vt [] (omega arith)) ∙ n
  | inr ne ↦ ap length (get_or-set_other wss t g vt [] ne) ∙ wide g h
]

-- ---- regions of a page of which one block was written

pub region_kept : (size : ℕ) (ws vs : List ℕ) (s k : ℕ) → length vs ≡ length ws
    → ((i : ℕ) → (i < s * size) ⊎ (s * size + size ≤ i) → get_or vs i 0 ≡ get_or ws i 0) → (k ≡ s → ⊥) → region size vs k ≡ region size ws k
region_kept size ws vs s k long other ne =
    let a : length (region size vs k) ≡ length (region size ws k) = simp (length-take, length-drop, long) in
    ext_get_or 0 (region size vs k) (region size ws k) a
    (λ j h.
    let l : length (region size vs k) ≤ size = simp length-take (omega arith) in
    let j-low : j < size = omega arith in
    region_at size vs k j j-low ∙ other (k * size + j) (outside j j-low (cases_lt k s)) ∙ sym (region_at size ws k j j-low))
  where
    outside : (j : ℕ) → j < size → (k < s) ⊎ (s ≤ k) → (k * size + j < s * size) ⊎ (s * size + size ≤ k * size + j)
    outside j h (inl l) =
        let a : suc k * size ≤ s * size = mul-le-mul_right size l in
        let b = suc-mul k size in
        inl (omega arith)
    outside j h (inr l) =
        let lt : s < k = omega (arith, ne) in
        let a : suc s * size ≤ k * size = mul-le-mul_right size lt in
        let b = suc-mul s size in
        inr (omega arith)

-- the words of a new block
module _ (size : ℕ) (ws vs : List ℕ) (s n shape len : ℕ) (w : Written ws vs (s * size) n shape len) (two : 2 ≤ len) (most : len ≤ size) where
  pub written_kept : (k : ℕ) → (k ≡ s → ⊥) → region size vs k ≡ region size ws k
  written_kept k ne = region_kept size ws vs s k w.long outer ne
    where
      outer : (i : ℕ) → (i < s * size) ⊎ (s * size + size ≤ i) → get_or vs i 0 ≡ get_or ws i 0
      outer i (inl l) = w.other i (inl l)
      outer i (inr l) = w.other i (inr (omega arith))

  pub written_cleared : Cleared (region size vs s) n shape len
  written_cleared = record {
    first = (let z : s * size + 0 ≡ s * size = omega arith in region_at size vs s 0 (omega arith) ∙ ap (λ (i : ℕ). get_or vs i 0) z ∙ w.first);
    second = region_at size vs s 1 (omega arith) ∙ w.second;
    rest = λ k a b. region_at size vs s k (omega arith) ∙ w.rest k a b;
  }

-- ---- the pages

-- where the occupied blocks have their words, the page's view is the same
pub kept_page : (size : ℕ) (closed : Bool) (o m : ℕ) (ws vs : List ℕ) → ((k : ℕ) → has o k ≡ true → region size vs k ≡ region size ws k)
    → page_view size closed o m vs ≡ page_view size closed o m ws
unfolding page_view slot_view
kept_page size closed o m ws vs same =
    ap (λ (x : List (Option Block)). record { size = size; closed = closed; slots = x })
    (same_counted (slot_view size o m vs) (slot_view size o m ws) (λ k. at k (has o k) refl) 0 (blocks size))
  where
    at : (k : ℕ) (b : Bool) → has o k ≡ b → cond b (Some (block_of (has m k) (region size vs k))) None ≡ cond b (Some (block_of (has m k) (region size ws k))) None
    at k true e = ap (λ (r : List ℕ). Some (block_of (has m k) r)) (same k e)
    at k false e = refl

module _ (es fs : List Entry) (wss : List (List ℕ)) (t z size : ℕ) (m : Bool) (tk : Taken es fs t z size m) (full : Full es wss) (vt : List ℕ)
    (kept : (k : ℕ) → (k ≡ z → ⊥) → region size vt k ≡ region size (get_or wss t []) k) where
  low : t < 64
  low = tk.low

  -- an occupied block of the page is another one
  same_region : (k : ℕ) → has (entry_at es t).occupied k ≡ true → region (entry_at es t).size vt k ≡ region (entry_at es t).size (get_or wss t []) k
  same_region k on =
      let R : ℕ → Type 0 = λ x. region x vt k ≡ region x (get_or wss t []) k in
      subst R (sym (tk.same_size k on))
      (kept k (λ q. both_ways (has (entry_at es t).occupied k) (ap (has (entry_at es t).occupied) q ∙ tk.free) on))

  same_pages : pages_of es (set wss t vt) ≡ pages_of es wss
  same_pages =
      let e : Entry = entry_at es t in
      let l = low in
      let a = full.0 in
      set_words es wss t vt no_entry (omega arith)
      ∙ ap (set (pages_of es wss) t)
      (kept_page e.size e.closed e.occupied e.marked (get_or wss t []) vt same_region ∙ sym (page_of_entry es wss t full tk.low))
      ∙ set-get_or (pages_of es wss) t uncut

  here : get_or (set wss t vt) t [] ≡ vt
  here = let l = low in let b = full.1 in get_or-set_same wss t vt [] (omega arith)

  pub placed_view : pages_of fs (set wss t vt) ≡ set (pages_of es wss) t (filled (ready (page_at (pages_of es wss) t) size) z (block_of m (region size vt z)))
  placed_view =
      tk.view (set wss t vt) (length-set wss t vt ∙ full.1)
      ∙ ap (λ (ps : List Page). set ps t (filled (ready (page_at ps t) size) z (block_of m (region size (get_or (set wss t vt) t []) z)))) same_pages
      ∙ ap (λ (ws : List ℕ). set (pages_of es wss) t (filled (ready (page_at (pages_of es wss) t) size) z (block_of m (region size ws z)))) here

  pub placed_fits : Fits es wss → Fit size (region size vt z) → Fits fs (set wss t vt)
  placed_fits fits fit g s l on = by (tk.new g s on)
    where
      new : Fit (entry_at fs t).size (region (entry_at fs t).size (get_or (set wss t vt) t []) z)
      new =
          let A : ℕ → Type 0 = λ x. Fit x (region x (get_or (set wss t vt) t []) z) in
          let B : List ℕ → Type 0 = λ ws. Fit size (region size ws z) in
          subst A (sym tk.size_is) (subst B (sym here) fit)

      old : has (entry_at es g).occupied s ≡ true → (entry_at fs g).size ≡ (entry_at es g).size → (g ≡ t) ⊎ (g ≡ t → ⊥)
          → Fit (entry_at fs g).size (region (entry_at fs g).size (get_or (set wss t vt) g []) s)
      old o e (inl q) =
          let A : ℕ → Type 0 = λ x. Fit x (region x (get_or (set wss t vt) g []) s) in
          let B : List ℕ → Type 0 = λ r. Fit (entry_at es g).size r in
          subst A (sym e)
          (subst B
          (sym (ap (λ (x : ℕ). region (entry_at es g).size (get_or (set wss t vt) x []) s) q ∙ ap (λ (ws : List ℕ). region (entry_at es g).size ws s) here
          ∙ ap (λ (x : ℕ). region (entry_at es x).size vt s) q ∙ same_region s (sym (ap (λ (x : ℕ). has (entry_at es x).occupied s) q) ∙ o)
          ∙ sym (ap (λ (x : ℕ). region (entry_at es x).size (get_or wss x []) s) q)))
          (fits g s l o))
      old o e (inr ne) =
          let A : ℕ → Type 0 = λ x. Fit x (region x (get_or (set wss t vt) g []) s) in
          let B : List ℕ → Type 0 = λ ws. Fit (entry_at es g).size (region (entry_at es g).size ws s) in
          subst A (sym e) (subst B (sym (get_or-set_other wss t g vt [] ne)) (fits g s l o))

      by : ((g ≡ t) × (s ≡ z)) ⊎ ((has (entry_at es g).occupied s ≡ true) × ((entry_at fs g).size ≡ (entry_at es g).size))
          → Fit (entry_at fs g).size (region (entry_at fs g).size (get_or (set wss t vt) g []) s)
      by (inl q) =
          let A : ℕ → Type 0 = λ x. Fit (entry_at fs x).size (region (entry_at fs x).size (get_or (set wss t vt) x []) s) in
          let B : ℕ → Type 0 = λ y. Fit (entry_at fs t).size (region (entry_at fs t).size (get_or (set wss t vt) t []) y) in
          subst A (sym q.0) (subst B (sym q.1) new)
      by (inr q) = old q.0 q.1 (cases_eq g t)
