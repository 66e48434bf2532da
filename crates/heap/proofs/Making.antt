-- A new block.
use Rattle.std.proofs.Common.{◌≡◌, ℕ, ◌+◌, ◌*◌, ◌/◌, ◌%◌, ◌<◌, ◌≤◌, Bool, true, false, cond, eqb, List, [], length, get_or, set, Some, None, Option, sym, ap, ◌∙◌, subst, arith, get_or-set_same, set-set}
use Rattle.std.proofs.lemmas.Bool.{lt-ltb, le-ltb}
use Rattle.model.specs.Classes.{fitting}
use Rattle.model.specs.Pages.{Block, Page, uncut, number, page_at, put_block, lowest_free}
use Rattle.model.specs.Making.{page_to_take, ready, ready_pages, free_number}
use Rattle.pages.specs.declared.entry.Entry.{Entry}
use Rattle.pages.specs.Classes.{Smallest}
use Rattle.pages.specs.View.{region, block_of, filled}
use Rattle.pages.specs.Entries.{pages_of, entry_at, Taken}
use Rattle.pages.specs.Choices.{room_for}
use Rattle.pages.proofs.Pages.{Full, pages_long}
use Rattle.heap.specs.Blocks.{Fit, Fits, Wide, Written}
use Rattle.heap.specs.View.{new_page, new_block}
use Rattle.heap.proofs.Words.{block_end, region_length, new_block_is, cleared_less}
use Rattle.heap.proofs.Found.{put_number}
use Rattle.heap.proofs.Placing.{written_kept, written_cleared, wide_set, placed_view, placed_fits}

-- ---- the page for it

module _ (ps : List Page) (r d : ℕ) where
  pub new_over : 30 < r + d → new_page ps r d ≡ None
  new_over l = ap (λ (b : Bool). cond b None (page_to_take ps (fitting (2 + r + d)))) (lt-ltb 30 (r + d) l)

  within : r + d ≤ 30 → new_page ps r d ≡ page_to_take ps (fitting (2 + r + d))
  within l = ap (λ (b : Bool). cond b None (page_to_take ps (fitting (2 + r + d)))) (le-ltb 30 (r + d) l)

  pub new_some : (g : ℕ) → r + d ≤ 30 → room_for ps (2 + r + d) ≡ Some g → new_page ps r d ≡ Some g
  new_some g l e = within l ∙ by (eqb (fitting (2 + r + d)) 0) (page_to_take ps (fitting (2 + r + d))) e
    where
      by : (b : Bool) (o : Option ℕ) → cond b None o ≡ Some g → o ≡ Some g
      by true o q = let z : ◌≡◌ {A = ℕ} 0 1 = cc in absurd (omega arith)
      by false o q = q

-- ---- its words

module _ (size : ℕ) (ws vs : List ℕ) (s n r d : ℕ) (w : Written ws vs (s * size) n (r + 32 * d) (2 + r + d)) (long : length ws ≡ 256)
    (few : r + d ≤ 30) (fits : 2 + r + d ≤ size) (low : s < 256 / size) where
  pub made_kept : (k : ℕ) → (k ≡ s → ⊥) → region size vs k ≡ region size ws k
  made_kept = written_kept size ws vs s n (r + 32 * d) (2 + r + d) w (omega arith) fits

  pub made_fit : Fit size (region size vs s)
  made_fit =
      let c = written_cleared size ws vs s n (r + 32 * d) (2 + r + d) w (omega arith) fits in
      let N : ℕ → Type 0 = λ x. 2 + (x % 32 + x / 32) ≤ size in
      subst N (sym c.second) (omega arith)

  pub made_block : (m : Bool) → block_of m (region size vs s) ≡ new_block n m r d
  made_block m =
      let e = block_end size s low in
      let v = w.long in
      let len = region_length size vs s (omega arith) in
      new_block_is m (region size vs s) n r d (omega arith) (omega arith)
      (cleared_less (region size vs s) n (r + 32 * d) (2 + r + d) (2 + (r + d)) (written_cleared size ws vs s n (r + 32 * d) (2 + r + d) w (omega arith) fits) (omega arith))

-- ---- its page

module _ (ps : List Page) (g size z n : ℕ) (low : g < length ps) (short : z < 64) (lowest : z ≡ lowest_free (ready (page_at ps g) size).slots) (is : n ≡ number g z) where
  abbrev rs : List Page
  rs = ready_pages ps g size

  at : page_at (ready_pages ps g size) g ≡ ready (page_at ps g) size
  at = get_or-set_same ps g (ready (page_at ps g) size) uncut low

  pub made_number : n ≡ free_number (ready_pages ps g size) g
  made_number = is ∙ ap (number g) lowest ∙ sym (ap (λ (p : Page). number g (lowest_free p.slots)) at)

  pub made_pages : (b : ℕ → Block) → set ps g (filled (ready (page_at ps g) size) z (b n))
      ≡ put_block (ready_pages ps g size) (free_number (ready_pages ps g size) g) (b (free_number (ready_pages ps g size) g))
  made_pages b =
      sym (set-set ps g (ready (page_at ps g) size) (filled (ready (page_at ps g) size) z (b n)))
      ∙ sym (ap (λ (p : Page). set (ready_pages ps g size) g (filled p z (b n))) at)
      ∙ put_number (ready_pages ps g size) g z (b n) short
      ∙ ap (λ (x : ℕ). put_block (ready_pages ps g size) x (b n)) (sym is)
      ∙ ap (λ (x : ℕ). put_block (ready_pages ps g size) x (b x)) made_number

-- ---- all of it

module _ (es fs : List Entry) (wss : List (List ℕ)) (g z size r d : ℕ) (m : Bool) (tk : Taken es fs g z size m) (full : Full es wss) (wide : Wide wss)
    (few : r + d ≤ 30) (sm : Smallest (2 + r + d) size) where
  enough : 2 + r + d ≤ size
  enough = sm.holds (sm.least 19 (omega arith) (let h : 2 + r + d ≤ 32 = omega arith in h)).0

  pub made_short : z < 64
  made_short =
      let f = (entry_at fs g).few in
      let e : 256 / (entry_at fs g).size ≡ 256 / size = ap (λ (x : ℕ). 256 / x) tk.size_is in
      let s = tk.short in omega arith

  old : length (get_or wss g []) ≡ 256
  old = wide g tk.low

  module _ (n : ℕ) (vs : List ℕ) (w : Written (get_or wss g []) vs (z * size) n (r + 32 * d) (2 + r + d)) where
    keeps : (k : ℕ) → (k ≡ z → ⊥) → region size vs k ≡ region size (get_or wss g []) k
    keeps = made_kept size (get_or wss g []) vs z n r d w old few enough tk.short

    pub made_wide : Wide (set wss g vs)
    made_wide = wide_set wss g vs wide full.1 tk.low (w.long ∙ old)

    pub made_fits : Fits es wss → Fits fs (set wss g vs)
    made_fits fits = placed_fits es fs wss g z size m tk full vs keeps fits (made_fit size (get_or wss g []) vs z n r d w old few enough tk.short)

    module _ (is : n ≡ number g z) where
      ps_low : g < length (pages_of es wss)
      ps_low = let l = pages_long es wss full in let k = tk.low in omega arith

      pub made_at : n ≡ free_number (ready_pages (pages_of es wss) g size) g
      made_at = made_number (pages_of es wss) g size z n ps_low made_short (tk.lowest wss full.1) is

      pub made_view : pages_of fs (set wss g vs)
          ≡ put_block (ready_pages (pages_of es wss) g size) (free_number (ready_pages (pages_of es wss) g size) g) (new_block (free_number (ready_pages (pages_of es wss) g size) g) m r d)
      made_view =
          placed_view es fs wss g z size m tk full vs keeps
          ∙ ap (λ (b : Block). set (pages_of es wss) g (filled (ready (page_at (pages_of es wss) g) size) z b)) (made_block size (get_or wss g []) vs z n r d w old few enough tk.short m)
          ∙ made_pages (pages_of es wss) g size z n ps_low made_short (tk.lowest wss full.1) is (λ x. new_block x m r d)
