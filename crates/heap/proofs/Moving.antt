-- A block that is moved.
use Rattle.std.proofs.Common.{◌≡◌, ℕ, ◌+◌, ◌*◌, ◌/◌, ◌%◌, ◌<◌, ◌≤◌, Bool, ◌⊎◌, List, [], length, get_or, set, sym, ap, ◌∙◌, subst, ap₂, inl, inr, arith, length-set, get_or-set_other, get_or-set_same, ext_get_or}
use lib.Seq.{set_comm}
use Rattle.std.proofs.lemmas.Bool.{cases_eq}
use Rattle.model.specs.Maps.{has}
use Rattle.model.specs.Pages.{Block, Page, uncut, number, page_of, slot_of, page_at, block_at, put_block}
use Rattle.model.specs.Units.{with_forward, moved}
use Rattle.model.specs.Making.{ready}
use Rattle.pages.specs.declared.entry.Entry.{Entry}
use Rattle.pages.specs.View.{region, block_of, filled}
use Rattle.pages.specs.Entries.{pages_of, entry_at, Taken}
use Rattle.pages.proofs.Taking.{ready_same}
use Rattle.pages.proofs.Pages.{Full}
use Rattle.heap.specs.Blocks.{block_words, with_word, Fit, Fits, Wide, Located, Copied, forward_in}
use Rattle.heap.proofs.Words.{block_end, region_at, region_length, write_forward}
use Rattle.heap.proofs.Found.{put_number, put_forward, block_length, wide_word, fits_word}
use Rattle.heap.proofs.Placing.{region_kept, wide_set, placed_view, placed_fits}

-- ---- a block is moved

-- a block with the number of its copy in front
module _ (size : ℕ) (ws vt : List ℕ) (s z v : ℕ) (long : s * size + size ≤ length ws) (room : z * size + size ≤ length vt) (some : 1 ≤ size)
    (first : get_or vt (z * size) 0 ≡ v) (rest : (k : ℕ) → 1 ≤ k → k < size → get_or vt (z * size + k) 0 ≡ get_or ws (s * size + k) 0) where
  pub copied_region : region size vt z ≡ set (region size ws s) 0 v
  copied_region =
      let a = region_length size vt z room in
      let b = region_length size ws s long in
      let e = length-set (region size ws s) 0 v in
      ext_get_or 0 (region size vt z) (set (region size ws s) 0 v) (omega arith)
      (λ j h. let l : j < size = omega arith in region_at size vt z j l ∙ by j l (cases_eq j 0))
    where
      by : (j : ℕ) → j < size → (j ≡ 0) ⊎ (j ≡ 0 → ⊥) → get_or vt (z * size + j) 0 ≡ get_or (set (region size ws s) 0 v) j 0
      by j l (inl q) =
          let b = region_length size ws s long in
          let x : z * size + j ≡ z * size = omega arith in
          ap (λ (i : ℕ). get_or vt i 0) x ∙ first ∙ sym (ap (λ (i : ℕ). get_or (set (region size ws s) 0 v) i 0) q ∙ get_or-set_same (region size ws s) 0 v 0 (omega arith))
      by j l (inr ne) =
          rest j (omega (arith, ne)) l ∙ sym (region_at size ws s j l) ∙ sym (get_or-set_other (region size ws s) 0 j v 0 ne)

-- the pages with a block and its copy
moved_pages : (ps : List Page) (g t s z n v : ℕ) (b : Block) → (g ≡ t → ⊥) → s < 64 → z < 64 → n ≡ number g s → v ≡ number t z
    → set (put_block ps n b) t (filled (page_at ps t) z b) ≡ put_block (put_block ps v b) n b
moved_pages ps g t s z n v b ne ls lz ns vs =
    let X : Page = filled (page_at ps g) s b in
    let Y : Page = filled (page_at ps t) z b in
    let pn : put_block ps n b ≡ set ps g X = ap (λ (x : ℕ). put_block ps x b) ns ∙ sym (put_number ps g s b ls) in
    let pv : put_block ps v b ≡ set ps t Y = ap (λ (x : ℕ). put_block ps x b) vs ∙ sym (put_number ps t z b lz) in
    let at : page_at (set ps t Y) g ≡ page_at ps g = get_or-set_other ps t g Y uncut ne in
    ap (λ (x : List Page). set x t Y) pn
    ∙ set_comm ps g t X Y ne
    ∙ sym (ap (λ (p : Page). set (set ps t Y) g (filled p s b)) at)
    ∙ put_number (set ps t Y) g s b ls
    ∙ ap₂ (λ (x : List Page) (y : ℕ). put_block x y b) (sym pv) (sym ns)

module _ (es fs : List Entry) (wss vss : List (List ℕ)) (n g s t z size : ℕ) (m : Bool) (count : length es ≡ 64) (tall : length wss ≡ 64) (wide : Wide wss) (fits : Fits es wss)
    (at : Located es wss n g s) (ns : n ≡ number g s) (size_is : size ≡ (entry_at es g).size) (m-is : m ≡ has (entry_at es g).marked s)
    (tk : Taken es fs t z size m) (ne : g ≡ t → ⊥) (class : (page_at (pages_of es wss) t).size ≡ size) where
  abbrev ps : List Page
  ps = pages_of es wss

  some : 2 ≤ size
  some = let f = at.fit in omega arith

  pub moved_room : (s * size + size ≤ 256) × (z * size + size ≤ 256)
  moved_room =
      let e : s * size + size ≡ s * (entry_at es g).size + (entry_at es g).size = ap (λ (x : ℕ). s * x + x) size_is in
      let r = at.room in (omega arith, block_end size z tk.short)

  pub moved_short : z < 64
  moved_short =
      let f = (entry_at fs t).few in
      let e : 256 / (entry_at fs t).size ≡ 256 / size = ap (λ (x : ℕ). 256 / x) tk.size_is in
      let h = tk.short in omega arith

  module _ (v : ℕ) (vs : v ≡ number t z) (cp : Copied wss vss g (s * size) t (z * size) size v) where
    words_are : vss ≡ set (with_word es wss g s 0 v) t cp.vt
    words_are =
        let e : s * size ≡ s * (entry_at es g).size + 0 = ap (λ (x : ℕ). s * x) size_is ∙ (let z : s * (entry_at es g).size ≡ s * (entry_at es g).size + 0 = omega arith in z) in
        cp.pages ∙ ap (λ (i : ℕ). set (set wss g (set (get_or wss g []) i v)) t cp.vt) e

    w1_tall : length (with_word es wss g s 0 v) ≡ 64
    w1_tall = length-set wss g (set (get_or wss g []) (s * (entry_at es g).size + 0) v) ∙ tall

    w1_full : Full es (with_word es wss g s 0 v)
    w1_full = (count, w1_tall)

    beside : get_or (with_word es wss g s 0 v) t [] ≡ get_or wss t []
    beside = get_or-set_other wss g t (set (get_or wss g []) (s * (entry_at es g).size + 0) v) [] (λ q. ne (sym q))

    target_long : length (get_or wss t []) ≡ 256
    target_long = wide t tk.low

    keeps : (k : ℕ) → (k ≡ z → ⊥) → region size cp.vt k ≡ region size (get_or (with_word es wss g s 0 v) t []) k
    keeps k no-z =
        region_kept size (get_or wss t []) cp.vt z k cp.long cp.other no-z ∙ ap (λ (x : List ℕ). region size x k) (sym beside)

    region_is : region size cp.vt z ≡ set (block_words es wss g s) 0 v
    region_is =
        let long = wide g at.low in
        let vlong = cp.long in
        let tl = target_long in
        let r = moved_room.0 in
        let q = moved_room.1 in
        let two = some in
        copied_region size (get_or wss g []) cp.vt s z v (omega arith) (omega arith) (omega arith) cp.first cp.rest
        ∙ ap (λ (x : ℕ). set (region x (get_or wss g []) s) 0 v) size_is

    block_is : block_of m (region size cp.vt z) ≡ with_forward (block_of (has (entry_at es g).marked s) (block_words es wss g s)) v
    block_is =
        let len = block_length es wss g s wide at.low at.room in
        let f = at.fit in
        ap₂ block_of m-is region_is ∙ write_forward (has (entry_at es g).marked s) (block_words es wss g s) v (omega arith)

    pub moved_wide : Wide vss
    moved_wide =
        let W : List (List ℕ) → Type 0 = λ x. Wide x in
        subst W (sym words_are) (wide_set (with_word es wss g s 0 v) t cp.vt (wide_word es wss g s 0 v wide tall at.low) w1_tall tk.low (cp.long ∙ target_long))

    pub moved_tall : length vss ≡ 64
    moved_tall = ap length words_are ∙ length-set (with_word es wss g s 0 v) t cp.vt ∙ w1_tall

    pub moved_fits : Fits fs vss
    moved_fits =
        let F : List (List ℕ) → Type 0 = λ x. Fits fs x in
        let two = some in
        let N : ℕ → Type 0 = λ x. 2 + (x % 32 + x / 32) ≤ size in
        let R : List ℕ → Type 0 = λ x. Fit size x in
        let Z : ℕ → Type 0 = λ x. Fit x (block_words es wss g s) in
        let own : Fit size (region size cp.vt z) =
        subst R (sym region_is) (subst N (sym (get_or-set_other (block_words es wss g s) 0 1 v 0 (λ e. omega arith))) (subst Z (sym size_is) at.fit)) in
        subst F (sym words_are)
        (placed_fits es fs (with_word es wss g s 0 v) t z size m tk w1_full cp.vt keeps
        (fits_word es wss g s 0 v fits wide tall at.low at.room (let f = at.fit in omega arith) (λ e. absurd (omega arith))) own)

    pub moved_view : pages_of fs vss ≡ moved (pages_of es wss) n v (block_at (pages_of es wss) n)
    moved_view =
        let b : Block = block_of (has (entry_at es g).marked s) (block_words es wss g s) in
        let B : Block = with_forward b v in
        let Q : List Page = pages_of es (with_word es wss g s 0 v) in
        let q : Q ≡ put_block (pages_of es wss) n B =
        put_forward es wss n g s count tall wide at v ∙ ap (forward_in (pages_of es wss) n v) at.block in
        let two = some in
        let t-page : page_at (put_block (pages_of es wss) n B) t ≡ page_at (pages_of es wss) t =
        get_or-set_other (pages_of es wss) (page_of n) t (filled (page_at (pages_of es wss) (page_of n)) (slot_of n) B) uncut (λ e. ne (at.page ∙ sym e)) in
        ap (pages_of fs) words_are
        ∙ placed_view es fs (with_word es wss g s 0 v) t z size m tk w1_full cp.vt keeps
        ∙ ap₂ (λ (x : List Page) (y : Block). set x t (filled (ready (page_at x t) size) z y)) q block_is
        ∙ ap (λ (p : Page). set (put_block (pages_of es wss) n B) t (filled (ready p size) z B)) t-page
        ∙ ap (λ (p : Page). set (put_block (pages_of es wss) n B) t (filled p z B)) (ready_same (page_at (pages_of es wss) t) size (λ e. let c = class in omega arith))
        ∙ moved_pages (pages_of es wss) g t s z n v B ne at.short moved_short ns vs
        ∙ sym (ap (moved (pages_of es wss) n v) at.block)
