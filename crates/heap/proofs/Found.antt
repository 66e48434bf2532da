-- Blocks by their numbers: what is found, and what a write makes of all pages.
use Rattle.std.proofs.Common.{◌≡◌, ℕ, ◌+◌, ◌*◌, ◌/◌, ◌%◌, ◌<◌, ◌≤◌, Bool, true, false, cond, eqb, ltb, slice_get, MatchOption, ◌⊎◌, List, [], length, get_or, set, Some, None, Option, sym, refl, ap, ◌∙◌, subst, ap₂, inl, inr, arith, length-set, get_or-set_other, get_or-set_same}
use lib.Seq.{set-get_or}
use Rattle.std.specs.Bool.{then_some}
use Rattle.std.proofs.lemmas.List.{set_past}
use Rattle.std.proofs.lemmas.Bool.{ne_eqb, cases_eq, ltb-true, ltb-false}
use Rattle.std.proofs.lemmas.Option.{slice_get-get_or}
use Rattle.std.proofs.lemmas.List.FromFn.{length-map-range_with_len}
use Rattle.model.specs.Classes.{blocks}
use Rattle.model.specs.Maps.{has}
use Rattle.model.specs.Pages.{Block, Page, uncut, with_slots, page_at, page_of, slot_of, block_at, put_block, current, forward_of, number, refs_of, words_of}
use Rattle.model.specs.Units.{with_refs, with_forward, marked_block}
use Rattle.pages.specs.declared.entry.Entry.{Entry}
use Rattle.pages.specs.View.{region, refs_in, words_in, block_of, slot_view, page_view}
use Rattle.pages.specs.Entries.{pages_of, no_entry, entry_at, NoneNew, mark_slot, mark_slot_in}
use Rattle.pages.proofs.Bits.{has_within}
use Rattle.pages.proofs.Views.{slot_at}
use Rattle.pages.proofs.Pages.{page_is, page_past, set_words}
use Rattle.heap.specs.Blocks.{block_words, Fit, Fits, Wide, Located, Finds, Lies, FindsReference, FindsWord, with_word, write_ref, write_ref_in, forwarding, forward_in, marking, mark_in}
use Rattle.heap.specs.View.{write_word, write_word_in}
use Rattle.heap.proofs.Words.{write_page, block_end, region_here, region_there, region_length, refs_count, refs_at, write_forward, write_ref as block-write-ref, write_word as block-write-word, words_count, words_at, with_words}

-- the block that a number names
pub block_is : (es : List Entry) (wss : List (List ℕ)) (n : ℕ) (d : Entry) → 0 < n → page_of n < length es → page_of n < length wss
    → block_at (pages_of es wss) n
    ≡ slot_view (get_or es (page_of n) d).size (get_or es (page_of n) d).occupied (get_or es (page_of n) d).marked (get_or wss (page_of n) []) (slot_of n)
block_is es wss n d p h k =
    ap (λ (b : Bool). cond b None (get_or (page_at (pages_of es wss) (page_of n)).slots (slot_of n) None)) (ne_eqb n 0 (λ e. omega arith))
    ∙ ap (λ (q : Page). get_or q.slots (slot_of n) None) (page_is es wss (page_of n) uncut d h k)
    ∙ (let e : Entry = get_or es (page_of n) d in slot_at e.size e.closed e.occupied e.marked (get_or wss (page_of n) []) (slot_of n) e.below)

pub block_past : (es : List Entry) (wss : List (List ℕ)) (n : ℕ) → length es ≤ page_of n → block_at (pages_of es wss) n ≡ None
block_past es wss n h =
    ap (λ (q : Page). cond (eqb n 0) None (get_or q.slots (slot_of n) None)) (page_past es wss (page_of n) uncut h)
    ∙ both (eqb n 0)
  where
    both : (b : Bool) → cond b None (get_or {A = Option Block} [] (slot_of n) None) ≡ None
    both true = refl
    both false = refl

-- block `s` of page `g` is put in
abbrev pub put_at : List Page → ℕ → ℕ → Block → List Page
put_at ps g s b = set ps g (with_slots (page_at ps g) (set (page_at ps g).slots s (Some b)))

-- one word of a block is written
pub put_word : (es : List Entry) (wss : List (List ℕ)) (g s j v : ℕ) → g < length es → g < length wss
    → has (entry_at es g).occupied s ≡ true → j < (entry_at es g).size
    → pages_of es (with_word es wss g s j v)
    ≡ put_at (pages_of es wss) g s (block_of (has (entry_at es g).marked s) (set (block_words es wss g s) j v))
put_word es wss g s j v h k on l =
    let e : Entry = entry_at es g in
    let ws : List ℕ = get_or wss g [] in
    set_words es wss g (set ws (s * e.size + j) v) no_entry h
    ∙ ap (λ (q : Page). set (pages_of es wss) g q)
    (write_page e.size e.closed e.occupied e.marked ws s j v (has_within e.occupied (blocks e.size) s e.below on) on l)
    ∙ ap (λ (q : Page). set (pages_of es wss) g (with_slots q (set q.slots s (Some (block_of (has e.marked s) (set (block_words es wss g s) j v))))))
    (sym (page_is es wss g uncut no_entry h k))

-- putting in what is there changes nothing
pub put_same : (ps : List Page) (n : ℕ) (b : Block) → block_at ps n ≡ Some b → put_block ps n b ≡ ps
put_same ps n b e =
    let P : Page = page_at ps (page_of n) in
    ap (λ (o : Option Block). set ps (page_of n) (with_slots P (set P.slots (slot_of n) o))) (sym (there (eqb n 0) (get_or P.slots (slot_of n) None) e))
    ∙ ap (λ (x : List (Option Block)). set ps (page_of n) (with_slots P x)) (set-get_or P.slots (slot_of n) None)
    ∙ set-get_or ps (page_of n) uncut
  where
    there : (t : Bool) (o : Option Block) → cond t None o ≡ Some b → o ≡ Some b
    there true o q = let z : ◌≡◌ {A = ℕ} 0 1 = cc in absurd (omega arith)
    there false o q = q

-- a write of a reference, or a word, that the block does not have changes nothing
pub ref_past : (ps : List Page) (n f v : ℕ) → length (refs_of (block_at ps n)) ≤ f → ps ≡ write_ref ps n f v
ref_past ps n f v h = at (block_at ps n) refl h
  where
    at : (o : Option Block) → block_at ps n ≡ o → length (refs_of o) ≤ f → ps ≡ write_ref_in ps n f v o
    at None e l = refl
    at (Some b) e l = sym (ap (λ (x : List ℕ). put_block ps n (with_refs b x)) (set_past b.refs f v l) ∙ put_same ps n b e)

pub word_past : (ps : List Page) (n w v : ℕ) → length (words_of (block_at ps n)) ≤ w → ps ≡ write_word ps n w v
word_past ps n w v h = at (block_at ps n) refl h
  where
    at : (o : Option Block) → block_at ps n ≡ o → length (words_of o) ≤ w → ps ≡ write_word_in ps n w v o
    at None e l = refl
    at (Some b) e l = sym (ap (λ (x : List ℕ). put_block ps n (with_words b x)) (set_past b.words w v l) ∙ put_same ps n b e)

module _ (es : List Entry) (wss : List (List ℕ)) (count : length es ≡ 64) (tall : length wss ≡ 64) (fits : Fits es wss)
    (n : ℕ) (some : 0 < n) (few : n ≤ 4096) where
  low : page_of n < 64
  low = omega arith

  is : block_at (pages_of es wss) n
      ≡ slot_view (entry_at es (page_of n)).size (entry_at es (page_of n)).occupied (entry_at es (page_of n)).marked (get_or wss (page_of n) []) (slot_of n)
  is = let l = low in block_is es wss n no_entry some (omega arith) (omega arith)

  pub found : has (entry_at es (page_of n)).occupied (slot_of n) ≡ true → Located es wss n (page_of n) (slot_of n)
  unfolding slot_view
  found on =
      let e : Entry = entry_at es (page_of n) in
      record {
        page = refl;
        slot = refl;
        low = low;
        short = omega arith;
        on = on;
        room = block_end e.size (slot_of n) (has_within e.occupied (blocks e.size) (slot_of n) e.below on);
        fit = fits (page_of n) (slot_of n) low on;
        block = is ∙ ap (λ (b : Bool). cond b (Some (block_of (has e.marked (slot_of n)) (block_words es wss (page_of n) (slot_of n)))) None) on;
      }

  pub missed : has (entry_at es (page_of n)).occupied (slot_of n) ≡ false → block_at (pages_of es wss) n ≡ None
  unfolding slot_view
  missed off =
      let e : Entry = entry_at es (page_of n) in
      is ∙ ap (λ (b : Bool). cond b (Some (block_of (has e.marked (slot_of n)) (block_words es wss (page_of n) (slot_of n)))) None) off

-- ---- what a write leaves of the heap's invariants

pub wide_word : (es : List Entry) (wss : List (List ℕ)) (g s j v : ℕ) → Wide wss → length wss ≡ 64 → g < 64 → Wide (with_word es wss g s j v)
wide_word es wss g s j v wide tall l k h =
    let ws : List ℕ = set (get_or wss g []) (s * (entry_at es g).size + j) v in
    elim (cases_eq k g) [
      | inl e ↦
          ap (λ (x : ℕ). length (get_or (set wss g ws) x [])) e
          ∙ ap length (get_or-set_same wss g ws [] (omega arith)) ∙ length-set (get_or wss g []) (s * (entry_at es g).size + j) v ∙ wide g l
      | inr ne ↦ ap length (get_or-set_other wss g k ws [] ne) ∙ wide k h
    ]

pub fits_word : (es : List Entry) (wss : List (List ℕ)) (g s j v : ℕ) → Fits es wss → Wide wss → length wss ≡ 64 → g < 64
    → s * (entry_at es g).size + (entry_at es g).size ≤ 256 → j < (entry_at es g).size
    → (j ≡ 1 → 2 + (v % 32 + v / 32) ≤ (entry_at es g).size) → Fits es (with_word es wss g s j v)
fits_word es wss g s j v fits wide tall l room within shape k t h on =
    let size : ℕ = (entry_at es g).size in
    let ws : List ℕ = set (get_or wss g []) (s * size + j) v in
    elim (cases_eq k g) [
      | inl e ↦
          let P : ℕ → Type 0 = λ x. has (entry_at es x).occupied t ≡ true → Fit (entry_at es x).size (region (entry_at es x).size (get_or (set wss g ws) x []) t) in
          subst P (sym e)
          (λ on'.
          let Q : List ℕ → Type 0 = λ x. Fit size (region size x t) in
          subst Q (sym (get_or-set_same wss g ws [] (omega arith)))
          (elim (cases_eq t s) [
            | inl q ↦
                let R : ℕ → Type 0 = λ x. has (entry_at es g).occupied x ≡ true → Fit size (region size ws x) in
                subst R (sym q) (λ on''. subst (Fit size) (sym (region_here size (get_or wss g []) s j v within)) (here on'' (cases_eq j 1))) on'
            | inr ne ↦ subst (Fit size) (sym (region_there size (get_or wss g []) s j v t within ne)) (fits g t l on')
          ]))
          on
      | inr ne ↦
          let Q : List ℕ → Type 0 = λ x. Fit (entry_at es k).size (region (entry_at es k).size x t) in
          subst Q (sym (get_or-set_other wss g k ws [] ne)) (fits k t h on)
    ]
  where
    here : has (entry_at es g).occupied s ≡ true → (j ≡ 1) ⊎ (j ≡ 1 → ⊥) → Fit (entry_at es g).size (set (block_words es wss g s) j v)
    here o (inl e) =
        let len = region_length (entry_at es g).size (get_or wss g []) s (let w = wide g l in omega arith) in
        let S : ℕ → Type 0 = λ x. 2 + (x % 32 + x / 32) ≤ (entry_at es g).size in
        subst S (sym (ap (λ (x : ℕ). get_or (set (block_words es wss g s) x v) 1 0) e ∙ get_or-set_same (block_words es wss g s) 1 v 0 (omega arith))) (shape e)
    here o (inr ne) =
        let S : ℕ → Type 0 = λ x. 2 + (x % 32 + x / 32) ≤ (entry_at es g).size in
        subst S (sym (get_or-set_other (block_words es wss g s) j 1 v 0 (λ e. ne (sym e)))) (fits g s l o)

-- ---- a block that was found

-- what is answered of a block, if the number names one
pub found_value : {R : Type 0} (value : Option Block → R) (es : List Entry) (wss : List (List ℕ)) (n : ℕ) (o : Option (ℕ × ℕ)) (r : R) {P : ℕ × ℕ → Type 0}
    → Finds es wss n o → MatchOption o (r ≡ value None) P → ((x : ℕ × ℕ) → Located es wss n x.0 x.1 → P x → r ≡ value (block_at (pages_of es wss) n))
    → r ≡ value (block_at (pages_of es wss) n)
found_value value es wss n None r is answer at = answer ∙ sym (ap value is)
found_value value es wss n (Some x) r is answer at = at x is answer

module _ (es : List Entry) (wss : List (List ℕ)) (n g s : ℕ) (count : length es ≡ 64) (tall : length wss ≡ 64) (wide : Wide wss) (at : Located es wss n g s) where
  enough : 2 + (refs_in (block_words es wss g s) + words_in (block_words es wss g s)) ≤ length (block_words es wss g s)
  enough =
      let len = region_length (entry_at es g).size (get_or wss g []) s (let w = wide g at.low in let r = at.room in omega arith) in
      let f = at.fit in omega arith

  pub its_forward : current (pages_of es wss) n ≡ get_or (block_words es wss g s) 0 0
  unfolding block_of
  its_forward = ap forward_of at.block

  pub its_count : length (refs_of (block_at (pages_of es wss) n)) ≡ get_or (block_words es wss g s) 1 0 % 32
  its_count = ap (λ (o : Option Block). length (refs_of o)) at.block ∙ refs_count (has (entry_at es g).marked s) (block_words es wss g s) enough

  pub reference_lies : (f : ℕ) (b : Bool) → b ≡ ltb f (refs_in (block_words es wss g s)) → FindsReference es wss n f (then_some b (g, s, 2 + f))
  reference_lies f true is =
      let l = ltb-true f (refs_in (block_words es wss g s)) (sym is) in
      let q = at.fit in
      record { located = at; below = l; word = refl; within = omega arith }
  reference_lies f false is =
      let l = ltb-false f (refs_in (block_words es wss g s)) (sym is) in let e = its_count in omega arith

  pub put_forward : (v : ℕ) → pages_of es (with_word es wss g s 0 v) ≡ forwarding (pages_of es wss) n v
  put_forward v =
      let l = at.low in
      let q = at.fit in
      let o = enough in
      put_word es wss g s 0 v (omega arith) (omega arith) at.on (omega arith)
      ∙ ap (put_at (pages_of es wss) g s) (write_forward (has (entry_at es g).marked s) (block_words es wss g s) v (omega arith))
      ∙ ap₂ (λ (x y : ℕ). put_at (pages_of es wss) x y (with_forward (block_of (has (entry_at es g).marked s) (block_words es wss g s)) v)) at.page at.slot
      ∙ sym (ap (forward_in (pages_of es wss) n v) at.block)

  pub its_words : length (words_of (block_at (pages_of es wss) n)) ≡ get_or (block_words es wss g s) 1 0 / 32
  its_words = ap (λ (o : Option Block). length (words_of o)) at.block ∙ words_count (has (entry_at es g).marked s) (block_words es wss g s) enough

  pub word_lies : (w : ℕ) (b : Bool) → b ≡ ltb w (words_in (block_words es wss g s))
      → FindsWord es wss n w (then_some b (g, s, 2 + refs_in (block_words es wss g s) + w))
  word_lies w true is =
      let l = ltb-true w (words_in (block_words es wss g s)) (sym is) in
      let q = at.fit in
      record { located = at; below = l; word = refl; within = omega arith }
  word_lies w false is =
      let l = ltb-false w (words_in (block_words es wss g s)) (sym is) in let e = its_words in omega arith

  -- the slot of the block that was found
  pub its_slot : get_or (page_at (pages_of es wss) g).slots s None ≡ Some (block_of (has (entry_at es g).marked s) (block_words es wss g s))
  unfolding slot_view
  its_slot =
      let l = at.low in
      let e : Entry = entry_at es g in
      ap (λ (p : Page). get_or p.slots s None) (page_is es wss g uncut no_entry (omega arith) (omega arith))
      ∙ slot_at e.size e.closed e.occupied e.marked (get_or wss g []) s e.below
      ∙ ap (λ (b : Bool). cond b (Some (block_of (has e.marked s) (block_words es wss g s))) None) at.on

  -- the page with the block marked
  pub put_mark : set (pages_of es wss) g (mark_slot (page_at (pages_of es wss) g) s) ≡ marking (pages_of es wss) n
  put_mark =
      let b : Block = block_of (has (entry_at es g).marked s) (block_words es wss g s) in
      ap (λ (o : Option Block). set (pages_of es wss) g (mark_slot_in (page_at (pages_of es wss) g) s o)) its_slot
      ∙ ap₂ (λ (x y : ℕ). put_at (pages_of es wss) x y (marked_block b)) at.page at.slot
      ∙ sym (ap (mark_in (pages_of es wss) n) at.block)

-- ---- a reference or a word that was found

module _ (es : List Entry) (wss : List (List ℕ)) (n g s j : ℕ) (count : length es ≡ 64) (tall : length wss ≡ 64) (wide : Wide wss) where
  abbrev rs : List ℕ
  rs = block_words es wss g s

  abbrev m : Bool
  m = has (entry_at es g).marked s

  -- word `j` of the block is written, and makes it `c`
  put_found : (v : ℕ) (c : Block) → Located es wss n g s → j < (entry_at es g).size → block_of m (set rs j v) ≡ c
      → pages_of es (with_word es wss g s j v) ≡ put_block (pages_of es wss) n c
  put_found v c at l made =
      let low = at.low in
      put_word es wss g s j v (omega arith) (omega arith) at.on l
      ∙ ap (put_at (pages_of es wss) g s) made
      ∙ ap₂ (λ (x y : ℕ). put_at (pages_of es wss) x y c) at.page at.slot

  pub read_ref : (f : ℕ) → Lies es wss n f 2 (refs_in rs) g s j → Some (get_or rs j 0) ≡ slice_get (refs_of (block_at (pages_of es wss) n)) f
  read_ref f lies =
      let at = lies.located in
      let l = lies.below in
      let long = its_count es wss n g s count tall wide at in
      ap Some
      (ap (λ (i : ℕ). get_or rs i 0) lies.word ∙ sym (refs_at m rs f l) ∙ sym (ap (λ (o : Option Block). get_or (refs_of o) f 0) at.block))
      ∙ sym (slice_get-get_or (refs_of (block_at (pages_of es wss) n)) f 0 (omega arith))

  pub put_ref : (f v : ℕ) → Lies es wss n f 2 (refs_in rs) g s j → pages_of es (with_word es wss g s j v) ≡ write_ref (pages_of es wss) n f v
  put_ref f v lies =
      let at = lies.located in
      put_found v (with_refs (block_of m rs) (set (block_of m rs).refs f v)) at lies.within
      (ap (λ (i : ℕ). block_of m (set rs i v)) lies.word ∙ block-write-ref m rs f v lies.below)
      ∙ sym (ap (write_ref_in (pages_of es wss) n f v) at.block)

  pub read_word : (w : ℕ) → Lies es wss n w (2 + refs_in rs) (words_in rs) g s j
      → Some (get_or rs j 0) ≡ slice_get (words_of (block_at (pages_of es wss) n)) w
  read_word w lies =
      let at = lies.located in
      let l = lies.below in
      let word : j ≡ 2 + (refs_in rs + w) = lies.word ∙ omega arith in
      let long = its_words es wss n g s count tall wide at in
      ap Some
      (ap (λ (i : ℕ). get_or rs i 0) word ∙ sym (words_at m rs w l) ∙ sym (ap (λ (o : Option Block). get_or (words_of o) w 0) at.block))
      ∙ sym (slice_get-get_or (words_of (block_at (pages_of es wss) n)) w 0 (omega arith))

  pub put_value : (w v : ℕ) → Lies es wss n w (2 + refs_in rs) (words_in rs) g s j
      → pages_of es (with_word es wss g s j v) ≡ write_word (pages_of es wss) n w v
  put_value w v lies =
      let at = lies.located in
      let word : j ≡ 2 + (refs_in rs + w) = lies.word ∙ omega arith in
      put_found v (with_words (block_of m rs) (set (block_of m rs).words w v)) at lies.within
      (ap (λ (i : ℕ). block_of m (set rs i v)) word ∙ block-write-word m rs w v lies.below)
      ∙ sym (ap (write_word_in (pages_of es wss) n w v) at.block)

pub block_length : (es : List Entry) (wss : List (List ℕ)) (g s : ℕ) → Wide wss → g < 64
    → s * (entry_at es g).size + (entry_at es g).size ≤ 256 → length (block_words es wss g s) ≡ (entry_at es g).size
block_length es wss g s wide l room =
    let w = wide g l in region_length (entry_at es g).size (get_or wss g []) s (omega arith)

-- ---- a page

module _ (es : List Entry) (wss : List (List ℕ)) (g : ℕ) (count : length es ≡ 64) (tall : length wss ≡ 64) (l : g < 64) where
  pub size_is : (page_at (pages_of es wss) g).size ≡ (entry_at es g).size
  unfolding page_view
  size_is = ap (λ (p : Page). p.size) (page_is es wss g uncut no_entry (omega arith) (omega arith))

  pub slots_length : length (page_at (pages_of es wss) g).slots ≡ blocks (entry_at es g).size
  unfolding page_view
  slots_length =
      let e : Entry = entry_at es g in
      ap (λ (p : Page). length p.slots) (page_is es wss g uncut no_entry (omega arith) (omega arith))
      ∙ length-map-range_with_len (slot_view e.size e.occupied e.marked (get_or wss g [])) 0 (blocks e.size)

-- block `s` of page `g` is the block of its number
pub put_number : (ps : List Page) (g s : ℕ) (b : Block) → s < 64 → put_at ps g s b ≡ put_block ps (number g s) b
put_number ps g s b h =
    let x : g ≡ page_of (number g s) = omega arith in
    let y : s ≡ slot_of (number g s) = omega arith in
    ap₂ (λ (i j : ℕ). put_at ps i j b) x y

-- a block of another page is put in
pub block_beside : (ps : List Page) (n m : ℕ) (b : Block) → (page_of m ≡ page_of n → ⊥) → block_at (put_block ps n b) m ≡ block_at ps m
block_beside ps n m b ne =
    ap (λ (p : Page). cond (eqb m 0) None (get_or p.slots (slot_of m) None))
    (get_or-set_other ps (page_of n) (page_of m) (with_slots (page_at ps (page_of n)) (set (page_at ps (page_of n)).slots (slot_of n) (Some b))) uncut ne)

-- entries that have no block that was not there before
pub none_new_fits : (es fs : List Entry) (wss : List (List ℕ)) → NoneNew es fs → Fits es wss → Fits fs wss
none_new_fits es fs wss none fits g s l on =
    let R : ℕ → Type 0 = λ x. Fit x (region x (get_or wss g []) s) in
    subst R (sym (none g s on).1) (fits g s l (none g s on).0)

-- a number that names a block is the number of its page and slot
pub numbered : (es : List Entry) (wss : List (List ℕ)) (n g s : ℕ) → Located es wss n g s → n ≡ number g s
numbered es wss n g s at =
    let p = at.page in
    let q = at.slot in
    elim (cases_eq n 0) [
      | inl z ↦
          let bad : ◌≡◌ {A = Option Block} None (Some (block_of (has (entry_at es g).marked s) (block_words es wss g s))) = sym (ap (block_at (pages_of es wss)) z) ∙ at.block in
          let y : ◌≡◌ {A = ℕ} 0 1 = cc in absurd (omega arith)
      | inr ne ↦ omega (arith, ne)
    ]
