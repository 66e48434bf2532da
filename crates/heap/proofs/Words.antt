-- What a write leaves of a block, of its page, and of a page's view.
use Rattle.std.proofs.Common.{◌≡◌, ℕ, suc, ◌+◌, ◌-◌, ◌*◌, ◌/◌, ◌%◌, ◌<◌, ◌≤◌, Bool, true, cond, ◌≢◌, List, [], ◌∷◌, length, get_or, take, drop, set, replicate, Some, None, Option, sym, refl, ap, ◌∙◌, ap₂, inl, inr, mul-le-mul_right, suc-mul, div-mul-le_self, arith, length-drop, length-take, get_or-drop, get_or-set_other, get_or-take, drop-drop, drop-set-lt, ext_get_or, false, length-set, get_or-set_same}
use lib.ListN.{length-replicate, get_or-replicate}
use lib.Seq.{take-set-lt, take-set-le, drop-set-add}
use Rattle.std.proofs.lemmas.Bool.{cases_lt, cases_eq}
use Rattle.model.specs.Classes.{blocks}
use Rattle.model.specs.Maps.{has}
use Rattle.model.specs.Pages.{Block, with_slots}
use Rattle.model.specs.Units.{with_refs, with_forward}
use Rattle.pages.specs.View.{region, refs_in, words_in, block_of, slot_view, page_view}
use Rattle.pages.proofs.Views.{set_counted, same_counted}
use Rattle.heap.specs.Blocks.{Cleared}

-- ---- regions

-- a block of the page lies in the page
pub block_end : (size s : ℕ) → s < blocks size → s * size + size ≤ 256
block_end size s h =
    let a : suc s * size ≤ 256 / size * size = mul-le-mul_right size h in
    let b = div-mul-le_self 256 size in
    let c = suc-mul s size in
    omega arith

pub region_here : (size : ℕ) (ws : List ℕ) (s j v : ℕ) → j < size
    → region size (set ws (s * size + j) v) s ≡ set (region size ws s) j v
region_here size ws s j v h = ap (take size) (drop-set-add (s * size) ws j v) ∙ take-set-lt size (drop (s * size) ws) j v h

pub region_there : (size : ℕ) (ws : List ℕ) (s j v k : ℕ) → j < size → k ≢ s
    → region size (set ws (s * size + j) v) k ≡ region size ws k
region_there size ws s j v k h ne =
    elim (cases_lt k s) [
      | inl l ↦
          let a : suc k * size ≤ s * size = mul-le-mul_right size l in
          let b = suc-mul k size in
          let i : k * size + (s * size + j - k * size) ≡ s * size + j = omega arith in
          ap (λ (x : ℕ). region size (set ws x v) k) (sym i)
          ∙ ap (take size) (drop-set-add (k * size) ws (s * size + j - k * size) v)
          ∙ take-set-le size (drop (k * size) ws) (s * size + j - k * size) v (omega arith)
      | inr l ↦
          let lt : s < k = omega (arith, ne) in
          let a : suc s * size ≤ k * size = mul-le-mul_right size lt in
          let b = suc-mul s size in
          ap (take size) (drop-set-lt (k * size) ws (s * size + j) v (omega arith))
    ]

-- ---- blocks

abbrev pub with_words : Block → List ℕ → Block
with_words b r = record { forward = b.forward; marked = b.marked; refs = b.refs; words = r }

pub write_forward : (m : Bool) (rs : List ℕ) (v : ℕ) → 0 < length rs → block_of m (set rs 0 v) ≡ with_forward (block_of m rs) v
unfolding block_of
write_forward m [] v h = absurd (omega arith)
write_forward m (x ∷ rs) v h = refl

-- what stands above the shape word
body_of : ℕ → Bool → ℕ → List ℕ → Block
body_of a m sh bs = record { forward = a; marked = m; refs = take (sh % 32) bs; words = take (sh / 32) (drop (sh % 32) bs) }

write_body : (m : Bool) (rs : List ℕ) (i v : ℕ) → block_of m (set rs (2 + i) v) ≡ body_of (get_or rs 0 0) m (get_or rs 1 0) (set (drop 2 rs) i v)
unfolding block_of body_of
write_body m rs i v =
    let e0 : get_or (set rs (2 + i) v) 0 0 ≡ get_or rs 0 0 = get_or-set_other rs (2 + i) 0 v 0 (λ e. omega arith) in
    let e1 : get_or (set rs (2 + i) v) 1 0 ≡ get_or rs 1 0 = get_or-set_other rs (2 + i) 1 v 0 (λ e. omega arith) in
    ap₂ (λ (a b : ℕ). body_of a m b (drop 2 (set rs (2 + i) v))) e0 e1
    ∙ ap (body_of (get_or rs 0 0) m (get_or rs 1 0)) (drop-set-add 2 rs i v)

pub write_ref : (m : Bool) (rs : List ℕ) (f v : ℕ) → f < refs_in rs
    → block_of m (set rs (2 + f) v) ≡ with_refs (block_of m rs) (set (block_of m rs).refs f v)
unfolding block_of body_of
write_ref m rs f v h =
    write_body m rs f v
    ∙ ap₂ (λ (a b : List ℕ). record { forward = get_or rs 0 0; marked = m; refs = a; words = take (words_in rs) b })
    (take-set-lt (refs_in rs) (drop 2 rs) f v h)
    (drop-set-lt (refs_in rs) (drop 2 rs) f v h)

pub write_word : (m : Bool) (rs : List ℕ) (w v : ℕ) → w < words_in rs
    → block_of m (set rs (2 + (refs_in rs + w)) v) ≡ with_words (block_of m rs) (set (block_of m rs).words w v)
unfolding block_of body_of
write_word m rs w v h =
    write_body m rs (refs_in rs + w) v
    ∙ ap₂ (λ (a b : List ℕ). record { forward = get_or rs 0 0; marked = m; refs = a; words = b })
    (take-set-le (refs_in rs) (drop 2 rs) (refs_in rs + w) v (omega arith))
    (ap (take (words_in rs)) (drop-set-add (refs_in rs) (drop 2 rs) w v) ∙ take-set-lt (words_in rs) (drop (refs_in rs) (drop 2 rs)) w v h)

-- ---- a word of a page

-- a write into block `s` changes that block alone
pub write_page : (size : ℕ) (closed : Bool) (o m : ℕ) (ws : List ℕ) (s j v : ℕ) → s < blocks size → has o s ≡ true → j < size
    → page_view size closed o m (set ws (s * size + j) v)
    ≡ with_slots (page_view size closed o m ws)
    (set (page_view size closed o m ws).slots s (Some (block_of (has m s) (set (region size ws s) j v))))
unfolding page_view slot_view
write_page size closed o m ws s j v l on h =
    ap (λ (x : List (Option Block)). record { size = size; closed = closed; slots = x })
    (set_counted (slot_view size o m ws) (slot_view size o m (set ws (s * size + j) v)) (blocks size) s (Some (block_of (has m s) (set (region size ws s) j v))) l
    (ap₂ (λ (x : Bool) (y : List ℕ). cond x (Some (block_of (has m s) y)) None) on (region_here size ws s j v h))
    (λ k _ ne. ap (λ (y : List ℕ). cond (has o k) (Some (block_of (has m k) y)) None) (region_there size ws s j v k h ne)))

-- ---- reads

pub region_at : (size : ℕ) (ws : List ℕ) (s j : ℕ) → j < size → get_or (region size ws s) j 0 ≡ get_or ws (s * size + j) 0
region_at size ws s j h = get_or-take size (drop (s * size) ws) j 0 h ∙ get_or-drop (s * size) ws j 0

pub region_length : (size : ℕ) (ws : List ℕ) (s : ℕ) → s * size + size ≤ length ws → length (region size ws s) ≡ size
region_length size ws s h = simp (length-take, length-drop) (omega arith)

module _ (m : Bool) (rs : List ℕ) where
  pub refs_count : 2 + (refs_in rs + words_in rs) ≤ length rs → length (block_of m rs).refs ≡ refs_in rs
  unfolding block_of
  refs_count h = simp (length-take, length-drop) (omega arith)

  pub words_count : 2 + (refs_in rs + words_in rs) ≤ length rs → length (block_of m rs).words ≡ words_in rs
  unfolding block_of
  words_count h = simp (length-take, length-drop) (omega arith)

  pub refs_at : (f : ℕ) → f < refs_in rs → get_or (block_of m rs).refs f 0 ≡ get_or rs (2 + f) 0
  unfolding block_of
  refs_at f h = get_or-take (refs_in rs) (drop 2 rs) f 0 h ∙ get_or-drop 2 rs f 0

  pub words_at : (w : ℕ) → w < words_in rs → get_or (block_of m rs).words w 0 ≡ get_or rs (2 + (refs_in rs + w)) 0
  unfolding block_of
  words_at w h =
      get_or-take (words_in rs) (drop (refs_in rs) (drop 2 rs)) w 0 h ∙ get_or-drop (refs_in rs) (drop 2 rs) w 0 ∙ get_or-drop 2 rs (refs_in rs + w) 0

-- ---- a write into a block that is free

pub free_page : (size : ℕ) (closed : Bool) (o m : ℕ) (ws : List ℕ) (s j v : ℕ) → has o s ≡ false → j < size
    → page_view size closed o m (set ws (s * size + j) v) ≡ page_view size closed o m ws
unfolding page_view slot_view
free_page size closed o m ws s j v off h =
    ap (λ (x : List (Option Block)). record { size = size; closed = closed; slots = x })
    (same_counted (slot_view size o m (set ws (s * size + j) v)) (slot_view size o m ws)
    (λ k. elim (cases_eq k s) [
      | inl e ↦
          let q : has o k ≡ false = ap (has o) e ∙ off in
          ap (λ (x : Bool). cond x (Some (block_of (has m k) (region size (set ws (s * size + j) v) k))) None) q
          ∙ sym (ap (λ (x : Bool). cond x (Some (block_of (has m k) (region size ws k))) None) q)
      | inr ne ↦ ap (λ (y : List ℕ). cond (has o k) (Some (block_of (has m k) y)) None) (region_there size ws s j v k h ne)
    ]) 0 (blocks size))

-- ---- a new block

zeros : (xs : List ℕ) (a n : ℕ) → a + n ≤ length xs → ((k : ℕ) → a ≤ k → k < a + n → get_or xs k 0 ≡ 0) → take n (drop a xs) ≡ replicate n 0
zeros xs a n h z =
    let l : length (take n (drop a xs)) ≡ n = simp (length-take, length-drop) (omega arith) in
    let r : length (replicate {A = ℕ} n 0) ≡ n = length-replicate n 0 in
    ext_get_or 0 (take n (drop a xs)) (replicate n 0) (omega arith)
    (λ i q.
    let b : i < n = omega arith in
    get_or-take n (drop a xs) i 0 b ∙ get_or-drop a xs i 0 ∙ z (a + i) (omega arith) (omega arith) ∙ sym (get_or-replicate n i 0 0 b))

pub new_block_is : (m : Bool) (rs : List ℕ) (n r d : ℕ) → r < 32 → 2 + (r + d) ≤ length rs → Cleared rs n (r + 32 * d) (2 + (r + d))
    → block_of m rs ≡ record { forward = n; marked = m; refs = replicate r 0; words = replicate d 0 }
unfolding block_of
new_block_is m rs n r d h l c =
    let f = c.first in
    let e1 : refs_in rs ≡ r = ap (λ (x : ℕ). x % 32) c.second ∙ omega arith in
    let e2 : words_in rs ≡ d = ap (λ (x : ℕ). x / 32) c.second ∙ omega arith in
    let er : take (refs_in rs) (drop 2 rs) ≡ replicate r 0 =
    ap (λ (x : ℕ). take x (drop 2 rs)) e1 ∙ zeros rs 2 r (omega arith) (λ k p q. c.rest k p (omega arith)) in
    let ew : take (words_in rs) (drop (refs_in rs) (drop 2 rs)) ≡ replicate d 0 =
    ap₂ (λ (x y : ℕ). take x (drop y (drop 2 rs))) e2 e1 ∙ ap (take d) (drop-drop r 2 rs)
    ∙ zeros rs (2 + r) d (omega arith) (λ k p q. c.rest k (omega arith) (omega arith)) in
    ap (λ (x : ℕ). record { forward = x; marked = m; refs = take (refs_in rs) (drop 2 rs); words = take (words_in rs) (drop (refs_in rs) (drop 2 rs)) }) f
    ∙ ap₂ (λ (x y : List ℕ). record { forward = n; marked = m; refs = x; words = y }) er ew

-- ---- the words of a new block, written one by one

pub cleared_two : (rs : List ℕ) (n sh : ℕ) → 1 < length rs → Cleared (set (set rs 0 n) 1 sh) n sh 2
cleared_two rs n sh h = record {
  first = get_or-set_other (set rs 0 n) 1 0 sh 0 (λ e. omega arith) ∙ get_or-set_same rs 0 n 0 (omega arith);
  second = let l = length-set rs 0 n in get_or-set_same (set rs 0 n) 1 sh 0 (omega arith);
  rest = λ k p q. absurd (omega arith);
}

pub cleared_more : (rs : List ℕ) (n sh j : ℕ) → Cleared rs n sh j → 2 ≤ j → j < length rs → Cleared (set rs j 0) n sh (j + 1)
cleared_more rs n sh j c l h = record {
  first = get_or-set_other rs j 0 0 0 (λ e. omega arith) ∙ c.first;
  second = get_or-set_other rs j 1 0 0 (λ e. omega arith) ∙ c.second;
  rest = λ k p q. elim (cases_eq k j) [
    | inl e ↦ ap (λ (x : ℕ). get_or (set rs j 0) x 0) e ∙ get_or-set_same rs j 0 0 h
    | inr ne ↦ get_or-set_other rs j k 0 0 ne ∙ c.rest k p (omega (arith, ne))
  ];
}

pub cleared_less : (rs : List ℕ) (n sh j len : ℕ) → Cleared rs n sh j → len ≤ j → Cleared rs n sh len
cleared_less rs n sh j len c l = record { first = c.first; second = c.second; rest = λ k p q. c.rest k p (omega arith) }
