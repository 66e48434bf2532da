-- The view of all pages: reading one page, and changing one.
use Rattle.std.proofs.Common.{◌≡◌, ℕ, zero, suc, ◌+◌, ◌/◌, ◌<◌, ◌≤◌, Bool, true, false, cond, not, ◌&&◌, eqb, ltb, List, [], ◌∷◌, length, get_or, drop, set, replicate, Some, None, Option, sym, refl, ap, ◌∙◌, subst, ap₂, inl, inr, add-one, arith, length-set, get_or-set_other, get_or-set_same}
use Rattle.std.specs.List.{filter, position_from}
use lib.ListN.{get_or-replicate, length-replicate}
use lib.Seq.{set-get_or}
use Rattle.std.proofs.lemmas.Bool.{cases_eq, cases_lt, both_ways}
use Rattle.std.proofs.lemmas.List.{get_or_default, get_or_past, set_past, at_drop_more, at_drop_all}
use Rattle.model.specs.Classes.{blocks}
use Rattle.model.specs.Maps.{has, with_flag_set}
use Rattle.model.specs.Pages.{Page, uncut, with_closed, page_at, in_class, free, occupied, count_pages, is_uncut, first_page}
use Rattle.model.specs.Units.{free_of_class}
use Rattle.pages.specs.declared.entry.Entry.{Entry}
use Rattle.pages.specs.View.{region, block_of, slot_view, page_view, filled}
use Rattle.pages.specs.Entries.{entry_view, pages_of, no_entry, entry_at, NoneNew, Changed, mark_slot, mark_slot_in}
use Rattle.pages.specs.Choices.{has_room_for, entry_has_room, Low}
use Rattle.pages.proofs.Bits.{has_past, has_within, has_none}
use Rattle.pages.proofs.Views.{slot_at, slots_free, mark_page, block_marked, view_uncut}

-- 64 entries, and the words of each page
abbrev pub Full : List Entry → List (List ℕ) → Type 0
Full es wss = (length es ≡ 64) × (length wss ≡ 64)

pub page_is : (es : List Entry) (wss : List (List ℕ)) (g : ℕ) (p : Page) (d : Entry) → g < length es → g < length wss
    → get_or (pages_of es wss) g p ≡ entry_view (get_or es g d) (get_or wss g [])
unfolding pages_of
page_is [] wss g p d h k = absurd (omega arith)
page_is (e ∷ es) [] g p d h k = absurd (omega arith)
page_is (e ∷ es) (w ∷ wss) zero p d h k = refl
page_is (e ∷ es) (w ∷ wss) (suc g) p d h k = page_is es wss g p d (omega arith) (omega arith)

pub page_past : (es : List Entry) (wss : List (List ℕ)) (g : ℕ) (p : Page) → length es ≤ g → get_or (pages_of es wss) g p ≡ p
unfolding pages_of
page_past [] wss g p h = refl
page_past (e ∷ es) [] g p h = refl
page_past (e ∷ es) (w ∷ wss) zero p h = absurd (omega arith)
page_past (e ∷ es) (w ∷ wss) (suc g) p h = page_past es wss g p (omega arith)

pub set_words : (es : List Entry) (wss : List (List ℕ)) (g : ℕ) (w : List ℕ) (d : Entry) → g < length es
    → pages_of es (set wss g w) ≡ set (pages_of es wss) g (entry_view (get_or es g d) w)
unfolding pages_of
set_words [] wss g w d h = refl
set_words (e ∷ es) [] g w d h = refl
set_words (e ∷ es) (x ∷ wss) zero w d h = refl
set_words (e ∷ es) (x ∷ wss) (suc g) w d h = ap (λ (ps : List Page). entry_view e x ∷ ps) (set_words es wss g w d (omega arith))

pub set_entry : (es : List Entry) (wss : List (List ℕ)) (g : ℕ) (e : Entry) → g < length wss
    → pages_of (set es g e) wss ≡ set (pages_of es wss) g (entry_view e (get_or wss g []))
unfolding pages_of
set_entry [] wss g e h = refl
set_entry (x ∷ es) [] g e h = absurd (omega arith)
set_entry (x ∷ es) (w ∷ wss) zero e h = refl
set_entry (x ∷ es) (w ∷ wss) (suc g) e h = ap (λ (ps : List Page). entry_view x w ∷ ps) (set_entry es wss g e (omega arith))

-- within the list the default does not matter
pub entry_read : (es : List Entry) (g : ℕ) (d : Entry) → g < length es → get_or es g d ≡ entry_at es g
entry_read es g d h = get_or_default es g d no_entry h

pub pages_length : (es : List Entry) (wss : List (List ℕ)) → length es ≤ length wss → length (pages_of es wss) ≡ length es
unfolding pages_of
pages_length [] wss h = refl
pages_length (e ∷ es) [] h = absurd (omega arith)
pages_length (e ∷ es) (w ∷ wss) h = ap suc (pages_length es wss (omega arith))

-- ---- one page is changed

-- one entry is put where it was changed
module _ (es : List Entry) (g : ℕ) (e : Entry) where
  pub entry_here : g < length es → entry_at (set es g e) g ≡ e
  entry_here l = get_or-set_same es g e no_entry l

  pub entry_there : (k : ℕ) → (k ≡ g → ⊥) → entry_at (set es g e) k ≡ entry_at es k
  entry_there k ne = get_or-set_other es g k e no_entry ne

-- a page and its entry
pub page_of_entry : (es : List Entry) (wss : List (List ℕ)) (g : ℕ) → Full es wss → g < 64 → page_at (pages_of es wss) g ≡ entry_view (entry_at es g) (get_or wss g [])
page_of_entry es wss g full l = let a = full.0 in let b = full.1 in page_is es wss g uncut no_entry (omega arith) (omega arith)

pub pages_long : (es : List Entry) (wss : List (List ℕ)) → Full es wss → length (pages_of es wss) ≡ 64
pages_long es wss full = let a = full.0 in let b = full.1 in pages_length es wss (omega arith) ∙ full.0

-- an entry that has no block that was not there before
pub put_none_new : (es : List Entry) (g : ℕ) (x e : Entry)
    → ((s : ℕ) → has e.occupied s ≡ true → (has (get_or es g x).occupied s ≡ true) × (e.size ≡ (get_or es g x).size)) → NoneNew es (set es g e)
put_none_new es g x e fewer k s = elim (cases_eq k g) [
  | inl q ↦ elim (cases_lt g (length es)) [
    | inl l ↦
        let here : entry_at (set es g e) k ≡ e = ap (entry_at (set es g e)) q ∙ entry_here es g e l in
        let P : Entry → Type 0 = λ y. has y.occupied s ≡ true → (has (entry_at es k).occupied s ≡ true) × (y.size ≡ (entry_at es k).size) in
        let Q : Entry → Type 0 = λ y. has e.occupied s ≡ true → (has y.occupied s ≡ true) × (e.size ≡ y.size) in
        subst P (sym here) (subst Q (entry_read es g x l ∙ ap (entry_at es) (sym q)) (fewer s))
    | inr l ↦
        let P : List Entry → Type 0 = λ xs. has (entry_at xs k).occupied s ≡ true → (has (entry_at es k).occupied s ≡ true) × ((entry_at xs k).size ≡ (entry_at es k).size) in
        subst P (sym (set_past es g e l)) (λ on. (on, refl))
  ]
  | inr ne ↦
      let P : Entry → Type 0 = λ y. has y.occupied s ≡ true → (has (entry_at es k).occupied s ≡ true) × (y.size ≡ (entry_at es k).size) in
      subst P (sym (entry_there es g e k ne)) (λ on. (on, refl))
]

pub changed : (F : Page → Page) (es : List Entry) (g : ℕ) (x e : Entry) → length es ≡ 64 → g < 64
    → ((ws : List ℕ) → entry_view e ws ≡ F (entry_view (get_or es g x) ws))
    → ((s : ℕ) → has e.occupied s ≡ true → (has (get_or es g x).occupied s ≡ true) × (e.size ≡ (get_or es g x).size))
    → Changed es (set es g e) g F
changed F es g x e n l same fewer = record {
  count = length-set es g e;
  view = λ wss long.
      set_entry es wss g e (omega arith)
      ∙ ap (set (pages_of es wss) g) (same (get_or wss g []) ∙ ap F (sym (page_is es wss g uncut x (omega arith) (omega arith))));
  none_new = put_none_new es g x e fewer;
}

-- past the last page nothing changes
pub unchanged : (F : Page → Page) (es : List Entry) (g : ℕ) → length es ≡ 64 → 64 ≤ g → Changed es es g F
unchanged F es g n l = record {
  count = refl;
  view = λ wss long.
      let k = pages_long es wss (n, long) in
      sym (set_past (pages_of es wss) g (F (page_at (pages_of es wss) g)) (omega arith));
  none_new = λ k s on. (on, refl);
}

-- ---- counts and searches over all pages

-- a test of pages that does not depend on their words is a test of their entries
module _ (f : Page → Bool) (t : Entry → Bool) (same : (e : Entry) (ws : List ℕ) → f (entry_view e ws) ≡ t e) where
  pub first_of_pages : (a : ℕ) (es : List Entry) (wss : List (List ℕ)) → length es ≤ length wss → position_from t a es ≡ first_page f a (pages_of es wss)
  unfolding pages_of
  first_of_pages a [] wss h = refl
  first_of_pages a (e ∷ es) [] h = absurd (omega arith)
  first_of_pages a (e ∷ es) (w ∷ wss) h =
      ap₂ (λ (b : Bool) (o : Option ℕ). cond b (Some a) o) (sym (same e w))
      (ap (λ (i : ℕ). position_from t i es) (add-one a) ∙ first_of_pages (suc a) es wss (omega arith))

  pub place_low : (a : ℕ) (es : List Entry) → a + length es ≤ 64 → Low (position_from t a es)
  place_low a [] h = tt
  place_low a (e ∷ es) h = by (t e) (place_low (a + 1) es (omega arith))
    where
      by : (b : Bool) → Low (position_from t (a + 1) es) → Low (cond b (Some a) (position_from t (a + 1) es))
      by true r = let l : a < 64 = omega arith in l
      by false r = r

  pub count_of_pages : (es : List Entry) (wss : List (List ℕ)) → length es ≤ length wss → length (filter t es) ≡ count_pages f (pages_of es wss)
  unfolding pages_of
  count_of_pages [] wss h = refl
  count_of_pages (e ∷ es) [] h = absurd (omega arith)
  count_of_pages (e ∷ es) (w ∷ wss) h =
      one (t e) ∙ ap₂ (λ (b : Bool) (n : ℕ). cond b 1 0 + n) (sym (same e w)) (count_of_pages es wss (omega arith))
    where
      one : (b : Bool) → length (cond b (e ∷ filter t es) (filter t es)) ≡ cond b 1 0 + length (filter t es)
      one true = omega arith
      one false = omega arith

-- the free blocks of a class, page by page
pub free_step : (size but : ℕ) (ps : List Page) (g : ℕ) → g < length ps
    → free_of_class size but g (drop g ps) ≡ cond (in_class size (page_at ps g) && not (eqb g but)) (free (page_at ps g)) 0 + free_of_class size but (g + 1) (drop (g + 1) ps)
free_step size but ps g h =
    let s : free_of_class size but g (drop g ps) ≡ cond (in_class size (page_at ps g) && not (eqb g but)) (free (page_at ps g)) 0 + free_of_class size but (suc g) (drop (g + 1) ps) =
    at_drop_more (free_of_class size but g) ps g uncut h in
    s ∙ ap (λ (x : ℕ). cond (in_class size (page_at ps g) && not (eqb g but)) (free (page_at ps g)) 0 + free_of_class size but x (drop (g + 1) ps)) (sym (add-one g))

pub free_end : (size but : ℕ) (ps : List Page) (g : ℕ) → length ps ≤ g → free_of_class size but g (drop g ps) ≡ 0
free_end size but ps g h = at_drop_all (free_of_class size but g) ps g h

-- ---- slots past the last

pub slot_past : (e : Entry) (s : ℕ) → 64 ≤ s → has e.occupied s ≡ false
slot_past e s l = let f = e.few in has_past e.occupied (256 / e.size) s e.below (omega arith)

-- a block that is occupied is one of 64 in one of 64 pages
pub held_low : (es : List Entry) (g s : ℕ) → length es ≡ 64 → has (entry_at es g).occupied s ≡ true → (g < 64) × (s < 64)
held_low es g s n on = (
  elim (cases_lt g 64) [
    | inl l ↦ l
    | inr l ↦
        absurd (both_ways (has (entry_at es g).occupied s)
        (ap (λ (e : Entry). has e.occupied s) (get_or_past es g no_entry (omega arith)) ∙ has_none s) on)
  ],
  elim (cases_lt s 64) [ inl l ↦ l | inr l ↦ absurd (both_ways (has (entry_at es g).occupied s) (slot_past (entry_at es g) s l) on) ],
)

-- ---- changes of a page that change nothing

pub kept : (F : Page → Page) (es : List Entry) (g : ℕ) → length es ≡ 64 → ((ws : List ℕ) → entry_view (entry_at es g) ws ≡ F (entry_view (entry_at es g) ws)) → Changed es es g F
kept F es g n same = elim (cases_lt g 64) [
  | inl l ↦ record {
    count = refl;
    view = λ wss long.
        sym (ap (set (pages_of es wss) g)
        (sym (page_of_entry es wss g (n, long) l ∙ same (get_or wss g []) ∙ ap F (sym (page_of_entry es wss g (n, long) l))))
        ∙ set-get_or (pages_of es wss) g uncut);
    none_new = λ k s on. (on, refl);
  }
  | inr l ↦ unchanged F es g n l
]

pub unmarked_slot : (e : Entry) (ws : List ℕ) (s : ℕ) → has e.occupied s ≡ false → mark_slot (entry_view e ws) s ≡ entry_view e ws
unfolding slot_view
unmarked_slot e ws s off =
    ap (mark_slot_in (entry_view e ws) s)
    (slot_at e.size e.closed e.occupied e.marked ws s e.below
    ∙ ap (λ (b : Bool). cond b (Some (block_of (has e.marked s) (region e.size ws s))) None) off)

-- ---- an entry and its page

module _ (es : List Entry) (wss : List (List ℕ)) (full : Full es wss) (g : ℕ) (x : Entry) (l : g < 64) where
  pub page_item : page_at (pages_of es wss) g ≡ entry_view (get_or es g x) (get_or wss g [])
  page_item = let a = full.0 in let b = full.1 in page_is es wss g uncut x (omega arith) (omega arith)

-- what an entry says of its page, whatever words that has
module _ (e : Entry) (ws : List ℕ) where
  pub uncut_entry : is_uncut (entry_view e ws) ≡ eqb e.size 0
  unfolding page_view
  uncut_entry = refl

  pub closed_entry : (entry_view e ws).closed ≡ e.closed
  unfolding page_view
  closed_entry = refl

  class_entry : (size : ℕ) → in_class size (entry_view e ws) ≡ in_class size (entry_view e [])
  unfolding page_view
  class_entry size = refl

  pub room_entry : (size : ℕ) → has_room_for size (entry_view e ws) ≡ entry_has_room size e
  room_entry size =
      let a = slots_free e.size e.closed e.occupied e.marked ws e.below in
      let b = slots_free e.size e.closed e.occupied e.marked [] e.below in
      ap₂ (λ (x : Bool) (n : ℕ). x && ltb 0 n) (class_entry size) (a ∙ sym b)

-- an entry with one more mark
pub marked_entry : (a e : Entry) (ws : List ℕ) (s : ℕ) → has a.occupied s ≡ true → e.size ≡ a.size → e.closed ≡ a.closed → e.occupied ≡ a.occupied
    → e.marked ≡ with_flag_set a.marked s → entry_view e ws ≡ mark_slot (entry_view a ws) s
unfolding slot_view
marked_entry a e ws s on size closed occupied marked =
    ap₂ (λ (x : ℕ) (y : Bool). page_view x y e.occupied e.marked ws) size closed
    ∙ ap₂ (λ (x y : ℕ). page_view a.size a.closed x y ws) occupied marked
    ∙ mark_page a.size a.closed a.occupied a.marked ws s (has_within a.occupied (blocks a.size) s a.below on) on
    ∙ ap (filled (entry_view a ws) s) (block_marked (has a.marked s) (region a.size ws s))
    ∙ sym (ap (mark_slot_in (entry_view a ws) s)
    (slot_at a.size a.closed a.occupied a.marked ws s a.below
    ∙ ap (λ (b : Bool). cond b (Some (block_of (has a.marked s) (region a.size ws s))) None) on))

-- an entry that is closed or opened
pub closed_view : (a : Entry) (c : Bool) (ws : List ℕ) → page_view a.size c a.occupied a.marked ws ≡ with_closed (entry_view a ws) c
unfolding page_view
closed_view a c ws = refl

-- no block of an uncut page is occupied
pub none_used : (ws : List ℕ) → 0 ≡ occupied (entry_view no_entry ws).slots
none_used ws = sym (ap (λ (p : Page). occupied p.slots) (view_uncut ws))

-- ---- pages that are all uncut

pub all_uncut : (n : ℕ) (e : Entry) → e.size ≡ 0 → e.closed ≡ false → e.occupied ≡ 0 → e.marked ≡ 0 → (wss : List (List ℕ)) → length wss ≡ n → pages_of (replicate n e) wss ≡ replicate n uncut
unfolding pages_of
all_uncut zero e s c o m [] l = refl
all_uncut zero e s c o m (w ∷ wss) l = absurd (omega arith)
all_uncut (suc n) e s c o m [] l = absurd (omega arith)
all_uncut (suc n) e s c o m (w ∷ wss) l =
    ap₂ (λ (x : Page) (xs : List Page). x ∷ xs)
    (ap₂ (λ (x : ℕ) (y : Bool). page_view x y e.occupied e.marked w) s c ∙ ap₂ (λ (x y : ℕ). page_view 0 false x y w) o m ∙ view_uncut w)
    (all_uncut n e s c o m wss (omega arith))

pub none_held : (n : ℕ) (e : Entry) → e.occupied ≡ 0 → (g s : ℕ) → has (entry_at (replicate n e) g).occupied s ≡ false
none_held n e o g s = elim (cases_lt g n) [
  | inl l ↦ ap (λ (x : Entry). has x.occupied s) (get_or-replicate n g e no_entry l) ∙ ap (λ (x : ℕ). has x s) o ∙ has_none s
  | inr l ↦ let k = length-replicate n e in ap (λ (x : Entry). has x.occupied s) (get_or_past (replicate n e) g no_entry (omega arith)) ∙ has_none s
]
