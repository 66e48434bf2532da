-- A block that is taken.
use Rattle.std.proofs.Common.{◌≡◌, ℕ, zero, suc, ◌/◌, ◌<◌, ◌≤◌, Bool, true, false, cond, ◌⊎◌, List, [], ◌∷◌, length, get_or, set, replicate, Some, None, Option, sym, refl, ap, ◌∙◌, subst, ap₂, inl, inr, arith, length-set}
use lib.Count.{ones}
use lib.ListN.{get_or-replicate}
use Rattle.std.proofs.lemmas.Nat.{le-div}
use Rattle.std.proofs.lemmas.List.FromFn.{length-map-range_with_len}
use Rattle.std.proofs.lemmas.Bool.{cases_eq, both_ways, eq-eqb, ne_eqb}
use Rattle.model.specs.Classes.{blocks}
use Rattle.model.specs.Maps.{has}
use Rattle.model.specs.Pages.{Block, Page, cut, page_at, occupied, lowest_free}
use Rattle.model.specs.Making.{ready}
use Rattle.pages.specs.declared.entry.Entry.{Entry}
use Rattle.pages.specs.View.{page_view, slot_view, filled, block_of, region}
use Rattle.pages.specs.Entries.{entry_view, pages_of, entry_at, Taken}
use Rattle.pages.specs.Choices.{Takes, Room, ChosenPage}
use Rattle.pages.proofs.Bits.{has_none, lowest_none}
use Rattle.pages.proofs.Views.{slot_at, slots_used, slots_free}
use Rattle.pages.proofs.Pages.{Full, set_entry, entry_here, entry_there, page_of_entry}

-- ---- a page with a free block

pub size_view : (e : Entry) (ws : List ℕ) → (entry_view e ws).size ≡ e.size
unfolding page_view
size_view e ws = refl

slots_count : (e : Entry) (ws : List ℕ) → length (entry_view e ws).slots ≡ 256 / e.size
unfolding page_view
slots_count e ws = length-map-range_with_len (slot_view e.size e.occupied e.marked ws) 0 (blocks e.size)

lowest_low : {A : Type 0} (xs : List (Option A)) → occupied xs < length xs → lowest_free xs < length xs
lowest_low [] h = absurd (omega arith)
lowest_low (None ∷ xs) h = omega arith
lowest_low (Some x ∷ xs) h = let r = lowest_low xs (omega arith) in omega arith

module _ (e : Entry) (size : ℕ) where
  pub cut_sizes : Room size (entry_view e []) → e.size ≡ 0 → (4 ≤ size) × (size ≤ 256)
  cut_sizes (inl t) z =
      let f = slots_free e.size e.closed e.occupied e.marked [] e.below in
      let b : 256 / e.size ≡ 0 = ap (λ (x : ℕ). 256 / x) z in
      let r = t.room in absurd (omega arith)
  cut_sizes (inr r) z = (r.1, r.2)

  pub open_size : Room size (entry_view e []) → (e.size ≡ 0 → ⊥) → e.size ≡ size
  open_size (inl t) ne = sym (size_view e []) ∙ t.class
  open_size (inr r) ne = absurd (ne (sym (size_view e []) ∙ r.0))

  pub open_room : Room size (entry_view e []) → (e.size ≡ 0 → ⊥) → ones e.occupied < 256 / e.size
  open_room (inl t) ne =
      let f = slots_free e.size e.closed e.occupied e.marked [] e.below in
      let r = t.room in omega arith
  open_room (inr r) ne = absurd (ne (sym (size_view e []) ∙ r.0))

none_cond : {A : Type 0} (b : Bool) (x : A) → cond b (Some x) None ≡ None → b ≡ false
none_cond true x q = let z : ◌≡◌ {A = ℕ} 0 1 = cc in absurd (omega arith)
none_cond false x q = refl

module _ (e : Entry) (s : ℕ) (is : s ≡ lowest_free (entry_view e []).slots) where
  pub slot_low : ones e.occupied < 256 / e.size → s < 256 / e.size
  slot_low h =
      let n = slots_count e [] in
      let u = slots_used e.size e.closed e.occupied e.marked [] e.below in
      let l = lowest_low (entry_view e []).slots (omega arith) in
      omega arith

  pub slot_off : has e.occupied s ≡ false
  unfolding slot_view
  slot_off =
      none_cond (has e.occupied s) (block_of (has e.marked s) (region e.size [] s))
      (sym (slot_at e.size e.closed e.occupied e.marked [] s e.below)
      ∙ ap (λ (x : ℕ). get_or (entry_view e []).slots x None) is ∙ lowest_none (entry_view e []).slots)

-- no slot below the lowest free one is free
lowest_taken : {A : Type 0} (xs : List (Option A)) (k : ℕ) → k < lowest_free xs → get_or xs k None ≡ None → ⊥
lowest_taken [] k l e = omega arith
lowest_taken (None ∷ xs) k l e = omega arith
lowest_taken (Some x ∷ xs) zero l e = let z : ◌≡◌ {A = ℕ} 0 1 = cc in omega arith
lowest_taken (Some x ∷ xs) (suc k) l e = lowest_taken xs k (omega arith) e

slot_below : (e : Entry) (s : ℕ) → s ≡ lowest_free (entry_view e []).slots → (k : ℕ) → k < s → has e.occupied k ≡ true
unfolding slot_view
slot_below e s is k l = by (has e.occupied k) refl
  where
    by : (b : Bool) → has e.occupied k ≡ b → b ≡ true
    by true q = refl
    by false q =
        absurd (lowest_taken (entry_view e []).slots k (omega arith)
        (slot_at e.size e.closed e.occupied e.marked [] k e.below
        ∙ ap (λ (b : Bool). cond b (Some (block_of (has e.marked k) (region e.size [] k))) None) q))

-- ---- the entry changes

ready_uncut : (p : Page) (size : ℕ) → p.size ≡ 0 → ready p size ≡ cut size
ready_uncut p size e = ap (λ (b : Bool). cond b (cut size) p) (eq-eqb p.size 0 e)

pub ready_same : (p : Page) (size : ℕ) → (p.size ≡ 0 → ⊥) → ready p size ≡ p
ready_same p size ne = ap (λ (b : Bool). cond b (cut size) p) (ne_eqb p.size 0 ne)

lowest_cut : (n : ℕ) → 0 < n → lowest_free (replicate {A = Option Block} n None) ≡ 0
lowest_cut zero h = absurd (omega arith)
lowest_cut (suc n) h = refl

module _ (es : List Entry) (g : ℕ) (e : Entry) (low : g < 64) (n : length es ≡ 64) where
  within : g < length es
  within = omega arith

  -- where a block can be after the change
  new_at : (s : ℕ) → ((k : ℕ) → has e.occupied k ≡ true → (k ≡ s) ⊎ ((has (entry_at es g).occupied k ≡ true) × (e.size ≡ (entry_at es g).size)))
      → (h k : ℕ) → has (entry_at (set es g e) h).occupied k ≡ true
      → ((h ≡ g) × (k ≡ s)) ⊎ ((has (entry_at es h).occupied k ≡ true) × ((entry_at (set es g e) h).size ≡ (entry_at es h).size))
  new_at s mine h k = elim (cases_eq h g) [
    | inl q ↦
        let here : entry_at (set es g e) h ≡ e = ap (entry_at (set es g e)) q ∙ entry_here es g e within in
        let P : Entry → Type 0 = λ y. has y.occupied k ≡ true → ((h ≡ g) × (k ≡ s)) ⊎ ((has (entry_at es h).occupied k ≡ true) × (y.size ≡ (entry_at es h).size)) in
        let Q : ℕ → Type 0 = λ i. (has (entry_at es i).occupied k ≡ true) × (e.size ≡ (entry_at es i).size) in
        subst P (sym here) (λ on. elim (mine k on) [ inl r ↦ inl (q, r) | inr r ↦ inr (subst Q (sym q) r) ])
    | inr ne ↦
        let P : Entry → Type 0 = λ y. has y.occupied k ≡ true → ((h ≡ g) × (k ≡ s)) ⊎ ((has (entry_at es h).occupied k ≡ true) × (y.size ≡ (entry_at es h).size)) in
        subst P (sym (entry_there es g e h ne)) (λ on. inr (on, refl))
  ]

  view_at : (wss : List (List ℕ)) → Full es wss → (p : Page) → entry_view e (get_or wss g []) ≡ p → pages_of (set es g e) wss ≡ set (pages_of es wss) g p
  view_at wss full p q = let b = full.1 in set_entry es wss g e (omega arith) ∙ ap (set (pages_of es wss) g) q

  pub taken_cut : (size : ℕ) (marked : Bool) → (entry_at es g).size ≡ 0 → 4 ≤ size → size ≤ 256
      → ((ws : List ℕ) → entry_view e ws ≡ filled (cut size) 0 (block_of marked (region size ws 0))) → ((k : ℕ) → has e.occupied k ≡ true → k ≡ 0) → e.size ≡ size
      → Taken es (set es g e) g 0 size marked
  taken_cut size marked z a b view one size_is =
      let some : 1 ≤ 256 / size = le-div 1 256 size (omega arith) (omega arith) in
      let off : (k : ℕ) → has (entry_at es g).occupied k ≡ false = λ k. ap (λ (o : ℕ). has o k) ((entry_at es g).blank z).1 ∙ has_none k in
      let made : (wss : List (List ℕ)) → Full es wss → ready (page_at (pages_of es wss) g) size ≡ cut size =
      λ wss full. ready_uncut (page_at (pages_of es wss) g) size (ap (λ (p : Page). p.size) (page_of_entry es wss g full low) ∙ size_view (entry_at es g) (get_or wss g []) ∙ z) in
      record {
        count = length-set es g e;
        low = low;
        short = some;
        size_is = ap (λ (x : Entry). x.size) (entry_here es g e within) ∙ size_is;
        free = off 0;
        below = λ k l. absurd (omega arith);
        same_size = λ k on. absurd (both_ways (has (entry_at es g).occupied k) (off k) on);
        new = new_at 0 (λ k on. inl (one k on));
        lowest = λ wss long. sym (ap (λ (p : Page). lowest_free p.slots) (made wss (n, long)) ∙ lowest_cut (256 / size) some);
        view = λ wss long.
            view_at wss (n, long) (filled (ready (page_at (pages_of es wss) g) size) 0 (block_of marked (region size (get_or wss g []) 0)))
            (view (get_or wss g []) ∙ sym (ap (λ (p : Page). filled p 0 (block_of marked (region size (get_or wss g []) 0))) (made wss (n, long))));
      }

  pub taken_open : (s size : ℕ) (marked : Bool) → ((entry_at es g).size ≡ 0 → ⊥) → (entry_at es g).size ≡ size → s < 256 / size → has (entry_at es g).occupied s ≡ false
      → ((ws : List ℕ) → s ≡ lowest_free (entry_view (entry_at es g) ws).slots)
      → ((ws : List ℕ) → entry_view e ws ≡ filled (entry_view (entry_at es g) ws) s (block_of marked (region (entry_at es g).size ws s)))
      → ((k : ℕ) → has e.occupied k ≡ true → (k ≡ s → ⊥) → has (entry_at es g).occupied k ≡ true) → e.size ≡ (entry_at es g).size
      → Taken es (set es g e) g s size marked
  taken_open s size marked ne size-was short off lowest view more size_is =
      let made : (wss : List (List ℕ)) → Full es wss → ready (page_at (pages_of es wss) g) size ≡ entry_view (entry_at es g) (get_or wss g []) =
      λ wss full.
      ready_same (page_at (pages_of es wss) g) size (λ z. ne (sym (ap (λ (p : Page). p.size) (page_of_entry es wss g full low) ∙ size_view (entry_at es g) (get_or wss g [])) ∙ z))
      ∙ page_of_entry es wss g full low in
      record {
        count = length-set es g e;
        low = low;
        short = short;
        size_is = ap (λ (x : Entry). x.size) (entry_here es g e within) ∙ size_is ∙ size-was;
        free = off;
        below = slot_below (entry_at es g) s (lowest []);
        same_size = λ k on. size-was;
        new = new_at s (λ k on. elim (cases_eq k s) [ inl q ↦ inl q | inr q ↦ inr (more k on q, size_is) ]);
        lowest = λ wss long. lowest (get_or wss g []) ∙ sym (ap (λ (p : Page). lowest_free p.slots) (made wss (n, long)));
        view = λ wss long.
            view_at wss (n, long) (filled (ready (page_at (pages_of es wss) g) size) s (block_of marked (region size (get_or wss g []) s)))
            (view (get_or wss g [])
            ∙ ap₂ (λ (p : Page) (z : ℕ). filled p s (block_of marked (region z (get_or wss g []) s))) (sym (made wss (n, long))) size-was);
      }

-- ---- the room in a chosen page

-- pages with no words
abbrev pub bare : List (List ℕ)
bare = replicate 64 []

module _ (es : List Entry) (n : length es ≡ 64) (g : ℕ) (low : g < 64) where
  bare_page : page_at (pages_of es bare) g ≡ entry_view (entry_at es g) []
  bare_page = page_of_entry es bare g (n, refl) low ∙ ap (entry_view (entry_at es g)) (get_or-replicate 64 g [] [] low)

  pub takes_room : (size : ℕ) → Takes size (page_at (pages_of es bare) g) → Room size (entry_view (entry_at es g) [])
  takes_room size t = let P : Page → Type 0 = λ p. Room size p in subst P bare_page (inl t)

  pub chosen_room : (size : ℕ) → 4 ≤ size → size ≤ 256 → ChosenPage (pages_of es bare) size (Some g) → Room size (entry_view (entry_at es g) [])
  chosen_room size a b (inl o) = takes_room size o.takes
  chosen_room size a b (inr u) = let P : Page → Type 0 = λ p. Room size p in subst P bare_page (inr (u.uncut_yet, a, b))
