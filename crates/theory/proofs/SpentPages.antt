-- Spent pages: the cut pages that are closed or of a class before the one at hand, of which no source will be chosen any more.
use Rattle.std.proofs.Common.{◌≡◌, ℕ, suc, ◌<◌, ◌≤◌, Bool, true, false, ◌&&◌, ◌||◌, ltb, List, length, get_or, set, sym, refl, ap, ◌∙◌, ⊎_elim, arith}
use Rattle.std.proofs.lemmas.Bool.{ltb-true, lt-ltb, le-ltb, eqb-true, and_parts, and_from, and_right, or_from, or_right, or_left, or_cases, not-true}
use Rattle.std.proofs.lemmas.List.{length-set}
use Rattle.model.specs.Classes.{sizes}
use Rattle.model.specs.Pages.{Page, uncut, cut, with_closed, page_at, in_class}
use Rattle.model.specs.Units.{close_page}
use Rattle.theory.proofs.Tallies.{tally, tally_below, tally_const, tally_mono, tally_set}
use Rattle.theory.proofs.Numbers.{page_set}
use Rattle.theory.proofs.PageShapes.{Frame, sizes_positive, sizes_rise}
use Rattle.theory.proofs.Counts.{bit, bit_one}

-- with class `k` at hand
abbrev pub is_spent : ℕ → Page → Bool
is_spent k p = ltb 0 p.size && (p.closed || ltb p.size (get_or sizes k 0))

unfoldable pub spent : ℕ → List Page → ℕ
spent k ps = tally (λ g p. bit (is_spent k p)) 0 ps

pub spent_limit : (k : ℕ) (ps : List Page) → length ps ≡ 64 → spent k ps ≤ 64
unfolding spent
spent_limit k ps e =
    omega (arith, tally_mono (λ g (p : Page). bit (is_spent k p)) (λ g p. 1) (λ g p. bit_one (is_spent k p)) 0 ps, tally_const 1 0 ps)

bit_mono : (a b : Bool) → (a ≡ true → b ≡ true) → bit a ≤ bit b
bit_mono true b h = let e : bit b ≡ 1 = ap bit (h refl) in omega arith
bit_mono false b h = omega arith

-- every page that is spent stays so
spent_below : (k j : ℕ) (ps qs : List Page) → length ps ≡ length qs → ((g : ℕ) → is_spent k (page_at ps g) ≡ true → is_spent j (page_at qs g) ≡ true)
    → spent k ps ≤ spent j qs
unfolding spent
spent_below k j ps qs e h =
    tally_below (λ g (p : Page). bit (is_spent k p)) (λ g p. bit (is_spent j p)) uncut ps qs e
    (λ g l. bit_mono (is_spent k (page_at ps g)) (is_spent j (page_at qs g)) (h g))

stays_spent : (k : ℕ) → suc k < 20 → (p : Page) → is_spent k p ≡ true → is_spent (suc k) p ≡ true
stays_spent k h p e =
    let a = and_parts _ _ e in
    and_from _ _ a.0
    (⊎_elim
    (λ (c : p.closed ≡ true). or_left _ (ltb p.size (get_or sizes (suc k) 0)) c)
    (λ (c : ltb p.size (get_or sizes k 0) ≡ true). or_right p.closed _ (lt-ltb _ _ (omega (arith, ltb-true _ _ c, sizes_rise k h))))
    (or_cases _ _ a.1))

pub spent_next : (k : ℕ) → suc k < 20 → (ps : List Page) → spent k ps ≤ spent (suc k) ps
spent_next k h ps = spent_below k (suc k) ps ps refl (λ g. stays_spent k h (page_at ps g))

-- blocks only change
pub spent_frame : (k : ℕ) (ps qs : List Page) → Frame ps qs → spent k qs ≡ spent k ps
spent_frame k ps qs f =
    omega (
      arith,
      spent_below k k ps qs (sym f.pages) (λ g e. sym (same g) ∙ e),
      spent_below k k qs ps f.pages (λ g e. same g ∙ e),
    )
  where
    same : (g : ℕ) → is_spent k (page_at ps g) ≡ is_spent k (page_at qs g)
    same g =
        sym (ap (λ x. ltb 0 x && ((page_at qs g).closed || ltb x (get_or sizes k 0))) (f.size g)
        ∙ ap (λ x. ltb 0 (page_at ps g).size && (x || ltb (page_at ps g).size (get_or sizes k 0))) (f.closed g))

-- an uncut page is cut
pub spent_cut : (k : ℕ) (ps : List Page) (g size : ℕ) → (page_at ps g).size ≡ 0 → spent k ps ≤ spent k (set ps g (cut size))
spent_cut k ps g size z =
    spent_below k k ps (set ps g (cut size)) (sym (length-set ps g (cut size)))
    (λ i. page_set (λ j p. is_spent k (page_at ps j) ≡ true → is_spent k p ≡ true) ps g (cut size) i
    (λ l e. absurd (omega (arith, ltb-true 0 (page_at ps g).size (and_parts _ _ e).0))) (λ e. e))

-- a source is closed
module _ (k : ℕ) (ps : List Page) (g : ℕ) (c : k < 20) (l : g < length ps) (chosen : in_class (get_or sizes k 0) (page_at ps g) ≡ true) where
  chosen_size : (page_at ps g).size ≡ get_or sizes k 0
  chosen_size = eqb-true _ _ (and_parts _ _ chosen).0

  was_unspent : is_spent k (page_at ps g) ≡ false
  was_unspent =
      and_right (ltb 0 (page_at ps g).size) _
      (or_from _ _ (not-true (page_at ps g).closed (and_parts _ _ chosen).1) (le-ltb (page_at ps g).size (get_or sizes k 0) (omega (arith, chosen_size))))

  now_spent : is_spent k (with_closed (page_at ps g) true) ≡ true
  now_spent = and_from _ _ (lt-ltb 0 (page_at ps g).size (omega (arith, sizes_positive k c, chosen_size))) refl

  pub spent_closed : spent k (close_page ps g true) ≡ suc (spent k ps)
  unfolding spent
  spent_closed =
      let was : bit (is_spent k (page_at ps g)) ≡ 0 = ap bit was_unspent in
      let now : bit (is_spent k (with_closed (page_at ps g) true)) ≡ 1 = ap bit now_spent in
      omega (arith, tally_set (λ g (p : Page). bit (is_spent k p)) ps g (with_closed (page_at ps g) true) uncut l)

-- a source is opened again at the end of its class
pub spent_opened : (k : ℕ) (ps : List Page) (g : ℕ) → suc k < 20 → (page_at ps g).size ≡ get_or sizes k 0
    → spent k ps ≤ spent (suc k) (close_page ps g false)
spent_opened k ps g u e =
    spent_below k (suc k) ps (close_page ps g false) (sym (length-set ps g (with_closed (page_at ps g) false)))
    (λ i. page_set (λ j p. is_spent k (page_at ps j) ≡ true → is_spent (suc k) p ≡ true) ps g (with_closed (page_at ps g) false) i
    (λ l s. and_from _ _ (and_parts _ _ s).0 (lt-ltb (page_at ps g).size (get_or sizes (suc k) 0) (omega (arith, sizes_rise k u, e)))) (stays_spent k u (page_at ps i)))
