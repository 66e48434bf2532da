-- The units of sweeping: each lowers what is left by both bounds.
use Rattle.std.proofs.Common.{◌≡◌, ℕ, suc, ◌<◌, ◌≤◌, Bool, true, false, cond, not, ◌||◌, eqb, ltb, leb, ◌≢◌, ◌⊎◌, List, [], ◌∷◌, length, set, Some, None, Option, sym, refl, ap, ◌∙◌, subst, inl, inr, ⊎_elim, arith}
use Rattle.std.proofs.lemmas.List.{length-set, get_or-set_other}
use Rattle.std.proofs.lemmas.Bool.{cond_both, cond-true, cond-false, cases_lt, cases_eq, le-leb, lt-leb, ltb-true, ltb-false, eqb-true}
use Rattle.model.specs.Maps.{has}
use Rattle.model.specs.Pages.{Block, Page, uncut, number, page_of, page_at, block_at, current, forward_of, occupied, count_pages, is_uncut}
use Rattle.model.specs.State.{Phase, idle, sweeping, moving, Heap}
use Rattle.model.specs.Units.{survivor, survivors, swept, sweeping_unit}
use Rattle.theory.proofs.Maps.{has_none}
use Rattle.theory.proofs.Tallies.{tally}
use Rattle.theory.proofs.PageShapes.{PagesOk, at_set, set_pages_ok, swept_ok}
use Rattle.theory.proofs.Counts.{Weight, bit, block_le_total, current_block, current_outside, from, in_page, in_page_mono, marked, marked_husk, marked_or_husk, total, total_below, total_mono, weigh}
use Rattle.theory.proofs.CurrentForms.{Forwards, forwards_straight}
use Rattle.theory.proofs.Potential.{Bound, Clearing, Lowered, by_blocks, by_room, to_move, to_sweep}

-- One count in the pages still to be swept, another in those that are swept, falls with each page that is swept.
module _ (f f' : Weight) where
  from_later : (i g : ℕ) → i ≤ g → (m c : Bool) → from i f f' g m c ≡ f g m c
  from_later i g h m c = cond-true (leb i g) (f g m c) (f' g m c) (le-leb i g h)

  from_earlier : (i g : ℕ) → g < i → (m c : Bool) → from i f f' g m c ≡ f' g m c
  from_earlier i g h m c = cond-false (leb i g) (f g m c) (f' g m c) (lt-leb i g h)

  from_other : (i g : ℕ) → i ≢ g → (m c : Bool) → from (suc g) f f' i m c ≤ from g f f' i m c
  from_other i g ne m c =
      ⊎_elim
      (λ (l : g < i). omega (arith, from_later (suc g) i (omega arith) m c, from_later g i (omega arith) m c))
      (λ (l : i ≤ g). omega (arith, from_earlier (suc g) i (omega arith) m c, from_earlier g i (omega arith) m c))
      (cases_lt g i)

  -- a marked block survives unmarked
  module _ (g : ℕ) (survives : (c : Bool) → f' g false c ≤ f g true c) where
    survivor_below : (n : ℕ) (x : Option Block) → weigh (from (suc g) f f') g n (survivor x) ≤ weigh (from g f f') g n x
    survivor_below n None = omega arith
    survivor_below n (Some b) = by b.marked
      where
        by : (m : Bool) → weigh (from (suc g) f f') g n (cond m (Some (record { forward = b.forward; marked = false; refs = b.refs; words = b.words })) None)
            ≤ from g f f' g m (eqb b.forward n)
        by true =
            let c : Bool = eqb b.forward n in
            omega (arith, from_earlier (suc g) g (omega arith) false c, from_later g g (omega arith) true c, survives c)
        by false = omega arith

    survivors_below : (k : ℕ) (xs : List (Option Block))
        → tally (λ s x. weigh (from (suc g) f f') g (number g s) x) k (survivors xs) ≤ tally (λ s x. weigh (from g f f') g (number g s) x) k xs
    survivors_below k [] = omega arith
    survivors_below k (x ∷ xs) = omega (arith, survivor_below (number g k) x, survivors_below (suc k) xs)

    page_below : (p : Page) → in_page (from (suc g) f f') g (swept p) ≤ in_page (from g f f') g p
    page_below p =
        cond_both (eqb (occupied (survivors p.slots)) 0) uncut (record { size = p.size; closed = false; slots = survivors p.slots })
        (λ q. in_page (from (suc g) f f') g q ≤ in_page (from g f f') g p) (λ e. omega arith) (λ e. survivors_below 0 p.slots)

    swept_below : (ps : List Page) → total (from (suc g) f f') (set ps g (swept (page_at ps g))) ≤ total (from g f f') ps
    swept_below ps = total_below (from (suc g) f f') (from g f f') qs ps (length-set ps g q) (λ i l. page i (omega (arith, length-set ps g q)) (cases_eq i g))
      where
        q : Page
        q = swept (page_at ps g)

        qs : List Page
        qs = set ps g q

        page : (i : ℕ) → i < length ps → (i ≡ g) ⊎ (i ≢ g) → in_page (from (suc g) f f') i (page_at qs i) ≤ in_page (from g f f') i (page_at ps i)
        page i l (inl e) =
            subst (λ j. in_page (from (suc g) f f') j (page_at qs j) ≤ in_page (from g f f') j (page_at ps j)) (sym e)
            (subst (λ p. in_page (from (suc g) f f') g p ≤ in_page (from g f f') g (page_at ps g)) (sym (at_set ps g q (omega arith))) (page_below (page_at ps g)))
        page i l (inr d) =
            subst (λ p. in_page (from (suc g) f f') i p ≤ in_page (from g f f') i (page_at ps i)) (sym (get_or-set_other ps g i q uncut d))
            (in_page_mono (from (suc g) f f') (from g f f') i (from_other i g d) (page_at ps i))

  -- after the last page
  from_end : (g : ℕ) (ps : List Page) → length ps ≤ g → total f' ps ≤ total (from g f f') ps
  from_end g ps h = total_mono f' (from g f f') ps (λ i l m c. omega (arith, from_earlier g i (omega arith) m c))

husk_survives : (g : ℕ) (c : Bool) → marked_or_husk g false c ≤ marked_husk g true c
husk_survives g true = omega arith
husk_survives g false = omega arith

current_survives : (g : ℕ) (c : Bool) → current_block g false c ≤ marked g true c
current_survives g true = omega arith
current_survives g false = omega arith

sweep_next : (b : Bound) (g : ℕ) (ps : List Page) → to_sweep b (suc g) (set ps g (swept (page_at ps g))) ≤ to_sweep b g ps
sweep_next by_room g ps = omega arith
sweep_next by_blocks g ps = swept_below marked current_block g (current_survives g) ps

-- where every page is swept each block is current and unmarked
module _ (ps : List Page) (g : ℕ) (all : length ps ≤ g) (none : total (from g marked_husk marked_or_husk) ps ≡ 0) where
  last_none : total marked_or_husk ps ≡ 0
  last_none = omega (arith, from_end marked_husk marked_or_husk g ps all)

  last_clean : total marked ps ≡ 0
  last_clean = omega (arith, last_none, total_mono marked marked_or_husk ps (λ i l. by))
    where
      by : (m c : Bool) → marked 0 m c ≤ marked_or_husk 0 m c
      by true c = omega arith
      by false c = omega arith

  last_forwards : Forwards 0 ps
  last_forwards n d = go (block_at ps n) refl
    where
      by : (m c : Bool) → bit (m || not c) ≤ 0 → c ≡ true
      by true c h = absurd (omega arith)
      by false true h = refl
      by false false h = absurd (omega arith)

      go : (o : Option Block) → block_at ps n ≡ o
          → (current ps (forward_of o) ≡ forward_of o) × (0 < forward_of o → has 0 (page_of (forward_of o)) ≡ true)
      go None e = (refl, λ p. absurd (omega arith))
      go (Some b) e =
          let h = block_le_total marked_or_husk ps n b e in
          absurd (d (ap forward_of e ∙ eqb-true b.forward n (by b.marked (eqb b.forward n) (omega (arith, last_none)))))

  last_move : (b : Bound) → to_move b 0 ps ≤ to_sweep b g ps
  last_move by_room = omega arith
  last_move by_blocks =
      omega (
        arith,
        from_end marked current_block g ps all,
        total_mono (current_outside 0) current_block ps (λ i l m c. let e = cond-false (has 0 i) 0 (bit c) (has_none i) in omega arith),
      )

-- a page is swept
pub sweep_lowers : (n : ℕ) (h : Heap) (g : ℕ) → PagesOk h.pages → Clearing g h.pages h.work → Lowered n h (sweeping g) (sweeping_unit h g)
sweep_lowers n h g o t =
    cond_both (ltb (suc g) 64) (sweeping (suc g)) (cond (leb 20 (count_pages is_uncut ps)) idle (moving 0 None 0)) (λ ph. Lowered n h (sweeping g) (heap ph))
    (λ e. record {
      sound = record { pages = pages; stage = record { listed = t.listed; swept = swept_now } };
      units = refl;
      less = λ b. omega (arith, ltb-true (suc g) 64 e, sweep_next b g h.pages);
    })
    (λ e. let all : length ps ≤ suc g = omega (arith, ltb-false (suc g) 64 e, pages.many) in
    cond_both (leb 20 (count_pages is_uncut ps)) idle (moving 0 None 0) (λ ph. Lowered n h (sweeping g) (heap ph))
    (λ u. record {
      sound = record {
        pages = pages;
        stage = record { listed = t.listed; clean = last_clean ps (suc g) all swept_now; straight = forwards_straight 0 ps (last_forwards ps (suc g) all swept_now) };
      };
      units = refl;
      less = λ b. omega arith;
    })
    (λ u. record {
      sound = record {
        pages = pages;
        stage = (
          record { class = omega arith; listed = t.listed; clean = last_clean ps (suc g) all swept_now; forwards = last_forwards ps (suc g) all swept_now },
          tt,
        );
      };
      units = refl;
      less = λ b. omega (arith, last_move ps (suc g) all swept_now b, sweep_next b g h.pages);
    }))
  where
    ps : List Page
    ps = set h.pages g (swept (page_at h.pages g))

    heap : Phase → Heap
    heap ph = record { pages = ps; work = h.work; phase = ph; units = h.units }

    pages : PagesOk ps
    pages = set_pages_ok h.pages g (swept (page_at h.pages g)) (swept_ok (page_at h.pages g) (o.each g)) o

    swept_now : total (from (suc g) marked_husk marked_or_husk) ps ≡ 0
    swept_now = omega (arith, swept_below marked_husk marked_or_husk g (husk_survives g) h.pages, t.swept)
