-- What a call does to a heap: it keeps it sound, and only a new block raises what is left, by one, by the sharp bound alone.
use Rattle.std.proofs.Common.{◌≡◌, ℕ, suc, ◌+◌, ◌-◌, ◌<◌, ◌≤◌, Bool, true, false, cond, not, ◌&&◌, ◌||◌, eqb, leb, ◌≢◌, ◌⊎◌, List, length, set, Some, None, Option, sym, refl, ap, ◌∙◌, subst, inl, inr, ⊎_elim, arith}
use Rattle.std.proofs.lemmas.List.{length-set, set-get_or}
use Rattle.std.proofs.lemmas.Bool.{cond-true, cond-false, cases_eq, eq-eqb, ne_eqb, eqb-true}
use Rattle.model.specs.Classes.{blocks}
use Rattle.model.specs.Maps.{has}
use Rattle.model.specs.Pages.{Block, Page, uncut, cut, page_of, page_at, block_at, put_block, current, free, lowest_free, is_uncut}
use Rattle.model.specs.State.{Phase, idle, roots, marking, sweeping, moving, Heap, with_pages}
use Rattle.model.specs.Units.{grey}
use Rattle.model.specs.Making.{barrier_in, barrier, allocated_marked, ready, ready_pages, free_number, new_block, with_new}
use Rattle.model.specs.Calls.{alter}
use Rattle.theory.proofs.Lists.{lowest_in}
use Rattle.theory.proofs.Numbers.{page_set}
use Rattle.theory.proofs.PageShapes.{Frame, PagesOk, Takes, Target, at_set, cut_ok, cut_room, frame_ok, frame_put, set_pages_ok, sizes_positive, target_room}
use Rattle.theory.proofs.Counts.{Weight, bit, current_block, current_or_marked, current_outside, current_unmarked, from, marked, marked_husk, marked_or_husk, occupied_block, total, total_put, unmarked, weigh}
use Rattle.theory.proofs.CurrentForms.{Alike, Forwards, Straight, alike_cut, alike_put, put_current, put_current_other, straight_same}
use Rattle.theory.proofs.GreyCounts.{Greyed, greyed}
use Rattle.theory.proofs.SpentPages.{spent, spent_cut, spent_frame}
use Rattle.theory.proofs.Potential.{AtHand, Bound, Emptying, Sound, Stage, Tracing, by_blocks, by_room, left, left_of, to_move, to_sweep, to_trace}
use Rattle.theory.proofs.TracingUnits.{pages_greyed, trace_greyed, tracing_greyed}
use Rattle.theory.proofs.MovingUnits.{at_hand_frame, emptying_alike, move_alike}

-- what `e` new blocks may raise
abbrev pub raise : ℕ → Bound → ℕ
raise e by_room = 0
raise e by_blocks = e

-- a call took heap `h` to heap `k`, with `e` new blocks
pub record Charged (e : ℕ) (h k : Heap) : Type 0 where
  pub sound : Sound k
  pub units : k.units ≡ h.units
  pub left : (b : Bound) (n : ℕ) → left_of b n k ≤ left_of b n h + raise e b

charged_refl : (h : Heap) → Sound h → Charged 0 h h
charged_refl h s = record { sound = s; units = refl; left = λ b n. omega arith }

raise_plus : (d e : ℕ) (b : Bound) → raise d b + raise e b ≡ raise (d + e) b
raise_plus d e by_room = refl
raise_plus d e by_blocks = refl

pub charged_trans : (d e : ℕ) (h k l : Heap) → Charged d h k → Charged e k l → Charged (d + e) h l
charged_trans d e h k l x y = record {
  sound = y.sound;
  units = y.units ∙ x.units;
  left = λ b n. omega (arith, x.left b n, y.left b n, raise_plus d e b);
}

-- The barrier.

traced : (h : Heap) (m : ℕ) (ph : Phase) → h.phase ≡ ph → Straight h.pages → Stage (grey h m).pages (grey h m).work ph → PagesOk h.pages
    → ((b : Bound) (n : ℕ) → left b n (grey h m).pages (grey h m).work ph ≡ left b n h.pages h.work ph) → Charged 0 h (grey h m)
traced h m ph e s st o l =
    let g : Greyed h (grey h m) = greyed h m s in
    let q : (grey h m).phase ≡ ph = g.phase ∙ e in
    record {
      sound = record { pages = pages_greyed h (grey h m) g o; stage = subst (Stage (grey h m).pages (grey h m).work) (sym q) st };
      units = g.units;
      left = λ b n.
          let before : left_of b n h ≡ left b n h.pages h.work ph = ap (left b n h.pages h.work) e in
          let after : left_of b n (grey h m) ≡ left b n (grey h m).pages (grey h m).work ph = ap (left b n (grey h m).pages (grey h m).work) q in
          omega (arith, l b n);
    }

barrier_charged : (h : Heap) (m : ℕ) (ph : Phase) → h.phase ≡ ph → PagesOk h.pages → Stage h.pages h.work ph
    → Charged 0 h (barrier_in h m ph)
barrier_charged h m idle e o s = charged_refl h (record { pages = o; stage = subst (Stage h.pages h.work) (sym e) s })
barrier_charged h m (roots i) e o s =
    traced h m (roots i) e s.straight (tracing_greyed h (grey h m) (greyed h m s.straight) s) o
    (λ b n. ap (λ x. suc (n - suc i) + x + 213) (trace_greyed b h (grey h m) (greyed h m s.straight)))
barrier_charged h m marking e o s =
    traced h m marking e s.straight (tracing_greyed h (grey h m) (greyed h m s.straight) s) o
    (λ b n. ap (λ x. x + 213) (trace_greyed b h (grey h m) (greyed h m s.straight)))
barrier_charged h m (sweeping g) e o s = charged_refl h (record { pages = o; stage = subst (Stage h.pages h.work) (sym e) s })
barrier_charged h m (moving k source targets) e o s = charged_refl h (record { pages = o; stage = subst (Stage h.pages h.work) (sym e) s })

pub charged_barrier : (h : Heap) (m : ℕ) → Sound h → Charged 0 h (barrier h m)
charged_barrier h m s = barrier_charged h m h.phase refl s.pages s.stage

-- Pages with the same counts and current forms.

module _ (ps qs : List Page) (a : Alike ps qs) (more : (k : ℕ) → spent k ps ≤ spent k qs)
    (hand : (k targets g : ℕ) → k < 20 → AtHand k targets ps g → AtHand k targets qs g) where
  tracing_alike : (w : List ℕ) → Tracing ps w → Tracing qs w
  tracing_alike w s = record {
    room = omega (arith, a.counts unmarked, s.room);
    husks = a.counts marked_husk ∙ s.husks;
    straight = straight_same ps qs a.current s.straight;
  }

  stage_alike : (w : List ℕ) (ph : Phase) → Stage ps w ph → Stage qs w ph
  stage_alike w idle s = record { listed = s.listed; clean = a.counts marked ∙ s.clean; straight = straight_same ps qs a.current s.straight }
  stage_alike w (roots i) s = tracing_alike w s
  stage_alike w marking s = tracing_alike w s
  stage_alike w (sweeping g) s = record { listed = s.listed; swept = a.counts (from g marked_husk marked_or_husk) ∙ s.swept }
  stage_alike w (moving k None targets) s = (emptying_alike k targets ps qs w a s.0, tt)
  stage_alike w (moving k (Some g) targets) s = (emptying_alike k targets ps qs w a s.0, hand k targets g s.0.class s.1)

  trace_alike : (b : Bound) (w : List ℕ) → to_trace b qs w ≡ to_trace b ps w
  trace_alike by_room w = omega (arith, a.counts unmarked)
  trace_alike by_blocks w = omega (arith, a.counts current_unmarked, a.counts current_or_marked)

  sweep_alike : (b : Bound) (g : ℕ) → to_sweep b g qs ≡ to_sweep b g ps
  sweep_alike by_room g = refl
  sweep_alike by_blocks g = a.counts (from g marked current_block)

  left_alike : (b : Bound) (n : ℕ) (w : List ℕ) (ph : Phase) → left b n qs w ph ≤ left b n ps w ph
  left_alike b n w idle = omega arith
  left_alike b n w (roots i) = omega (arith, trace_alike b w)
  left_alike b n w marking = omega (arith, trace_alike b w)
  left_alike b n w (sweeping g) = omega (arith, sweep_alike b g)
  left_alike b n w (moving k source targets) = omega (arith, move_alike b targets ps qs a, more k)

charged_alike : (h : Heap) (qs : List Page) → Sound h → Alike h.pages qs → PagesOk qs → ((k : ℕ) → spent k h.pages ≤ spent k qs)
    → ((k targets g : ℕ) → k < 20 → AtHand k targets h.pages g → AtHand k targets qs g) → Charged 0 h (with_pages h qs)
charged_alike h qs s a o more hand = record {
  sound = record { pages = o; stage = stage_alike h.pages qs a more hand h.work h.phase s.stage };
  units = refl;
  left = λ b n. omega (arith, left_alike h.pages qs a more hand b n h.work h.phase);
}

-- a block is changed in its references or words
pub charged_alter : (h : Heap) (n : ℕ) (f : Block → Block) → ((b : Block) → (f b).forward ≡ b.forward) → ((b : Block) → (f b).marked ≡ b.marked)
    → Sound h → Charged 0 h (alter h n f (block_at h.pages n))
charged_alter h n f p q s = go (block_at h.pages n) refl
  where
    go : (o : Option Block) → block_at h.pages n ≡ o → Charged 0 h (alter h n f o)
    go None e = charged_refl h s
    go (Some b) e =
        let ps : List Page = h.pages in
        let qs : List Page = put_block ps n (f b) in
        let frame : Frame ps qs = frame_put ps n (f b) in
        charged_alike h qs s (alike_put ps n b (f b) e (p b) (q b)) (frame_ok ps qs frame s.pages) (λ k. omega (arith, spent_frame k ps qs frame))
        (λ k targets g c. at_hand_frame k targets ps qs g frame)

-- A page is cut, if it is not yet.

at_hand_cut : (ps : List Page) (i size : ℕ) → (page_at ps i).size ≡ 0 → (k targets g : ℕ) → k < 20 → AtHand k targets ps g
    → AtHand k targets (set ps i (cut size)) g
at_hand_cut ps i size z k targets g c a =
    let same : ((page_at (set ps i (cut size)) g).size ≡ (page_at ps g).size) × ((page_at (set ps i (cut size)) g).closed ≡ (page_at ps g).closed) =
    page_set (λ j p. 0 < (page_at ps j).size → (p.size ≡ (page_at ps j).size) × (p.closed ≡ (page_at ps j).closed)) ps i (cut size) g
    (λ l u. absurd (omega arith)) (λ u. (refl, refl)) (omega (arith, a.size, sizes_positive k c)) in
    record { within = omega (arith, a.within, length-set ps i (cut size)); size = same.0 ∙ a.size; closed = same.1 ∙ a.closed; apart = a.apart }

-- page `g` with a free slot
abbrev Readied : Heap → ℕ → Page → Type 0
Readied h g q = Charged 0 h (with_pages h (set h.pages g q)) × (lowest_free q.slots < length q.slots)

ready_charged : (h : Heap) (g size : ℕ) → Sound h → Takes h.pages size g → 0 < size → 0 < blocks size → blocks size ≤ 64
    → Readied h g (ready (page_at h.pages g) size)
ready_charged h g size s t s0 b0 b1 = go t.page
  where
    ps : List Page
    ps = h.pages

    go : (((page_at ps g).size ≡ size) × (0 < free (page_at ps g))) ⊎ (is_uncut (page_at ps g) ≡ true) → Readied h g (ready (page_at ps g) size)
    go (inl r) =
        subst (Readied h g) (sym (cond-false (is_uncut (page_at ps g)) (cut size) (page_at ps g) (ne_eqb (page_at ps g).size 0 (λ e. omega (arith, r.0)))))
        (subst (λ qs. Charged 0 h (with_pages h qs)) (sym (set-get_or ps g uncut)) (charged_refl h s), lowest_in (page_at ps g).slots r.1)
    go (inr e) =
        let z : (page_at ps g).size ≡ 0 = eqb-true (page_at ps g).size 0 e in
        subst (Readied h g) (sym (cond-true (is_uncut (page_at ps g)) (cut size) (page_at ps g) e)) (
          charged_alike h (set ps g (cut size)) s (alike_cut ps g size ((s.pages.each g).uncut z)) (set_pages_ok ps g (cut size) (cut_ok size s0 b1) s.pages)
              (λ k. spent_cut k ps g size z) (at_hand_cut ps g size z),
          cut_room size b0,
        )

-- A new block is put into a free slot.

module _ (ps : List Page) (g n : ℕ) (b : Block) (t : Target ps g n) (own : b.forward ≡ n) where
  abbrev filled : List Page
  filled = put_block ps n b

  fill_total : (f : Weight) (m : Bool) → b.marked ≡ m → total f filled ≡ total f ps + f g m true
  fill_total f m e =
      let none : weigh f (page_of n) n (block_at ps n) ≡ 0 = ap (weigh f (page_of n) n) t.free in
      let new : weigh f (page_of n) n (Some b) ≡ f g m true =
      ap (λ p. f p b.marked (eqb b.forward n)) t.page ∙ ap (λ x. f g x (eqb b.forward n)) e ∙ ap (f g m) (eq-eqb b.forward n own) in
      omega (arith, total_put f ps n b t.room)

  fill_own : current filled n ≡ n
  fill_own = put_current ps n b t.room ∙ own

  -- a number that was current is so still
  fill_still : (x : ℕ) → current ps x ≡ x → current filled x ≡ x
  fill_still x e = ⊎_elim (λ (z : x ≡ n). ap (current filled) z ∙ fill_own ∙ sym z) (λ (d : x ≢ n). put_current_other ps n x b t.room d ∙ e) (cases_eq x n)

  fill_straight : Straight ps → Straight filled
  fill_straight s x =
      ⊎_elim
      (λ (z : x ≡ n). ap (current filled) (ap (current filled) z ∙ fill_own ∙ sym z))
      (λ (d : x ≢ n). let q : current filled x ≡ current ps x = put_current_other ps n x b t.room d in ap (current filled) q ∙ fill_still (current ps x) (s x) ∙ sym q)
      (cases_eq x n)

  fill_forwards : (targets : ℕ) → Forwards targets ps → Forwards targets filled
  fill_forwards targets f x d =
      let d' : x ≢ n = λ z. d (ap (current filled) z ∙ fill_own ∙ sym z) in
      let q : current filled x ≡ current ps x = put_current_other ps n x b t.room d' in
      let y = f x (λ z. d (q ∙ z)) in
      subst (λ c. (current filled c ≡ c) × (0 < c → has targets (page_of c) ≡ true)) (sym q) (fill_still (current ps x) y.0, y.1)

  fill_tracing : b.marked ≡ true → (w : List ℕ) → Tracing ps w → Tracing filled w
  fill_tracing m w s = record {
    room = omega (arith, fill_total unmarked true m, s.room);
    husks = omega (arith, fill_total marked_husk true m, s.husks);
    straight = fill_straight s.straight;
  }

  swept_none : (i : ℕ) → from i marked_husk marked_or_husk g (leb i g) true ≡ 0
  swept_none i = by (leb i g)
    where
      by : (x : Bool) → cond x (bit (x && not true)) (bit (x || not true)) ≡ 0
      by true = refl
      by false = refl

  fill_emptying : b.marked ≡ false → (k targets : ℕ) (w : List ℕ) → Emptying k targets ps w → Emptying k targets filled w
  fill_emptying m k targets w s = record {
    class = s.class;
    listed = s.listed;
    clean = omega (arith, fill_total marked false m, s.clean);
    forwards = fill_forwards targets s.forwards;
  }

  fill_stage : (w : List ℕ) (ph : Phase) → b.marked ≡ allocated_marked ph g → Stage ps w ph → Stage filled w ph
  fill_stage w idle m s = record { listed = s.listed; clean = omega (arith, fill_total marked false m, s.clean); straight = fill_straight s.straight }
  fill_stage w (roots i) m s = fill_tracing m w s
  fill_stage w marking m s = fill_tracing m w s
  fill_stage w (sweeping i) m s = record {
    listed = s.listed;
    swept = omega (arith, fill_total (from i marked_husk marked_or_husk) (leb i g) m, swept_none i, s.swept);
  }
  fill_stage w (moving k None targets) m s = (fill_emptying m k targets w s.0, tt)
  fill_stage w (moving k (Some i) targets) m s = (fill_emptying m k targets w s.0, at_hand_frame k targets ps filled i (frame_put ps n b) s.1)

  fill_trace : (x : Bound) → b.marked ≡ true → (w : List ℕ) → to_trace x filled w ≤ to_trace x ps w + raise 1 x
  fill_trace by_room m w = omega (arith, fill_total unmarked true m)
  fill_trace by_blocks m w = omega (arith, fill_total current_unmarked true m, fill_total current_or_marked true m)

  fill_sweep : (x : Bound) (i : ℕ) → to_sweep x i filled ≤ to_sweep x i ps + raise 1 x
  fill_sweep by_room i = omega arith
  fill_sweep by_blocks i = omega (arith, fill_total (from i marked current_block) b.marked refl, by (leb i g) b.marked)
    where
      by : (x m : Bool) → cond x (bit m) 1 ≤ 1
      by true true = omega arith
      by true false = omega arith
      by false m = omega arith

  fill_move : (x : Bound) (targets : ℕ) → to_move x targets filled ≤ to_move x targets ps + raise 1 x
  fill_move by_room targets = omega (arith, fill_total occupied_block b.marked refl)
  fill_move by_blocks targets = omega (arith, fill_total (current_outside targets) b.marked refl, by (has targets g))
    where
      by : (x : Bool) → cond x 0 1 ≤ 1
      by true = omega arith
      by false = omega arith

  fill_left : (x : Bound) (k : ℕ) (w : List ℕ) (ph : Phase) → b.marked ≡ allocated_marked ph g → left x k filled w ph ≤ left x k ps w ph + raise 1 x
  fill_left x k w idle m = omega arith
  fill_left x k w (roots i) m = omega (arith, fill_trace x m w)
  fill_left x k w marking m = omega (arith, fill_trace x m w)
  fill_left x k w (sweeping i) m = omega (arith, fill_sweep x i)
  fill_left x k w (moving c source targets) m = omega (arith, fill_move x targets, spent_frame c ps filled (frame_put ps n b))

-- a record is made in page `g`
pub charged_new : (h : Heap) (g size r d : ℕ) → Sound h → Takes h.pages size g → 0 < size → 0 < blocks size → blocks size ≤ 64
    → Charged 1 h (with_new h g size r d)
charged_new h g size r d s t s0 b0 b1 =
    let cut_page = ready_charged h g size s t s0 b0 b1 in
    let qs : List Page = ready_pages h.pages g size in
    let k : Heap = with_pages h qs in
    let n : ℕ = free_number qs g in
    let b : Block = new_block h.phase g n r d in
    let o : PagesOk qs = cut_page.0.sound.pages in
    let now : page_at qs g ≡ ready (page_at h.pages g) size = at_set h.pages g (ready (page_at h.pages g) size) t.within in
    let low : lowest_free (page_at qs g).slots < length (page_at qs g).slots = subst (λ (p : Page). lowest_free p.slots < length p.slots) (sym now) cut_page.1 in
    let slot : Target qs g n = target_room qs g o (omega (arith, t.within, length-set h.pages g (ready (page_at h.pages g) size))) low in
    let fill : Charged 1 k (with_new h g size r d) = record {
      sound = record { pages = frame_ok qs (put_block qs n b) (frame_put qs n b) o; stage = fill_stage qs g n b slot refl h.work h.phase refl cut_page.0.sound.stage };
      units = refl;
      left = λ x m. fill_left qs g n b slot refl x m h.work h.phase refl;
    } in
    charged_trans 0 1 h k (with_new h g size r d) cut_page.0 fill
