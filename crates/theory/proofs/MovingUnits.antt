-- The units of moving: each lowers what is left by both bounds.
use Rattle.std.proofs.Common.{◌≡◌, ℕ, suc, ◌+◌, ◌-◌, ◌<◌, ◌≤◌, Bool, true, false, cond, not, ◌&&◌, ◌||◌, eqb, ltb, leb, ◌≢◌, List, get_or, Some, None, Option, sym, refl, ap, ◌∙◌, subst, ⊎_elim, arith}
use Rattle.std.proofs.lemmas.List.{length-set}
use Rattle.std.proofs.lemmas.Bool.{cond_both, cases_lt, cases_eq, ltb-true, eqb-true, eq-eqb, ne_eqb, and_parts, not-true, or_right, true≢false}
use Rattle.model.specs.Classes.{sizes}
use Rattle.model.specs.Maps.{has, with_flag_set}
use Rattle.model.specs.Pages.{Block, Page, with_closed, number, page_of, page_at, block_at, put_block, current, forward_of, occupied, free, lowest_free, in_class}
use Rattle.model.specs.State.{idle, moving, Heap, with_pages, with_phase}
use Rattle.model.specs.Units.{with_forward, free_of_class, class_done, close_page, choose_source, lowest_current_block, moved, move_to, move_from, moving_unit, source_page, target_page}
use Rattle.theory.proofs.Lists.{lowest_in}
use Rattle.theory.proofs.Maps.{has_with, has_with_other, has_with_same}
use Rattle.theory.proofs.Numbers.{Room, put_other, room_from}
use Rattle.theory.proofs.PageShapes.{Chosen, Frame, PagesOk, Source, Target, at_set, close_ok, frame_ok, frame_put, frame_trans, least_chosen, source_block, target_room}
use Rattle.theory.proofs.Counts.{Weight, bit, block_le_total, current_outside, marked, occupied_block, total, total_limit, total_mono, total_put, weigh}
use Rattle.theory.proofs.CurrentForms.{Alike, Forwards, alike_close, forwards_same, forwards_straight, put_current, put_current_other}
use Rattle.theory.proofs.SpentPages.{spent, spent_closed, spent_frame, spent_limit, spent_next, spent_opened}
use Rattle.theory.proofs.Potential.{AtHand, Bound, Emptying, Lowered, SourceAtHand, by_blocks, by_room, to_move}

pub move_alike : (b : Bound) (targets : ℕ) (ps qs : List Page) → Alike ps qs → to_move b targets qs ≡ to_move b targets ps
move_alike by_room targets ps qs a = ap (λ x. 4096 - x) (a.counts occupied_block)
move_alike by_blocks targets ps qs a = a.counts (current_outside targets)

pub emptying_alike : (k targets : ℕ) (ps qs : List Page) (w : List ℕ) → Alike ps qs → Emptying k targets ps w → Emptying k targets qs w
emptying_alike k targets ps qs w a e = record {
  class = e.class;
  listed = e.listed;
  clean = a.counts marked ∙ e.clean;
  forwards = forwards_same ps qs a.current targets e.forwards;
}

pub at_hand_frame : (k targets : ℕ) (ps qs : List Page) (g : ℕ) → Frame ps qs → AtHand k targets ps g → AtHand k targets qs g
at_hand_frame k targets ps qs g f a = record {
  within = omega (arith, a.within, f.pages);
  size = f.size g ∙ a.size;
  closed = f.closed g ∙ a.closed;
  apart = a.apart;
}

-- the class is finished, where pages may have changed on the way
class_ended : (n : ℕ) (h : Heap) (k : ℕ) (source : Option ℕ) (targets : ℕ) (qs : List Page) → PagesOk qs → Emptying k targets qs h.work
    → Alike h.pages qs
    → (suc k < 20 → spent k h.pages ≤ spent (suc k) qs) → Lowered n h (moving k source targets) (class_done (with_pages h qs) k targets)
class_ended n h k source targets qs o e a m =
    cond_both (ltb (suc k) 20) (moving (suc k) None targets) idle (λ ph. Lowered n h (moving k source targets) (with_phase (with_pages h qs) ph))
    (λ t. let u : suc k < 20 = ltb-true (suc k) 20 t in record {
      sound = record { pages = o; stage = (record { class = u; listed = e.listed; clean = e.clean; forwards = e.forwards }, tt) };
      units = refl;
      less = λ b. omega (arith, m u, move_alike b targets h.pages qs a);
    })
    (λ t. record {
      sound = record { pages = o; stage = record { listed = e.listed; clean = e.clean; straight = forwards_straight targets qs e.forwards } };
      units = refl;
      less = λ b. omega arith;
    })

-- a source is chosen and closes, or the class is finished
module _ (n : ℕ) (h : Heap) (k targets : ℕ) (o : PagesOk h.pages) (e : Emptying k targets h.pages h.work) where
  finished : Lowered n h (moving k None targets) (class_done h k targets)
  finished = class_ended n h k None targets h.pages o e (record { counts = λ f. refl; current = λ m. refl }) (λ u. spent_next k u h.pages)

  source_closed : (g : ℕ) → Chosen (λ g p. in_class (get_or sizes k 0) p && not (has targets g)) h.pages g
      → Lowered n h (moving k None targets) (with_phase (with_pages h (close_page h.pages g true)) (moving k (Some g) targets))
  source_closed g c =
      let ps : List Page = h.pages in
      let t = and_parts (in_class (get_or sizes k 0) (page_at ps g)) (not (has targets g)) c.passes in
      let q : Page = with_closed (page_at ps g) true in
      let now : page_at (close_page ps g true) g ≡ q = at_set ps g q c.within in
      let ok : PagesOk (close_page ps g true) = close_ok ps g true o in
      record {
        sound = record {
          pages = ok;
          stage = (
            emptying_alike k targets ps (close_page ps g true) h.work (alike_close ps g true) e,
            record {
              within = omega (arith, c.within, length-set ps g q);
              size = ap (λ (p : Page). p.size) now ∙ eqb-true (page_at ps g).size (get_or sizes k 0) (and_parts _ _ t.0).0;
              closed = ap (λ (p : Page). p.closed) now;
              apart = not-true (has targets g) t.1;
            },
          );
        };
        units = refl;
        less = λ b.
            omega (
              arith,
              spent_closed k ps g e.class c.within t.0,
              spent_limit k (close_page ps g true) ok.many,
              move_alike b targets ps (close_page ps g true) (alike_close ps g true),
            );
      }

  choose_lowers : (x : Option (ℕ × ℕ)) → source_page h.pages (get_or sizes k 0) targets ≡ x
      → Lowered n h (moving k None targets) (choose_source h k targets x)
  choose_lowers None q = finished
  choose_lowers (Some x) q =
      cond_both (leb x.0 (free_of_class (get_or sizes k 0) x.1 0 h.pages))
      (with_phase (with_pages h (close_page h.pages x.1 true)) (moving k (Some x.1) targets)) (class_done h k targets)
      (Lowered n h (moving k None targets))
      (λ t. source_closed x.1 (least_chosen (λ g p. in_class (get_or sizes k 0) p && not (has targets g)) (λ p. occupied p.slots) h.pages x q))
      (λ t. finished)

-- a block is copied into a free slot of another page, and forwards to its copy
record Move (ps : List Page) (targets g t from to : ℕ) : Type 0 where
  pages : PagesOk ps
  source : Source ps g from
  target : Target ps t to
  other : g ≢ t
  apart : has targets g ≡ false

module _ {ps : List Page} {targets g t from to : ℕ} (move : Move ps targets g t from to) where
  abbrev old : Block
  old = move.source.block

  abbrev copied : Block
  copied = with_forward old to

  abbrev half : List Page
  half = put_block ps to copied

  abbrev after : List Page
  after = put_block half from copied

  differ : from ≢ to
  differ e = move.other (sym move.source.page ∙ ap page_of e ∙ move.target.page)

  half_from : block_at half from ≡ Some old
  half_from = put_other ps to from copied move.target.room differ ∙ move.source.is

  from_room : Room half from
  from_room = room_from half from old half_from

  moved_frame : Frame ps after
  moved_frame = frame_trans ps half after (frame_put ps to copied) (frame_put half from copied)

  -- one current block more in the page of the copy, and a husk in place of the old one
  moved_total : (f : Weight)
      → total f after + f g old.marked true ≡ total f ps + f t old.marked true + f g old.marked false
  moved_total f =
      let m : Bool = old.marked in
      let none : weigh f (page_of to) to (block_at ps to) ≡ 0 = ap (weigh f (page_of to) to) move.target.free in
      let copy : weigh f (page_of to) to (Some copied) ≡ f t m true = ap (λ p. f p m (eqb to to)) move.target.page ∙ ap (f t m) (eq-eqb to to refl) in
      let was : weigh f (page_of from) from (block_at half from) ≡ f g m true =
      ap (weigh f (page_of from) from) half_from ∙ ap (λ p. f p m (eqb old.forward from)) move.source.page ∙ ap (f g m) (eq-eqb _ _ move.source.forward) in
      let husk : weigh f (page_of from) from (Some copied) ≡ f g m false =
      ap (λ p. f p m (eqb to from)) move.source.page ∙ ap (f g m) (ne_eqb to from (λ e. differ (sym e))) in
      omega (arith, total_put f ps to copied move.target.room, total_put f half from copied from_room)

  moved_clean : total marked ps ≡ 0 → total marked after ≡ 0
  moved_clean z = omega (arith, block_le_total marked ps from old move.source.is, moved_total marked)

  outside_less : (i : ℕ) (m c : Bool) → current_outside (with_flag_set targets t) i m c ≤ current_outside targets i m c
  outside_less i m c = subst (λ x. cond x 0 (bit c) ≤ current_outside targets i m c) (sym (has_with targets t i)) (by (eqb i t) (has targets i))
    where
      by : (x y : Bool) → cond (x || y) 0 (bit c) ≤ cond y 0 (bit c)
      by true true = omega arith
      by true false = omega arith
      by false y = omega arith

  gone : has (with_flag_set targets t) g ≡ false
  gone = has_with_other targets t g move.other ∙ move.apart

  move_less : (b : Bound) → suc (to_move b (with_flag_set targets t) after) ≤ to_move b targets ps
  move_less by_room = omega (arith, moved_total occupied_block, total_limit occupied_block (λ i m c. omega arith) after (frame_ok ps after moved_frame move.pages))
  move_less by_blocks =
      let f : Weight = current_outside (with_flag_set targets t) in
      let m : Bool = old.marked in
      let was : f g m true ≡ 1 = ap (λ x. cond x 0 1) gone in
      let husk : f g m false ≡ 0 = ap (λ x. cond x 0 0) gone in
      let copy : f t m true ≡ 0 = ap (λ x. cond x 0 1) (has_with_same targets t) in
      omega (arith, moved_total f, total_mono f (current_outside targets) ps (λ i l. outside_less i))

  abbrev Settled : ℕ → Type 0
  Settled x = (current after x ≡ x) × (0 < x → has (with_flag_set targets t) (page_of x) ≡ true)

  current_to : current after to ≡ to
  current_to = put_current_other half from to copied from_room (λ e. differ (sym e)) ∙ put_current ps to copied move.target.room

  current_else : (x : ℕ) → x ≢ from → x ≢ to → current after x ≡ current ps x
  current_else x d d' = put_current_other half from x copied from_room d ∙ put_current_other ps to x copied move.target.room d'

  settled_still : (x : ℕ) → current ps x ≡ x → (0 < x → has targets (page_of x) ≡ true) → Settled x
  settled_still x e i = ⊎_elim (λ (p : 0 < x). there p) (λ (p : x ≤ 0). let z : 0 ≡ x = omega arith in subst Settled z (refl, λ q. absurd (omega arith))) (cases_lt 0 x)
    where
      there : 0 < x → Settled x
      there p =
          let d : x ≢ from = λ q. true≢false (sym (i p) ∙ ap (has targets) (ap page_of q ∙ move.source.page) ∙ move.apart) in
          let d' : x ≢ to = λ q. let none : current ps x ≡ 0 = ap (current ps) q ∙ ap forward_of move.target.free in omega arith in
          (current_else x d d' ∙ e, λ q. has_with targets t (page_of x) ∙ or_right (eqb (page_of x) t) (has targets (page_of x)) (i q))

  moved_forwards : Forwards targets ps → Forwards (with_flag_set targets t) after
  moved_forwards f x d =
      ⊎_elim
      (λ (e : x ≡ from).
      subst Settled (sym (ap (current after) e ∙ put_current half from copied from_room))
      (current_to, λ q. ap (has (with_flag_set targets t)) move.target.page ∙ has_with_same targets t))
      (λ (d1 : x ≢ from). ⊎_elim
      (λ (e : x ≡ to). absurd (d (ap (current after) e ∙ current_to ∙ sym e)))
      (λ (d2 : x ≢ to).
      let same : current after x ≡ current ps x = current_else x d1 d2 in
      let y = f x (λ q. d (same ∙ q)) in
      subst Settled (sym same) (settled_still (current ps x) y.0 y.1))
      (cases_eq x to))
      (cases_eq x from)

-- a block is moved out of the source
module _ (n : ℕ) (h : Heap) (k targets g : ℕ) (o : PagesOk h.pages) (e : Emptying k targets h.pages h.work)
    (a : AtHand k targets h.pages g) where
  block_moved : (t from to : ℕ) → Source h.pages g from → Target h.pages t to → g ≢ t
      → Lowered n h (moving k (Some g) targets) (with_phase (with_pages h (moved h.pages from to (block_at h.pages from))) (moving k (Some g) (with_flag_set targets t)))
  block_moved t from to source target ne =
      let ps : List Page = h.pages in
      let qs : List Page = moved ps from to (Some source.block) in
      let move : Move ps targets g t from to = record { pages = o; source = source; target = target; other = ne; apart = a.apart } in
      let frame : Frame ps qs = moved_frame move in
      let hand : AtHand k targets qs g = at_hand_frame k targets ps qs g frame a in
      subst (λ x. Lowered n h (moving k (Some g) targets) (with_phase (with_pages h (moved ps from to x)) (moving k (Some g) (with_flag_set targets t)))) (sym source.is)
      (record {
        sound = record {
          pages = frame_ok ps qs frame o;
          stage = (
            record {
              class = e.class;
              listed = e.listed;
              clean = moved_clean move e.clean;
              forwards = moved_forwards move e.forwards;
            },
            record { within = hand.within; size = hand.size; closed = hand.closed; apart = gone move },
          );
        };
        units = refl;
        less = λ b. omega (arith, move_less move b, spent_frame k ps qs frame);
      })

  -- a target is open, and the source is closed
  target_other : (t : ℕ) → Chosen (λ g p. in_class (get_or sizes k 0) p && ltb 0 (free p)) h.pages t → g ≢ t
  target_other t c q =
      let ps : List Page = h.pages in
      let open-page : (page_at ps t).closed ≡ false = not-true (page_at ps t).closed (and_parts _ _ (and_parts _ _ c.passes).0).1 in
      true≢false (sym a.closed ∙ ap (λ i. (page_at ps i).closed) q ∙ open-page)

  move_to_lowers : (s : ℕ) → lowest_current_block g 0 (page_at h.pages g).slots ≡ Some s → (x : Option (ℕ × ℕ))
      → target_page h.pages (get_or sizes k 0) ≡ x
      → Lowered n h (moving k (Some g) targets) (move_to h k targets g s x)
  move_to_lowers s q None r =
      let ps : List Page = h.pages in
      let qs : List Page = close_page ps g false in
      class_ended n h k (Some g) targets qs (close_ok ps g false o) (emptying_alike k targets ps qs h.work (alike_close ps g false) e) (alike_close ps g false)
      (λ u. spent_opened k ps g u a.size)
  move_to_lowers s q (Some x) r =
      let ps : List Page = h.pages in
      let c = least_chosen (λ g p. in_class (get_or sizes k 0) p && ltb 0 (free p)) free ps x r in
      let some-free : 0 < free (page_at ps x.1) = ltb-true _ _ (and_parts _ _ c.passes).1 in
      let low = lowest_in (page_at ps x.1).slots some-free in
      block_moved x.1 (number g s) (number x.1 (lowest_free (page_at ps x.1).slots)) (source_block ps g s o q) (target_room ps x.1 o c.within low)
      (target_other x.1 c)

  move_from_lowers : (x : Option ℕ) → lowest_current_block g 0 (page_at h.pages g).slots ≡ x
      → Lowered n h (moving k (Some g) targets) (move_from h k targets g x)
  move_from_lowers None q = record { sound = record { pages = o; stage = (e, tt) }; units = refl; less = λ b. omega arith }
  move_from_lowers (Some s) q = move_to_lowers s q (target_page h.pages (get_or sizes k 0)) refl

pub move_lowers : (n : ℕ) (h : Heap) (k : ℕ) (source : Option ℕ) (targets : ℕ) → PagesOk h.pages → Emptying k targets h.pages h.work
    → SourceAtHand k targets h.pages source
    → Lowered n h (moving k source targets) (moving_unit h k source targets)
move_lowers n h k None targets o e a = choose_lowers n h k targets o e (source_page h.pages (get_or sizes k 0) targets) refl
move_lowers n h k (Some g) targets o e a = move_from_lowers n h k targets g o e a (lowest_current_block g 0 (page_at h.pages g).slots) refl
