-- Moving: a unit copies one block, or chooses a page, and the graph is still stood for.
use Rattle.std.proofs.Common.{◌≡◌, ℕ, suc, ◌<◌, Bool, true, false, cond, not, ◌&&◌, ltb, leb, ◌≢◌, ◌⊎◌, List, length, get_or, Some, None, Option, sym, refl, ap, ◌∙◌, subst, inl, inr, ⊎_elim, arith}
use Rattle.std.proofs.lemmas.List.{get_or-set_same}
use Rattle.std.proofs.lemmas.Bool.{and_parts, both_ways, cases_eq, eqb-true, ltb-true, not-true, or_right}
use Rattle.model.specs.Classes.{sizes}
use Rattle.model.specs.Maps.{has, with_flag_set}
use Rattle.model.specs.Pages.{Block, Page, block_at, forward_of, free, in_class, lowest_free, number, occupied, page_at, page_of, put_block, uncut, with_closed}
use Rattle.model.specs.State.{Heap, Phase, idle, marking, moving, roots, sweeping, with_pages, with_phase}
use Rattle.model.specs.Units.{choose_source, class_done, close_page, free_of_class, lowest_current_block, move_from, move_to, moving_unit, moved, source_page, target_page, with_forward}
use Rattle.model.specs.Graph.{Record}
use Rattle.model.specs.Runs.{owner_moved, owner_unit, put}
use Rattle.theory.proofs.Maps.{has_with, has_with_other, has_with_same}
use Rattle.theory.proofs.Lists.{lowest_in, none_some, some_same}
use Rattle.theory.proofs.Numbers.{Room, put_other, put_same, room_from}
use Rattle.theory.proofs.PageShapes.{PagesOk, Target, close_blocks, close_ok, frame_put, least_chosen, sizes_positive, source_block, target_room}
use Rattle.theory.proofs.Memory.{Forwarding, HasBlock, Mem, Wrote}
use Rattle.theory.proofs.Pages.{close_memory, put_ok}
use Rattle.theory.proofs.StandsFor.{And, StandsFor, alike_stands, move_forwarding, move_stands, put_elsewhere, put_here}
use Rattle.theory.proofs.Greying.{memory}
use Rattle.theory.proofs.Sweeping.{Holds}

-- what moving keeps: forwards lead to pages into which blocks were moved, and nothing is marked
pub record Aims (ps : List Page) (targets : ℕ) : Type 0 where
  pub aims : (m : ℕ) (x : Block) → block_at ps m ≡ Some x → (x.forward ≡ m) ⊎ (has targets (page_of x.forward) ≡ true)
  pub clean : (m : ℕ) (x : Block) → block_at ps m ≡ Some x → x.marked ≡ false

-- the source: it is closed and cut, and no block was moved into it
pub record Emptied (ps : List Page) (targets : ℕ) (g : ℕ) : Type 0 where
  pub shut : (page_at ps g).closed ≡ true
  pub cut : (page_at ps g).size ≢ 0
  pub apart : has targets g ≡ false

-- a heap that stands for a graph and holds the wanted records, when nothing is being marked
pub record Settled (T : ℕ → Type 0) (ns : List Record) (xs ys : List ℕ) (own : ℕ → ℕ) (M : Mem) : Type 0 where
  pub sound : Forwarding M
  pub mirror : StandsFor M (HasBlock M) own ns xs ys
  pub held : Holds T own M (HasBlock M) ns

-- a block of the source goes to the lowest free slot of the target
module _ {ps : List Page} (o : PagesOk ps) {targets : ℕ} (am : Aims ps targets) {g : ℕ} (s : ℕ) (sr : Emptied ps targets g)
    {b : Block} (is : block_at ps (number g s) ≡ Some b) (here : b.forward ≡ number g s) (pg : page_of (number g s) ≡ g) (size : ℕ) (t : ℕ) (tl : t < length ps) (tp : (in_class size (page_at ps t) && ltb 0 (free (page_at ps t))) ≡ true)
    {T : ℕ → Type 0} {own : ℕ → ℕ} {ns : List Record} {xs ys : List ℕ} (st : Settled T ns xs ys own (block_at ps)) where
  abbrev from : ℕ
  from = number g s

  abbrev to : ℕ
  to = number t (lowest_free (page_at ps t).slots)

  abbrev c : Block
  c = with_forward b to

  room : Target ps t to
  room = target_room ps t o tl (lowest_in (page_at ps t).slots (ltb-true _ _ (and_parts _ _ tp).1))

  abbrev half : List Page
  half = put_block ps to c

  abbrev both : List Page
  both = put_block half from c

  copied : Wrote (block_at ps) (block_at half) to c
  copied = record { same = put_same ps to c room.room; other = λ m d. put_other ps to m c room.room d }

  from_to : from ≢ to
  from_to e = none_some b (sym room.free ∙ sym (ap (block_at ps) e) ∙ is)

  source_room : Room half from
  source_room = room_from half from b (copied.other from from_to ∙ is)

  forwarded : Wrote (block_at half) (block_at both) from c
  forwarded = record { same = put_same half from c source_room; other = λ m d. put_other half from m c source_room d }

  -- the target is open and the source is closed
  apart_pages : t ≢ g
  apart_pages e =
      let a = and_parts _ _ (and_parts _ _ tp).0 in
      both_ways (page_at ps g).closed (subst (λ j. (page_at ps j).closed ≡ false) e (not-true _ a.1)) sr.shut

  alone : (m : ℕ) (x : Block) → HasBlock (block_at ps) m → block_at ps m ≡ Some x → x.forward ≡ from → m ≡ from
  alone m x i e f =
      ⊎_elim
      (λ (h : x.forward ≡ m). sym h ∙ f)
      (λ (h : has targets (page_of x.forward) ≡ true).
      absurd (both_ways (has targets g) sr.apart (subst (λ j. has targets j ≡ true) (ap page_of f ∙ pg) h)))
      (am.aims m x e)

  pub moved_pages : PagesOk both
  moved_pages = put_ok from c (put_ok to c o)

  moved_forwarding : Forwarding (block_at both)
  moved_forwarding = move_forwarding st.mirror room.room.named room.free (b, is) is here copied forwarded refl refl refl alone
      (λ m x e. (x, e)) (am.clean from b is) st.sound

  moved_like : (n : ℕ) → HasBlock (block_at both) n → And (HasBlock (block_at ps)) to n
  moved_like n x =
      ⊎_elim
      (λ (e : n ≡ to). inr e)
      (λ (d : n ≡ to → ⊥). inl (⊎_elim
      (λ (e : n ≡ from). (b, ap (block_at ps) e ∙ is))
      (λ (f : n ≡ from → ⊥). (x.0, sym (forwarded.other n f ∙ copied.other n d) ∙ x.1))
      (cases_eq n from)))
      (cases_eq n to)

  moved_back : (n : ℕ) → And (HasBlock (block_at ps)) to n → HasBlock (block_at both) n
  moved_back n (inl x) =
      ⊎_elim
      (λ (e : n ≡ from). (c, ap (block_at both) e ∙ forwarded.same))
      (λ (f : n ≡ from → ⊥). (x.0, forwarded.other n f ∙ copied.other n (λ e. none_some x.0 (sym room.free ∙ sym (ap (block_at ps) e) ∙ x.1)) ∙ x.1))
      (cases_eq n from)
  moved_back n (inr e) = (c, ap (block_at both) e ∙ forwarded.other to (λ f. from_to (sym f)) ∙ copied.same)

  moved_stands_for : StandsFor (block_at both) (HasBlock (block_at both)) (put own to (own from)) ns xs ys
  moved_stands_for = alike_stands moved_like moved_back
      (move_stands st.mirror room.room.named room.free (b, is) is here copied forwarded refl refl refl alone)

  -- a block after the move is one of the two, or was there
  moved_was : (m : ℕ) (x : Block) → block_at both m ≡ Some x → (x ≡ c) ⊎ (block_at ps m ≡ Some x)
  moved_was m x e =
      ⊎_elim
      (λ (f : m ≡ from). inl (some_same (sym (ap (block_at both) f) ∙ e) forwarded.same))
      (λ (d : m ≡ from → ⊥). ⊎_elim
      (λ (f : m ≡ to). inl (some_same (sym (ap (block_at half) f) ∙ sym (forwarded.other m d) ∙ e) copied.same))
      (λ (f : m ≡ to → ⊥). inr (sym (forwarded.other m d ∙ copied.other m f) ∙ e))
      (cases_eq m to))
      (cases_eq m from)

  pub moved_aims : Aims both (with_flag_set targets t)
  moved_aims = record {
    aims = λ m x e. ⊎_elim
        (λ (f : x ≡ c). inr (ap (has (with_flag_set targets t)) (ap (λ (y : Block). page_of y.forward) f ∙ room.page) ∙ has_with_same targets t))
        (λ f. ⊎_elim inl (λ h. inr (has_with targets t _ ∙ or_right _ _ h)) (am.aims m x f))
        (moved_was m x e);
    clean = λ m x e. ⊎_elim
        (λ (f : x ≡ c). ap (λ (y : Block). y.marked) f ∙ am.clean from b is)
        (λ f. am.clean m x f)
        (moved_was m x e);
  }

  pub moved_source : Emptied both (with_flag_set targets t) g
  moved_source = record {
    shut = (frame_put half from c).closed g ∙ (frame_put ps to c).closed g ∙ sr.shut;
    cut = λ e. sr.cut (sym ((frame_put half from c).size g ∙ (frame_put ps to c).size g) ∙ e);
    apart = has_with_other targets t g (λ e. apart_pages (sym e)) ∙ sr.apart;
  }

  -- and the same records are held
  moved_holds : Holds T own (block_at ps) (HasBlock (block_at ps)) ns → Holds T (put own to (own from)) (block_at both) (HasBlock (block_at both)) ns
  moved_holds h = record {
    only = λ n x. only n (moved_like n x);
    all = λ x d t e. all x (h.all x d t e);
  }
    where
      keeps : (n : ℕ) → HasBlock (block_at ps) n → put own to (own from) n ≡ own n
      keeps n x = put_elsewhere own to (own from) n (λ e. none_some x.0 (sym room.free ∙ sym (ap (block_at ps) e) ∙ x.1))

      only : (n : ℕ) → And (HasBlock (block_at ps)) to n → T (put own to (own from) n)
      only n (inl x) = subst T (sym (keeps n x)) (h.only n x)
      only n (inr e) = subst T (sym (put_here own to (own from) n e)) (h.only from (b, is))

      all : (x : ℕ) → (n : ℕ) × HasBlock (block_at ps) n × (forward_of (block_at ps n) ≡ n) × (own n ≡ x)
          → (n : ℕ) × HasBlock (block_at both) n × (forward_of (block_at both n) ≡ n) × (put own to (own from) n ≡ x)
      all x y =
          ⊎_elim
          (λ (e : y.0 ≡ from).
          (to, moved_back to (inr refl), ap forward_of (forwarded.other to (λ f. from_to (sym f)) ∙ copied.same), put_here own to (own from) to refl ∙ ap own (sym e) ∙ y.3))
          (λ (d : y.0 ≡ from → ⊥). (
            y.0,
            moved_back y.0 (inl y.1),
            ap forward_of (forwarded.other y.0 d ∙ copied.other y.0 (λ e. none_some y.1.0 (sym room.free ∙ sym (ap (block_at ps) e) ∙ y.1.1))) ∙ y.2,
            keeps y.0 y.1 ∙ y.3,
          ))
          (cases_eq y.0 from)

  pub moved_settled : Settled T ns xs ys (put own (number t (lowest_free (page_at ps t).slots)) (own (number g s))) (block_at both)
  moved_settled = record { sound = moved_forwarding; mirror = moved_stands_for; held = moved_holds st.held }

abbrev pub MovePhase : Phase → List Page → Type 0
MovePhase idle ps = (m : ℕ) (x : Block) → block_at ps m ≡ Some x → x.marked ≡ false
MovePhase (roots i) ps = ⊥
MovePhase marking ps = ⊥
MovePhase (sweeping g) ps = ⊥
MovePhase (moving k None targets) ps = (k < 20) × Aims ps targets
MovePhase (moving k (Some g) targets) ps = (k < 20) × Aims ps targets × Emptied ps targets g

pub record Moving (T : ℕ → Type 0) (ns : List Record) (xs ys : List ℕ) (own : ℕ → ℕ) (h : Heap) : Type 0 where
  pub pages : PagesOk h.pages
  pub stands : Settled T ns xs ys own (memory h)
  pub phased : MovePhase h.phase h.pages

aims_closed : (ps : List Page) (g : ℕ) (c : Bool) (targets : ℕ) → Aims ps targets → Aims (close_page ps g c) targets
aims_closed ps g c targets a = record {
  aims = λ m x e. a.aims m x (sym (close_blocks ps g c m) ∙ e);
  clean = λ m x e. a.clean m x (sym (close_blocks ps g c m) ∙ e);
}

class_sized : (k : ℕ) → k < 20 → get_or sizes k 0 ≢ 0
class_sized k l e = let p = sizes_positive k l in omega arith

module _ {T : ℕ → Type 0} {ns : List Record} {xs ys : List ℕ} where
  class_ended : (h : Heap) (k : ℕ) (targets : ℕ) (own : ℕ → ℕ) → PagesOk h.pages → Settled T ns xs ys own (memory h) → Aims h.pages targets
      → Moving T ns xs ys own (class_done h k targets)
  class_ended h k targets own o s a = go (ltb (suc k) 20) refl
    where
      go : (t : Bool) → ltb (suc k) 20 ≡ t → Moving T ns xs ys own (with_phase h (cond t (moving (suc k) None targets) idle))
      go true e = record { pages = o; stands = s; phased = (ltb-true _ _ e, a) }
      go false e = record { pages = o; stands = s; phased = a.clean }

  chosen : (h : Heap) (k : ℕ) (targets : ℕ) (own : ℕ → ℕ) → k < 20 → PagesOk h.pages → Settled T ns xs ys own (memory h) → Aims h.pages targets
      → (x : Option (ℕ × ℕ)) → source_page h.pages (get_or sizes k 0) targets ≡ x → Moving T ns xs ys own (choose_source h k targets x)
  chosen h k targets own kl o s a None e = class_ended h k targets own o s a
  chosen h k targets own kl o s a (Some x) e = go (leb x.0 (free_of_class (get_or sizes k 0) x.1 0 h.pages))
    where
      shut : Heap
      shut = with_phase (with_pages h (close_page h.pages x.1 true)) (moving k (Some x.1) targets)

      go : (t : Bool) → Moving T ns xs ys own (cond t shut (class_done h k targets))
      go true =
          let l = least_chosen (λ n p. in_class (get_or sizes k 0) p && not (has targets n)) (λ p. occupied p.slots) h.pages x e in
          record {
            pages = close_ok h.pages x.1 true o;
            stands = subst (Settled T ns xs ys own) (close_memory h.pages x.1 true) s;
            phased = (
              kl,
              aims_closed h.pages x.1 true targets a,
              record {
                cut = λ z. class_sized k kl (sym (eqb-true _ _ (and_parts _ _ (and_parts _ _ l.passes).0).0) ∙ sym (ap (λ (p : Page). p.size) (get_or-set_same h.pages x.1 (with_closed (page_at h.pages x.1) true) uncut l.within)) ∙ z);
                shut = ap (λ (p : Page). p.closed) (get_or-set_same h.pages x.1 _ uncut l.within);
                apart = not-true _ (and_parts _ _ l.passes).1;
              },
            );
          }
      go false = class_ended h k targets own o s a

  targeted : (h : Heap) (k : ℕ) (targets : ℕ) (own : ℕ → ℕ) (g s : ℕ) → k < 20 → PagesOk h.pages → Settled T ns xs ys own (memory h)
      → Aims h.pages targets → Emptied h.pages targets g
      → lowest_current_block g 0 (page_at h.pages g).slots ≡ Some s
      → (x : Option (ℕ × ℕ)) → target_page h.pages (get_or sizes k 0) ≡ x
      → Moving T ns xs ys (owner_moved h.pages own g (Some s) x) (move_to h k targets g s x)
  targeted h k targets own g s kl o st a sr low None e =
      class_ended (with_pages h (close_page h.pages g false)) k targets own (close_ok h.pages g false o)
      (subst (Settled T ns xs ys own) (close_memory h.pages g false) st) (aims_closed h.pages g false targets a)
  targeted h k targets own g s kl o st a sr low (Some x) e =
      let l = least_chosen (λ n p. in_class (get_or sizes k 0) p && ltb 0 (free p)) free h.pages x e in
      let c = source_block h.pages g s o low in
      let i = c.is in
      let ps = h.pages in
      let res : Option Block → Heap = λ y. with_phase (with_pages h (moved ps (number g s) (number x.1 (lowest_free (page_at ps x.1).slots)) y)) (moving k (Some g) (with_flag_set targets x.1)) in
      subst (λ (y : Option Block). Moving T ns xs ys (owner_moved h.pages own g (Some s) (Some x)) (res y)) (sym i)
      (record {
        pages = moved_pages o a s sr i c.forward c.page (get_or sizes k 0) x.1 l.within l.passes st;
        stands = moved_settled o a s sr i c.forward c.page (get_or sizes k 0) x.1 l.within l.passes st;
        phased = (kl, moved_aims o a s sr i c.forward c.page (get_or sizes k 0) x.1 l.within l.passes st, moved_source o a s sr i c.forward c.page (get_or sizes k 0) x.1 l.within l.passes st);
      })

  sourced : (h : Heap) (k : ℕ) (targets : ℕ) (own : ℕ → ℕ) (g : ℕ) → k < 20 → PagesOk h.pages → Settled T ns xs ys own (memory h)
      → Aims h.pages targets → Emptied h.pages targets g
      → (x : Option ℕ) → lowest_current_block g 0 (page_at h.pages g).slots ≡ x
      → Moving T ns xs ys (owner_moved h.pages own g x (target_page h.pages (get_or sizes k 0))) (move_from h k targets g x)
  sourced h k targets own g kl o st a sr None e = record { pages = o; stands = st; phased = (kl, a) }
  sourced h k targets own g kl o st a sr (Some s) e = targeted h k targets own g s kl o st a sr e _ refl

  -- a unit of moving
  pub move_keeps : (h : Heap) (k : ℕ) (source : Option ℕ) (targets : ℕ) (own : ℕ → ℕ) → PagesOk h.pages → Settled T ns xs ys own (memory h)
      → MovePhase (moving k source targets) h.pages
      → Moving T ns xs ys (owner_unit (moving k source targets) h.pages own) (moving_unit h k source targets)
  move_keeps h k None targets own o s a = chosen h k targets own a.0 o s a.1 _ refl
  move_keeps h k (Some g) targets own o s a = sourced h k targets own g a.0 o s a.1 a.2 _ refl
