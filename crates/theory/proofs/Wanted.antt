-- What the graph reaches, what a collection that begins at it is to keep, and that the store has it.
use Rattle.std.proofs.Common.{◌≡◌, ℕ, zero, suc, ◌+◌, ◌-◌, ◌<◌, ◌≤◌, ◌⊎◌, List, ◌++◌, length, get_or, Some, None, Option, sym, refl, ap, ◌∙◌, subst, inl, inr, ⊎_elim, arith}
use Rattle.std.proofs.lemmas.List.{get_or-append-add, get_or_append_left, get_or-append_right, length-append}
use Rattle.std.proofs.lemmas.Bool.{cases_lt}
use Rattle.holders.specs.declared.key.Key.{Key}
use Rattle.model.specs.Pages.{Block, block_at, forward_of}
use Rattle.model.specs.State.{Heap, Phase, State, idle, marking, moving, roots, sweeping, with_heap}
use Rattle.model.specs.Calls.{begun}
use Rattle.model.specs.Graph.{Event, Graph, Member, Reached, Record, from_event, from_place, from_ref}
use Rattle.histories.proofs.Members.{member_none}
use Rattle.theory.proofs.Lists.{In, at_member, in_map_back, in_member, member_in, none_some, some_in, some_same}
use Rattle.theory.proofs.Memory.{HasBlock, OneBlockEach, form}
use Rattle.theory.proofs.Records.{Reach, View, find, find_in, record_none, record_of, record_some, ref, root}
use Rattle.theory.proofs.StandsFor.{NilOr, stands_one_each}
use Rattle.theory.proofs.WantedSet.{Closed}
use Rattle.theory.proofs.Greying.{memory, places}
use Rattle.theory.proofs.Phases.{At, AtEnd}
use Rattle.theory.proofs.Snapshot.{begin_at}
use Rattle.theory.proofs.Places.{LiveNow, StoreStands, form_once, memory_stands}
use Rattle.theory.proofs.Events.{Agenda}

abbrev pub view : Graph → List ℕ → View
view g named = record { records = g.records; holder = g.places; agenda = named }

-- the records that a collection which begins at this graph is to keep, and those made later
pub data Wants (g : Graph) : ℕ → Type 0 where
  null : Wants g 0
  reached : {x : ℕ} → Reached g x → Wants g x
  later : {x : ℕ} → length g.records < x → Wants g x

module _ (g : Graph) {keys : List (Option Key)} {named : List ℕ} (a : Agenda keys named g.events g.serial) where
  abbrev ys : List ℕ
  ys = g.places ++ named

  pub reached_pos : {x : ℕ} → Reached g x → 0 < x
  reached_pos (from_place p m) = p
  reached_pos (from_event {e} m) = let x = a.met e m in subst (λ y. 0 < y) (ap (λ (b : Event). b.names) x.same) (a.full x.at x.key x.is)
  reached_pos (from_ref p r m) = p

  pub reached_reach : {x : ℕ} → Reached g x → Reach g.records (g.places ++ named) x
  reached_reach (from_place p m) =
      let i = member_in m in
      let q : length ys ≡ length g.places + length named = length-append g.places named in
      root i.at (omega (arith, i.inside, q)) (get_or_append_left g.places named 0 i.at i.inside ∙ i.is)
  reached_reach (from_event {e} m) =
      let x = a.met e m in
      let l = some_in keys x.at x.key x.is in
      let q : length ys ≡ length g.places + length named = length-append g.places named in
      root (length g.places + x.at) (omega (arith, l, a.wide, q)) (get_or-append-add g.places named x.at 0 ∙ ap (λ (b : Event). b.names) x.same)
  reached_reach (from_ref {o} {p} pos r m) = go (find g.records o) refl (reached_reach r)
    where
      go : (z : Option Record) → find g.records o ≡ z → Reach g.records (g.places ++ named) o → Reach g.records (g.places ++ named) p
      go None e h = member_none (subst (λ (d : Record). Member p d.refs) (record_none g o e) m)
      go (Some d) e h =
          let i = member_in (subst (λ (d : Record). Member p d.refs) (record_some g o d e) m) in
          ref h d e i.at i.inside i.is

  some_or_zero : (y : ℕ) → (0 < y → Wants g y) → Wants g y
  some_or_zero zero f = null
  some_or_zero (suc y) f = f (omega arith)

  agenda_wants : (j : ℕ) → Wants g (get_or named j 0)
  agenda_wants j = go (get_or keys j None) refl
    where
      go : (k : Option Key) → get_or keys j None ≡ k → Wants g (get_or named j 0)
      go None e = subst (Wants g) (sym (a.empty j e)) null
      go (Some k) e = reached (from_event (a.planned j k e))

  pub wants_closed : Closed (Wants g) g.records (g.places ++ named)
  wants_closed = record {
    none = null;
    roots = λ y i. ⊎_elim
        (λ (l : i.at < length g.places).
        let q : get_or g.places i.at 0 ≡ y = sym (get_or_append_left g.places named 0 i.at l) ∙ i.is in
        some_or_zero y (λ p. reached (from_place p (subst (λ z. Member z g.places) q (at_member g.places i.at l)))))
        (λ (l : length g.places ≤ i.at).
        let q : get_or named (i.at - length g.places) 0 ≡ y = sym (get_or-append_right g.places named (length g.places) i.at 0 refl l) ∙ i.is in
        subst (Wants g) q (agenda_wants (i.at - length g.places)))
        (cases_lt i.at (length g.places));
    refs = λ x d y t e i. refs x d y t e i;
    more = λ x l. later l;
  }
    where
      refs : (x : ℕ) (d : Record) (y : ℕ) → Wants g x → find g.records x ≡ Some d → In d.refs y → Wants g y
      refs x d y null e i = none_some d e
      refs x d y (reached r) e i = some_or_zero y (λ p. reached (from_ref p r (subst (λ (z : Record). Member y z.refs) (sym (record_some g x d e)) (in_member d.refs i))))
      refs x d y (later l) e i = let h = find_in g.records x d e in absurd (omega (arith, h.1))

  pub wants_reach : (x : ℕ) (d : Record) → Wants g x → find g.records x ≡ Some d → Reach g.records (g.places ++ named) x
  wants_reach x d null e = none_some d e
  wants_reach x d (reached r) e = reached_reach r
  wants_reach x d (later l) e = let h = find_in g.records x d e in absurd (omega (arith, h.1))

  pub begin_stands : (T : ℕ → Type 0) (s : State) (own : ℕ → ℕ) → s.heap.phase ≡ idle → StoreStands T s (view g named) own
      → StoreStands (Wants g) (with_heap s (begun s.heap)) (view g named) own
  begin_stands T s own e r =
      let x : AtEnd T g.records (g.places ++ named) own (places s) s.heap
      = subst (λ (p : Phase). At T g.records (g.places ++ named) own p (places s) s.heap) e r.at in
      record {
        at = begin_at s.heap x.pages x.stands.sound x.stands.mirror x.clean wants_closed wants_reach;
        many = r.many;
        wide = r.wide;
      }

pub one_each_at : (T : ℕ → Type 0) (ns : List Record) (ys : List ℕ) (own : ℕ → ℕ) (ph : Phase) (xs : List ℕ) (h : Heap) → At T ns ys own ph xs h
    → OneBlockEach own (memory h) (length ns)
one_each_at T ns ys own idle xs h a = stands_one_each a.stands.mirror
one_each_at T ns ys own (roots i) xs h a = stands_one_each a.marks.mirror
one_each_at T ns ys own marking xs h a = stands_one_each a.marks.mirror
one_each_at T ns ys own (sweeping g) xs h a = a.single
one_each_at T ns ys own (moving k src targets) xs h a = stands_one_each a.stands.mirror

-- a reached record has exactly one current block, with the graph's contents
pub record Stored (s : State) (g : View) (own : ℕ → ℕ) (x : ℕ) : Type 0 where
  pub at : ℕ
  pub block : Block
  pub live : LiveNow s at
  pub is : block_at s.heap.pages at ≡ Some block
  pub here : block.forward ≡ at
  pub owned : own at ≡ x
  pub contents : find g.records x ≡ Some (record_of own block)
  pub only : (n : ℕ) → HasBlock (memory s.heap) n → form (memory s.heap) n ≡ n → own n ≡ x → n ≡ at

module _ {T : ℕ → Type 0} {s : State} {g : View} {own : ℕ → ℕ} (a : StoreStands T s g own) where
  stored_at : (r y : ℕ) → NilOr (LiveNow s) r → own r ≡ y → (y ≡ 0) ⊎ Stored s g own y
  stored_at r y (inl e) o = inl (sym o ∙ ap own e ∙ (memory_stands a).none)
  stored_at r y (inr l) o =
      let z = memory_stands a in
      let x = z.there r l in
      let q : form (memory s.heap) r ≡ x.0.forward = ap forward_of x.1 in
      let n = x.0.forward in
      let u = z.there n x.2 in
      let c : form (memory s.heap) n ≡ n = subst (λ j. form (memory s.heap) j ≡ j) q (form_once a r (inr l)) in
      let f : u.0.forward ≡ n = sym (ap forward_of u.1) ∙ c in
      let w : own n ≡ y = x.3 ∙ o in
      inr (record {
        at = n;
        block = u.0;
        live = x.2;
        is = u.1;
        here = f;
        owned = w;
        contents = ap (find g.records) (sym w) ∙ z.contents n u.0 x.2 u.1 f;
        only = λ m i d e. (one_each_at T g.records (g.holder ++ g.agenda) own s.heap.phase (places s) s.heap a.at).one m n i (u.0, u.1) d c (e ∙ sym w);
      })

  pub reach_stored : (x : ℕ) → Reach g.records (g.holder ++ g.agenda) x → (x ≡ 0) ⊎ Stored s g own x
  reach_stored x (root k l e) =
      let r = in_map_back own (places s) (subst (λ (zs : List ℕ). In zs x) (sym (memory_stands a).holds) (record { at = k; inside = l; is = e })) in
      stored_at r.0 x ((memory_stands a).roots r.0 r.1) r.2
  reach_stored y (ref {x = x} r d e k l f) =
      ⊎_elim
      (λ (z : x ≡ 0). none_some d (sym (ap (find g.records) z) ∙ e))
      (λ (c : Stored s g own x).
      let q : d ≡ record_of own c.block = some_same e c.contents in
      let j = in_map_back own c.block.refs (subst (λ (z : Record). In z.refs y) q (record { at = k; inside = l; is = f })) in
      stored_at j.0 y ((memory_stands a).good c.at c.block j.0 c.live c.is c.here j.1) j.2)
      (reach_stored x r)
