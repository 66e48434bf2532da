-- The law: what a store promises after every list of calls.
use Rattle.std.proofs.Common.{◌≡◌, ℕ, ◌<◌, ◌≤◌, false, eqb, ◌⊎◌, List, [], ◌∷◌, ◌++◌, map, length, get_or, Some, None, Option, sym, refl, ap, ◌∙◌, subst, ap₂, inl, inr, ⊎_elim, arith}
use Rattle.std.proofs.lemmas.List.{ext_get_or, get_or-map, length-map}
use Rattle.std.proofs.lemmas.Bool.{cond-false, cond-true, eq-eqb, ne_eqb}
use Rattle.holders.specs.declared.key.Key.{Key}
use Rattle.model.specs.Pages.{Block, block_at, current, forward_of}
use Rattle.model.specs.State.{Phase, State, running}
use Rattle.model.specs.Graph.{Graph, Member, Reached, Record, record_at}
use Rattle.model.specs.Runs.{Run, run_from, start}
use Rattle.model.specs.Law.{Current, Exact, Faithful, Held, Kept, Law, MadeSince, all_stand_for, event_of, stands_for}
use Rattle.theory.proofs.Numbers.{named_from}
use Rattle.theory.proofs.RunBounds.{measures}
use Rattle.theory.proofs.Lists.{In, in_head, in_tail, occupied_most}
use Rattle.theory.proofs.Memory.{HasBlock}
use Rattle.theory.proofs.Records.{View, find_in, find_there, record_of, record_some}
use Rattle.theory.proofs.StandsFor.{NilOr}
use Rattle.theory.proofs.Greying.{memory, places}
use Rattle.theory.proofs.Phases.{At, AtEnd}
use Rattle.theory.proofs.Places.{LiveNow, agenda_nil_or, agenda_owner, form_owner, holder_nil_or, holder_owner, live_record, memory_stands}
use Rattle.theory.proofs.Events.{event}
use Rattle.theory.proofs.Wanted.{Stored, Wants, later, null, one_each_at, reach_stored, reached, reached_pos, reached_reach, view}
use Rattle.theory.proofs.Following.{Follows}
use Rattle.theory.proofs.Answers.{agrees}
use Rattle.theory.proofs.Induction.{Invariant, not_running, run_invariant, start_invariant}

wants_cases : (g : Graph) (x : ℕ) → Wants g x → (x ≡ 0) ⊎ (Reached g x ⊎ (length g.records < x))
wants_cases g x null = inl refl
wants_cases g x (reached r) = inr (inl r)
wants_cases g x (later l) = inr (inr l)

module _ {r : Run} (k : Invariant r) where
  abbrev T : ℕ → Type 0
  T = Wants r.began

  abbrev s : State
  s = r.state

  abbrev g : Graph
  g = r.graph

  abbrev own : ℕ → ℕ
  own = r.owner

  abbrev a : Follows (Wants r.began) r.state r.graph r.owner
  a = k.standing

  abbrev v : View
  v = view r.graph k.standing.named

  -- what a number that is nil or names a live block stands for
  stands_owner : (x : ℕ) → NilOr (LiveNow s) x → stands_for r x ≡ r.owner x
  stands_owner x (inl e) =
      let c : current s.heap.pages x ≡ 0 = ap (current s.heap.pages) e in
      cond-true (eqb (current s.heap.pages x) 0) 0 (own (current s.heap.pages x)) (eq-eqb _ _ c)
      ∙ sym (ap own e ∙ (memory_stands a.store).none)
  stands_owner x (inr l) =
      let y = live_record a.store x l in
      let p = named_from s.heap.pages (current s.heap.pages x) y.0 y.1 in
      cond-false (eqb (current s.heap.pages x) 0) 0 (own (current s.heap.pages x)) (ne_eqb _ _ (λ e. omega (arith, p, e)))
      ∙ form_owner a.store x (inr l)

  all_stand_owner : (xs : List ℕ) → ((x : ℕ) → In xs x → NilOr (LiveNow s) x) → all_stand_for r xs ≡ map r.owner xs
  all_stand_owner [] f = refl
  all_stand_owner (x ∷ xs) f = ap₂ (λ (y : ℕ) (ys : List ℕ). y ∷ ys) (stands_owner x (f x (in_head x xs))) (all_stand_owner xs (λ y i. f y (in_tail x xs i)))

  current_has_block : (n : ℕ) → Current r n → HasBlock (memory s.heap) n
  current_has_block n c = go (block_at s.heap.pages n) refl
    where
      go : (x : Option Block) → block_at r.state.heap.pages n ≡ x → HasBlock (memory r.state.heap) n
      go None e = let q : current r.state.heap.pages n ≡ 0 = ap forward_of e in absurd (omega (arith, c.0, c.1, q))
      go (Some b) e = (b, e)

  stored_kept : (o : ℕ) → Stored s v own o → Kept r o
  stored_kept o c =
      let q : record_at g o ≡ record_of own c.block = record_some g o _ c.contents in
      record {
        at = c.at;
        current = (named_from s.heap.pages c.at c.block c.is, ap forward_of c.is ∙ c.here);
        owned = c.owned;
        alone = λ n i e. c.only n (current_has_block n i) i.1 e;
        contents = record {
          block = c.block;
          there = c.is;
          words = sym (ap (λ (d : Record). d.words) q);
          refs = all_stand_owner c.block.refs (λ x i. (memory_stands a.store).good c.at c.block x c.live c.is c.here i) ∙ sym (ap (λ (d : Record). d.refs) q);
        };
      }

  holder_each : (x : ℕ) → In s.holder x → NilOr (LiveNow s) x
  holder_each x i = subst (NilOr (LiveNow s)) i.is (holder_nil_or a.store i.at)

  agenda_stands_for : (i : ℕ) → stands_for r (get_or s.agenda i 0) ≡ get_or a.named i 0
  agenda_stands_for i = stands_owner (get_or s.agenda i 0) (agenda_nil_or a.store i) ∙ agenda_owner a.store i

  pub faithful : Faithful r
  faithful = record {
    reached = λ o m. ⊎_elim
        (λ (z : o ≡ 0). let p = reached_pos g a.agenda m in absurd (omega (arith, p, z)))
        (stored_kept o)
        (reach_stored a.store o (reached_reach g a.agenda m));
    places = all_stand_owner s.holder holder_each
        ∙ ext_get_or 0 (map own s.holder) g.places (length-map s.holder own ∙ a.store.many)
        (λ q l. let i : q < length s.holder = rw (length-map s.holder own) at l in get_or-map own s.holder q 0 0 i ∙ holder_owner a.store q i);
    planned = λ i key e. subst (λ x. Member (event key x) g.events) (sym (agenda_stands_for i)) (a.agenda.planned i key e);
    events = λ e m.
        let x = a.agenda.met e m in
        (x.at, ap (λ (y : Option Key). event_of r y (get_or s.agenda x.at 0)) x.is ∙ ap Some (ap (event x.key) (agenda_stands_for x.at) ∙ x.same));
    apart = λ i j key e f. a.agenda.apart i j key key e f refl;
    as_many = let m = occupied_most s.keys in omega (arith, m, a.agenda.many);
  }

  -- whenever no collection runs, not only at the end of one
  pub exact : running r.state.heap.phase ≡ false → Exact r
  exact e = record { nothing_more = only; nothing_less = all }
    where
      end : AtEnd (Wants r.began) r.graph.records (r.graph.places ++ k.standing.named) r.owner (places r.state) r.state.heap
      end = subst (λ (p : Phase). At (Wants r.began) r.graph.records (r.graph.places ++ k.standing.named) r.owner p (places r.state) r.state.heap) (not_running r.state.heap.phase e) k.standing.store.at

      only : (o : ℕ) → Held r o → Reached r.began o ⊎ MadeSince r o
      only o h =
          let n = h.0 in
          let i = current_has_block n h.1 in
          let d = end.stands.mirror.contents n i.0 i i.1 (sym (ap forward_of i.1) ∙ h.1.1) in
          let f = find_in r.graph.records (r.owner n) _ d in
          ⊎_elim
          (λ (z : r.owner n ≡ 0). absurd (omega (arith, f.0, z)))
          (λ w. ⊎_elim
          (λ (m : Reached r.began (r.owner n)). inl (subst (Reached r.began) h.2 m))
          (λ (l : length r.began.records < r.owner n). inr (subst (λ y. length r.began.records < y) h.2 l, subst (λ y. y ≤ length r.graph.records) h.2 f.1))
          w)
          (wants_cases r.began (r.owner n) (end.stands.held.only n i))

      from : (o : ℕ) → Wants r.began o → 0 < o → o ≤ length r.graph.records → Held r o
      from o t p l =
          let d = find_there r.graph.records o p l in
          let x = end.stands.held.all o d.0 t d.1 in
          (x.0, (named_from r.state.heap.pages x.0 x.1.0 x.1.1, x.2), x.3)

      all : (o : ℕ) → Reached r.began o ⊎ MadeSince r o → Held r o
      all o (inl m) = let z = k.range o m in from o (reached m) z.0 z.1
      all o (inr l) = from o (later l.0) (omega (arith, l.0)) l.1

  pub one_each : (m n : ℕ) → Current r m → Current r n → r.owner m ≡ r.owner n → m ≡ n
  one_each m n c d e =
      (one_each_at T g.records (g.places ++ a.named) own s.heap.phase (places s) s.heap a.store.at).one m n (current_has_block m c) (current_has_block n d) c.1 d.1 e

pub law : Law
law h a h1 h2 a1 a2 cs =
    let r : Run = run_from (start h a) cs in
    let k : Invariant r = run_invariant cs (start h a) (start_invariant h a) in
    let m = measures h a h1 h2 a1 a2 cs in
    record {
      faithful = faithful k;
      exact = exact k;
      one_each = one_each k;
      bounded = m.sharp;
      agrees = agrees r k.standing;
      all_done = m.all_done;
    }
