-- Each granted call does to the store what it does to the graph.
use Rattle.std.proofs.Common.{◌≡◌, ℕ, zero, suc, ◌+◌, ◌-◌, ◌<◌, Bool, true, false, cond, not, eqb, ltb, List, [], ◌∷◌, ◌++◌, length, get_or, set, Some, None, Option, sym, refl, ap, ◌∙◌, subst, ⊎_elim, arith}
use Rattle.std.proofs.lemmas.List.{length-map, length-set}
use Rattle.std.proofs.lemmas.Bool.{eq-eqb, eqb-false, ltb-false, ltb-true, ne_eqb, not-false}
use Rattle.calls.specs.declared.Call.{Call}
use Rattle.calls.specs.declared.Call.TheVariants.{Begin, Clear, Copy, Count, Load, Make, Next, Read, Same, Schedule, Shape, Step, Store, Write}
use Rattle.calls.specs.declared.Refusal.{Refusal}
use Rattle.holders.specs.Keys.{spare_of}
use Rattle.holders.specs.declared.key.Key.{Key}
use Rattle.model.specs.Classes.{fitting}
use Rattle.model.specs.Pages.{Block, block_at, current, refs_of, words_of}
use Rattle.model.specs.State.{Phase, State, idle, marking, moving, roots, running, sweeping, with_agenda, with_heap, with_holder}
use Rattle.model.specs.Units.{by_phase, grey, root_unit, steps, unit}
use Rattle.model.specs.Making.{overwrite, page_to_take}
use Rattle.model.specs.Refusals.{block_in, conditions, first_keyed, first_refusal, is_none, no_place, no_record, no_reference, no_word, place, refusal}
use Rattle.model.specs.Calls.{if_some, made_in, outcome, taken}
use Rattle.model.specs.Graph.{Event, Graph, Member, Record, absent, graph_after, in_place, lacks_reference, lacks_word, names_nil, popped, record_at, split_first, with_record}
use Rattle.model.specs.Runs.{block_made, is_begin, owner_after, owner_steps, put}
use Rattle.histories.proofs.Members.{member_none}
use Rattle.theory.proofs.Lists.{none_some, occupied_some, some_in}
use Rattle.theory.proofs.Records.{View, find_in, put_set, record_of, record_some}
use Rattle.theory.proofs.Greying.{memory}
use Rattle.theory.proofs.Phases.{steps_at}
use Rattle.theory.proofs.Places.{StoreStands, agenda_form, agenda_nil_or, agenda_overwrite, agenda_owner, agenda_wanted, clear_stands, copy_stands, empty_stands, graph_overwritten, graph_planned, holder_nil_or, holder_owner, holder_wanted, live_owner, live_record, memory_stands, overwrite_form, place_record, graph_put}
use Rattle.theory.proofs.Writes.{load_call, make_stands, store_call, write_call}
use Rattle.theory.proofs.Keys.{spare_most}
use Rattle.histories.proofs.Splits.{split_splits}
use Rattle.theory.proofs.Events.{Agenda, Due, Found, event, first_found, first_same, next_agenda, schedule_agenda}
use Rattle.theory.proofs.Wanted.{view}

-- the store stands for the graph, and its agenda for the graph's events
pub record Follows (T : ℕ → Type 0) (s : State) (g : Graph) (own : ℕ → ℕ) : Type 0 where
  pub named : List ℕ
  pub store : StoreStands T s (view g named) own
  pub agenda : Agenda s.keys named g.events g.serial
  pub clock : s.clock ≡ g.clock
  pub serial : s.serial ≡ g.serial

-- conditions none of which holds
abbrev pub Passed : List (Bool × Refusal) → Type 0
Passed [] = Unit {0}
Passed (c ∷ cs) = (c.0 ≡ false) × Passed cs

pub all_passed : (cs : List (Bool × Refusal)) → first_refusal cs ≡ None → Passed cs
all_passed [] e = tt
all_passed (c ∷ cs) e = go c.0 e (all_passed cs)
  where
    go : (b : Bool) → cond b (Some c.1) (first_refusal cs) ≡ None → (first_refusal cs ≡ None → Passed cs) → (b ≡ false) × Passed cs
    go true e f = none_some c.1 (sym e)
    go false e f = (refl, f e)

some_is : {A : Type 0} (x : Option A) → is_none x ≡ false → (a : A) × (x ≡ Some a)
some_is None e = cc
some_is (Some a) e = (a, refl)

pub place_in : (s : State) (p : ℕ) → no_place s p ≡ false → p < length s.holder
place_in s p e = ltb-true p (length s.holder) (not-false _ e)

-- what the store and the graph say of a place
module _ {T : ℕ → Type 0} {s : State} (g : Graph) {named : List ℕ} {own : ℕ → ℕ} (a : StoreStands T s (view g named) own) where
  pub same_absent : (p : ℕ) → no_place s p ≡ absent g p
  same_absent p = ap (λ n. not (ltb p n)) a.many

  -- a place that holds a number has a record
  pub record Has (q : ℕ) : Type 0 where
    pub block : Block
    pub is : block_in s q ≡ Some block
    pub contents : record_at g (in_place g q) ≡ record_of own block
    pub pos : 0 < in_place g q

  pub has : (q : ℕ) → q < length s.holder → no_record s q ≡ false → Has q
  has q l e =
      let x = some_is (block_at s.heap.pages (get_or s.holder q 0)) e in
      ⊎_elim
      (λ (z : get_or s.holder q 0 ≡ 0). none_some x.0 (sym (ap (memory s.heap) z) ∙ x.1))
      (λ c.
      let y = live_record a (get_or s.holder q 0) c in
      let n = place_record a q l y.0 y.1 in
      record { block = y.0; is = y.1; contents = record_some g (in_place g q) _ n; pos = (find_in g.records (in_place g q) _ n).0 })
      (holder_nil_or a q)

  pub same_nil : (q : ℕ) → q < length s.holder → no_record s q ≡ names_nil g q
  same_nil q l =
      let o = holder_owner a q l in
      ⊎_elim
      (λ (z : get_or s.holder q 0 ≡ 0).
      ap (λ (n : ℕ). is_none (block_at s.heap.pages n)) z
      ∙ sym (eq-eqb (in_place g q) 0 (sym o ∙ ap own z ∙ (memory_stands a).none)))
      (λ c.
      let x = (memory_stands a).there (get_or s.holder q 0) c in
      let p = live_owner a (get_or s.holder q 0) c in
      ap is_none x.1 ∙ sym (ne_eqb (in_place g q) 0 (λ e. omega (arith, p.0, o, e))))
      (holder_nil_or a q)

  pub same_refs : (q : ℕ) → Has q → length (refs_of (block_in s q)) ≡ length (record_at g (in_place g q)).refs
  same_refs q h =
      ap (λ (x : Option Block). length (refs_of x)) h.is ∙ sym (length-map h.block.refs own) ∙ sym (ap (λ (r : Record). length r.refs) h.contents)

  pub same_words : (q : ℕ) → Has q → words_of (block_in s q) ≡ (record_at g (in_place g q)).words
  same_words q h = ap words_of h.is ∙ sym (ap (λ (r : Record). r.words) h.contents)

  pub same_ref : (q f : ℕ) → Has q → no_reference s q f ≡ lacks_reference g q f
  same_ref q f h = ap (λ n. not (ltb f n)) (same_refs q h)

  pub same_word : (q w : ℕ) → Has q → no_word s q w ≡ lacks_word g q w
  same_word q w h = ap (λ (l : List ℕ). not (ltb w (length l))) (same_words q h)

  pub ref_in : (q f : ℕ) → (h : Has q) → no_reference s q f ≡ false → f < length h.block.refs
  ref_in q f h e = subst (λ (x : Option Block). f < length (refs_of x)) h.is (ltb-true f _ (not-false _ e))

-- no call but schedule and next touches the keys, the clock or the serial, and no unit does
pub record Quiet (s t : State) : Type 0 where
  pub keys : t.keys ≡ s.keys
  pub clock : t.clock ≡ s.clock
  pub serial : t.serial ≡ s.serial

root_quiet : (s : State) (i : ℕ) → Quiet s (root_unit s i)
root_quiet s i = go (ltb i (length s.holder))
  where
    j : ℕ
    j = i - length s.holder

    go : (t : Bool) → Quiet s (cond t
        (let n = current s.heap.pages (get_or s.holder i 0) in with_heap (with_holder s (set s.holder i n)) (grey s.heap n))
        (let n = current s.heap.pages (get_or s.agenda (i - length s.holder) 0) in with_heap (with_agenda s (set s.agenda (i - length s.holder) n)) (grey s.heap n)))
    go true = record { keys = refl; clock = refl; serial = refl }
    go false = record { keys = refl; clock = refl; serial = refl }

phase_quiet : (s : State) (ph : Phase) → Quiet s (by_phase s ph)
phase_quiet s idle = record { keys = refl; clock = refl; serial = refl }
phase_quiet s (roots i) = let q = root_quiet s i in record { keys = q.keys; clock = q.clock; serial = q.serial }
phase_quiet s marking = record { keys = refl; clock = refl; serial = refl }
phase_quiet s (sweeping g) = record { keys = refl; clock = refl; serial = refl }
phase_quiet s (moving k src targets) = record { keys = refl; clock = refl; serial = refl }

pub steps_quiet : (u : ℕ) (s : State) → Quiet s (steps u s)
steps_quiet zero s = record { keys = refl; clock = refl; serial = refl }
steps_quiet (suc u) s = go (running s.heap.phase) (steps_quiet u (unit s))
  where
    go : (t : Bool) → Quiet (unit s) (steps u (unit s)) → Quiet s (cond t (steps u (unit s)) s)
    go true q = let p = phase_quiet s s.heap.phase in record { keys = q.keys ∙ p.keys; clock = q.clock ∙ p.clock; serial = q.serial ∙ p.serial }
    go false q = record { keys = refl; clock = refl; serial = refl }

-- how many places there are
pub steps_wide : (u : ℕ) (s : State) → (length (steps u s).holder ≡ length s.holder) × (length (steps u s).agenda ≡ length s.agenda)
steps_wide zero s = (refl, refl)
steps_wide (suc u) s = go (running s.heap.phase) (steps_wide u (unit s))
  where
    root_wide : (i : ℕ) → (length (root_unit s i).holder ≡ length s.holder) × (length (root_unit s i).agenda ≡ length s.agenda)
    root_wide i = pick (ltb i (length s.holder))
      where
        pick : (t : Bool) → (length (cond t
            (let n = current s.heap.pages (get_or s.holder i 0) in with_heap (with_holder s (set s.holder i n)) (grey s.heap n))
            (let n = current s.heap.pages (get_or s.agenda (i - length s.holder) 0) in with_heap (with_agenda s (set s.agenda (i - length s.holder) n)) (grey s.heap n))).holder ≡ length s.holder)
            × (length (cond t
            (let n = current s.heap.pages (get_or s.holder i 0) in with_heap (with_holder s (set s.holder i n)) (grey s.heap n))
            (let n = current s.heap.pages (get_or s.agenda (i - length s.holder) 0) in with_heap (with_agenda s (set s.agenda (i - length s.holder) n)) (grey s.heap n))).agenda ≡ length s.agenda)
        pick true = (length-set s.holder i _, refl)
        pick false = (refl, length-set s.agenda (i - length s.holder) _)

    one : (ph : Phase) → (length (by_phase s ph).holder ≡ length s.holder) × (length (by_phase s ph).agenda ≡ length s.agenda)
    one idle = (refl, refl)
    one (roots i) = root_wide i
    one marking = (refl, refl)
    one (sweeping g) = (refl, refl)
    one (moving k src targets) = (refl, refl)

    go : (t : Bool) → (length (steps u (unit s)).holder ≡ length (unit s).holder) × (length (steps u (unit s)).agenda ≡ length (unit s).agenda)
        → (length (cond t (steps u (unit s)) s).holder ≡ length s.holder) × (length (cond t (steps u (unit s)) s).agenda ≡ length s.agenda)
    go true q = let p = one s.heap.phase in (q.0 ∙ p.0, q.1 ∙ p.1)
    go false q = (refl, refl)

pub steps_stand : {T : ℕ → Type 0} {s : State} {v : View} {own : ℕ → ℕ} (u : ℕ) → StoreStands T s v own
    → StoreStands T (steps u s) v (owner_steps u s own)
steps_stand {T} {s} {v} {own} u a =
    let w = steps_wide u s in
    record { at = steps_at T v.records (v.holder ++ v.agenda) u own s a.at; many = w.0 ∙ a.many; wide = w.1 ∙ a.wide }

-- the first of the agenda
pub data First (s : State) (g : Graph) : Type 0 where
  nothing : first_keyed s.keys ≡ None → g.events ≡ [] → First s g
  due : (k : Key) (i : ℕ) (e : Event) (es : List Event) → first_keyed s.keys ≡ Some (k, i) → g.events ≡ e ∷ es → Due s.keys k i → First s g

pub first_event : {s : State} (g : Graph) {named : List ℕ} → Agenda s.keys named g.events g.serial → First s g
first_event {s} g {named} a = go (first_keyed s.keys) refl g.events refl (first_found s.keys)
  where
    go : (o : Option (Key × ℕ)) → first_keyed s.keys ≡ o → (es : List Event) → g.events ≡ es → Found s.keys (first_keyed s.keys) → First s g
    go None e [] f n = nothing e f
    go None e (x ∷ xs) f n =
        let l : length g.events ≡ suc (length xs) = ap length f in
        let z = occupied_some s.keys (omega (arith, a.many, l)) in
        absurd (subst (Found s.keys) e n z.0 z.1.0 z.1.1)
    go (Some x) e [] f n =
        let d : Due s.keys x.0 x.1 = subst (Found s.keys) e n in
        member_none (subst (λ (l : List Event). Member (event x.0 (get_or named x.1 0)) l) f (a.planned x.1 x.0 d.key))
    go (Some x) e (y ∷ ys) f n = due x.0 x.1 y ys e f (subst (Found s.keys) e n)

module _ {T : ℕ → Type 0} {s : State} {g : Graph} {own : ℕ → ℕ} (a : Follows T s g own) where
  abbrev v : View
  v = view g a.named

  -- a call that leaves the keys, the clock and the serial
  carried : (t : State) (k : Graph) (o : ℕ → ℕ) → StoreStands T t (view k a.named) o
      → t.keys ≡ s.keys → t.clock ≡ s.clock → t.serial ≡ s.serial → k.events ≡ g.events → k.clock ≡ g.clock → k.serial ≡ g.serial → Follows T t k o
  carried t k o r e f h x y z = record {
    named = a.named;
    store = r;
    agenda = subst (λ (es : List Event). Agenda t.keys a.named es k.serial) (sym x)
        (subst (Agenda t.keys a.named g.events) (sym z)
        (subst (λ (ks : List (Option Key)). Agenda ks a.named g.events g.serial) (sym e) a.agenda));
    clock = f ∙ a.clock ∙ sym y;
    serial = h ∙ a.serial ∙ sym z;
  }

  make_follows : (p r d : ℕ) → refusal (Make p r d) s ≡ None
      → Follows T (outcome (Make p r d) s) (graph_after (Make p r d) g) (owner_after (Make p r d) s own (suc (length g.records)))
  make_follows p r d e =
      let x = all_passed (conditions (Make p r d) s) e in
      let y = x.1 in
      let z = y.1 in
      let j = some_is (page_to_take s.heap.pages (fitting (2 + r + d))) z.0 in
      subst (λ (o : Option ℕ). Follows T (if_some o (made_in s p r d) s) (graph_after (Make p r d) g) (if_some o (λ h. put own (block_made s.heap.pages (fitting (2 + r + d)) h) (suc (length g.records))) own)) (sym j.1)
      (carried (made_in s p r d j.0) (graph_after (Make p r d) g) _
      (make_stands a.store p r d (place_in s p x.0) (ltb-false _ _ y.0) j.0 j.1)
      refl refl refl refl refl refl)

  load_follows : (p q f : ℕ) → refusal (Load p q f) s ≡ None → Follows T (outcome (Load p q f) s) (graph_after (Load p q f) g) own
  load_follows p q f e =
      let x = all_passed (conditions (Load p q f) s) e in
      let lq = place_in s q x.1.0 in
      let h = has g a.store q lq x.1.1.0 in
      carried (outcome (Load p q f) s) (graph_after (Load p q f) g) own
      (subst (λ (r : Record). StoreStands T (outcome (Load p q f) s) (graph_overwritten v p (get_or r.refs f 0)) own) (sym h.contents)
      (load_call a.store p q f (place_in s p x.0) lq h.block h.is (ref_in g a.store q f h x.1.1.1.0)))
      refl refl refl refl refl refl

  -- the contents of the record in a place are written
  written_follows : (t : State) (q : ℕ) (h : Has g a.store q) (d : Record → Record) → t.keys ≡ s.keys → t.clock ≡ s.clock → t.serial ≡ s.serial
      → StoreStands T t (graph_put v (in_place g q) (d (record_of own h.block))) own → Follows T t (with_record g (in_place g q) (d (record_at g (in_place g q)))) own
  written_follows t q h d e f k r =
      let with-nodes : List Record → View = λ ns. record { records = ns; holder = g.places; agenda = a.named } in
      carried t (with_record g (in_place g q) (d (record_at g (in_place g q)))) own
      (subst (λ (x : Record). StoreStands T t (with-nodes (set g.records (in_place g q - 1) (d x))) own) (sym h.contents)
      (subst (λ (ns : List Record). StoreStands T t (with-nodes ns) own) (put_set g.records (in_place g q) (d (record_of own h.block)) h.pos) r))
      e f k refl refl refl

  store_follows : (q f p : ℕ) → refusal (Store q f p) s ≡ None → Follows T (outcome (Store q f p) s) (graph_after (Store q f p) g) own
  store_follows q f p e =
      let x = all_passed (conditions (Store q f p) s) e in
      let lq = place_in s q x.0 in
      let h = has g a.store q lq x.1.1.0 in
      written_follows (outcome (Store q f p) s) q h (λ r. record { refs = set r.refs f (in_place g p); words = r.words }) refl refl refl
      (store_call a.store q f p lq (place_in s p x.1.0) h.block h.is (ref_in g a.store q f h x.1.1.1.0))

  write_follows : (q w u : ℕ) → refusal (Write q w u) s ≡ None → Follows T (outcome (Write q w u) s) (graph_after (Write q w u) g) own
  write_follows q w u e =
      let x = all_passed (conditions (Write q w u) s) e in
      let lq = place_in s q x.0 in
      let h = has g a.store q lq x.1.0 in
      written_follows (outcome (Write q w u) s) q h (λ r. record { refs = r.refs; words = set r.words w u }) refl refl refl
      (write_call a.store q w u lq h.block h.is)

  copy_follows : (p q : ℕ) → refusal (Copy p q) s ≡ None → Follows T (outcome (Copy p q) s) (graph_after (Copy p q) g) own
  copy_follows p q e =
      let x = all_passed (conditions (Copy p q) s) e in
      let y = x.1 in
      carried (outcome (Copy p q) s) (graph_after (Copy p q) g) own
      (copy_stands a.store p q (place_in s p x.0) (place_in s q y.0))
      refl refl refl refl refl refl

  clear_follows : (p : ℕ) → refusal (Clear p) s ≡ None → Follows T (outcome (Clear p) s) (graph_after (Clear p) g) own
  clear_follows p e =
      let x = all_passed (conditions (Clear p) s) e in
      carried (outcome (Clear p) s) (graph_after (Clear p) g) own (clear_stands a.store p (place_in s p x.0)) refl refl refl refl refl refl

  schedule_follows : (t p : ℕ) → refusal (Schedule t p) s ≡ None → Follows T (outcome (Schedule t p) s) (graph_after (Schedule t p) g) own
  schedule_follows t p e =
      let x = all_passed (conditions (Schedule t p) s) e in
      let y = x.1 in
      let z = y.1 in
      let lp = place_in s p x.0 in
      let h = has g a.store p lp y.0 in
      let i = spare_of s.keys in
      let li : spare_of s.keys < length s.keys = spare_in s.keys z.0 in
      let r = agenda_form a.store i (get_or s.holder p 0) (holder_nil_or a.store p) (holder_wanted a.store p lp) in
      let q = subst (λ y. StoreStands T (agenda_overwrite s i (place s p)) (graph_planned v i y) own) (holder_owner a.store p lp) r in
      record {
        named = set a.named i (in_place g p);
        store = record { at = q.at; many = q.many; wide = q.wide };
        agenda = subst (λ n. Agenda (set s.keys i (Some (record { time = t; serial = n }))) (set a.named i (in_place g p)) (event (record { time = t; serial = g.serial }) (in_place g p) ∷ g.events) (suc g.serial)) (sym a.serial)
            (schedule_agenda a.agenda t (in_place g p) li h.pos);
        clock = a.clock;
        serial = ap suc a.serial;
      }
    where
      spare_in : (ks : List (Option Key)) → eqb (spare_of ks) (length ks) ≡ false → spare_of ks < length ks
      spare_in ks e = let d = eqb-false (spare_of ks) (length ks) e in omega (arith, d, spare_most ks)

  next_follows : (p : ℕ) → refusal (Next p) s ≡ None → Follows T (outcome (Next p) s) (graph_after (Next p) g) own
  next_follows p e = go (first_event g a.agenda)
    where
      go : First s g → Follows T (outcome (Next p) s) (graph_after (Next p) g) own
      go (nothing n m) =
          let x = all_passed (conditions (Next p) s) e in
          let y = x.1 in
          let z = some_is (first_keyed s.keys) y.0 in none_some z.0 (sym n ∙ z.1)
      go (due k i ev es n m d) =
          let x = all_passed (conditions (Next p) s) e in
          let lp = place_in s p x.0 in
          let sp = split_splits ev es in
          let A = subst (λ (l : List Event). Agenda s.keys a.named l g.serial) m a.agenda in
          let li : i < length s.agenda = let q = some_in s.keys i k d.key in omega (arith, q, a.agenda.wide, a.store.wide) in
          let f = first_same A d sp in
          let o : own (get_or s.agenda i 0) ≡ (split_first ev es).0.names = agenda_owner a.store i ∙ ap (λ (z : Event). z.names) f in
          let overwritten = overwrite_form a.store p (get_or s.agenda i 0) lp (agenda_nil_or a.store i) (agenda_wanted a.store i li) in
          let emptied = empty_stands overwritten i in
          let stands = subst (λ y. StoreStands T (agenda_overwrite (overwrite s p (current s.heap.pages (get_or s.agenda i 0))) i 0) (graph_planned (graph_overwritten v p y) i 0) own) o emptied in
          subst (λ (w : Option (Key × ℕ)). Follows T (if_some w (taken s p) s) (popped g p g.events) own) (sym n)
          (subst (λ (l : List Event). Follows T (taken s p (k, i)) (popped g p l) own) (sym m)
          (record {
            named = set a.named i 0;
            store = record { at = stands.at; many = stands.many; wide = stands.wide };
            agenda = next_agenda A d sp;
            clock = ap (λ (z : Event). z.key.time) f;
            serial = a.serial;
          }))

  -- every granted call but begin
  pub call_follows : (c : Call) → is_begin c ≡ false → refusal c s ≡ None
      → Follows T (outcome c s) (graph_after c g) (owner_after c s own (suc (length g.records)))
  call_follows (Make p r d) b e = make_follows p r d e
  call_follows (Load p q f) b e = load_follows p q f e
  call_follows (Store q f p) b e = store_follows q f p e
  call_follows (Read q w) b e = a
  call_follows (Write q w u) b e = write_follows q w u e
  call_follows (Copy p q) b e = copy_follows p q e
  call_follows (Clear p) b e = clear_follows p e
  call_follows (Same p q) b e = a
  call_follows (Shape q) b e = a
  call_follows (Schedule t p) b e = schedule_follows t p e
  call_follows (Next p) b e = next_follows p e
  call_follows Begin b e = cc
  call_follows (Step u) b e =
      let q = steps_quiet u s in
      carried (steps u s) g (owner_steps u s own) (steps_stand u a.store) q.keys q.clock q.serial refl refl refl
  call_follows Count b e = a
