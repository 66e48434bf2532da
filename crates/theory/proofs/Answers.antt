-- What the next call answers, and why it is refused, by the graph.
use Rattle.std.proofs.Common.{◌≡◌, ℕ, suc, ◌+◌, ◌<◌, Bool, true, false, cond, not, eqb, ltb, leb, ◌⊎◌, List, [], ◌∷◌, ◌++◌, length, get_or, Some, None, Option, sym, refl, ap, ◌∙◌, subst, ap₂, inl, inr, ⊎_elim, arith}
use Rattle.std.proofs.lemmas.Bool.{eq-eqb, ne_eqb, false≢true}
use Rattle.calls.specs.declared.Answer.TheVariants as answer
use Rattle.calls.specs.declared.Call.{Call}
use Rattle.calls.specs.declared.Call.TheVariants.{Begin, Clear, Copy, Count, Load, Make, Next, Read, Same, Schedule, Shape, Step, Store, Write}
use Rattle.calls.specs.declared.Refusal.{Refusal}
use Rattle.calls.specs.declared.Refusal.TheVariants.{AgendaFull, CollectionRuns, Nil, NoCollection, NoEvent, NoRoom, NoSuchPlace, NoSuchReference, NoSuchWord, SerialsUsedUp, TimePassed, TooLarge}
use Rattle.holders.specs.declared.key.Key.{Key}
use Rattle.model.specs.State.{State, running}
use Rattle.model.specs.Refusals.{conditions, first_keyed, first_refusal, is_none, no_place, no_record, no_reference, no_room, no_spare, no_word, refusal}
use Rattle.model.specs.Calls.{decided, if_some, outcome, reply}
use Rattle.model.specs.Graph.{Event, Graph, Member, absent, first_time, graph_reply, lacks_reference, lacks_word, names_nil, there}
use Rattle.model.specs.Runs.{Run}
use Rattle.model.specs.Law.{Agrees, StoresOwn, by_graph, graph_answers}
use Rattle.histories.proofs.Members.{member_eq}
use Rattle.theory.proofs.Lists.{none_some, some_same}
use Rattle.theory.proofs.Writes.{same_test}
use Rattle.theory.proofs.Keys.{spare_test}
use Rattle.histories.proofs.Splits.{split_splits}
use Rattle.theory.proofs.Events.{Agenda, first_same}
use Rattle.theory.proofs.Following.{First, Follows, Has, all_passed, due, first_event, has, nothing, place_in, same_absent, same_nil, same_ref, same_refs, same_word, same_words}

test_same : (a b : Bool) (n : Refusal) (x y : Option Refusal) → a ≡ b → (a ≡ false → x ≡ y) → cond a (Some n) x ≡ cond b (Some n) y
test_same true true n x y e f = refl
test_same true false n x y e f = cc
test_same false true n x y e f = cc
test_same false false n x y e f = f refl

-- one condition more than the graph has: its refusal, or one of the others
one_more : (cs : List (Bool × Refusal)) (b : Bool) (n m : Refusal) → first_refusal (cs ++ (b, n) ∷ []) ≡ Some m → (n ≡ m) ⊎ (first_refusal cs ≡ Some m)
one_more [] true n m e = inl (some_same refl e)
one_more [] false n m e = inr e
one_more (c ∷ cs) b n m e = go c.0 e (one_more cs b n m)
  where
    go : (t : Bool) → cond t (Some c.1) (first_refusal (cs ++ (b, n) ∷ [])) ≡ Some m
        → (first_refusal (cs ++ (b, n) ∷ []) ≡ Some m → (n ≡ m) ⊎ (first_refusal cs ≡ Some m)) → (n ≡ m) ⊎ (cond t (Some c.1) (first_refusal cs) ≡ Some m)
    go true e f = inr e
    go false e f = f e

-- the condition of a refusal holds
first_holds : (cs : List (Bool × Refusal)) (n : Refusal) → first_refusal cs ≡ Some n → Member (true, n) cs
first_holds [] n e = none_some n e
first_holds (c ∷ cs) n e = go c.0 refl e (λ f. first_holds cs n f)
  where
    go : (b : Bool) → c.0 ≡ b → cond b (Some c.1) (first_refusal cs) ≡ Some n → (first_refusal cs ≡ Some n → Member (true, n) cs)
        → Member (true, n) (c ∷ cs)
    go true t e f = member_eq (ap₂ (λ (b : Bool) (m : Refusal). (b, m)) (sym t) (some_same e refl))
    go false t e f = there (f e)

module _ {T : ℕ → Type 0} (r : Run) (a : Follows T r.state r.graph r.owner) where
  abbrev s : State
  s = r.state

  abbrev g : Graph
  g = r.graph

  at_absent : (p : ℕ) → no_place s p ≡ absent g p
  at_absent = same_absent g a.store

  in_holder : (p : ℕ) → no_place s p ≡ false → p < length s.holder
  in_holder = place_in s

  at_nil : (q : ℕ) → no_place s q ≡ false → no_record s q ≡ names_nil g q
  at_nil q e = same_nil g a.store q (in_holder q e)

  at_has : (q : ℕ) → no_place s q ≡ false → no_record s q ≡ false → Has g a.store q
  at_has q e f = has g a.store q (in_holder q e) f

  at_ref : (q f : ℕ) → no_place s q ≡ false → no_record s q ≡ false → no_reference s q f ≡ lacks_reference g q f
  at_ref q f e n = same_ref g a.store q f (at_has q e n)

  at_word : (q w : ℕ) → no_place s q ≡ false → no_record s q ≡ false → no_word s q w ≡ lacks_word g q w
  at_word q w e n = same_word g a.store q w (at_has q e n)

  at_spare : no_spare s ≡ leb (length s.agenda) (length g.events)
  at_spare =
      spare_test s.keys ∙ ap₂ leb (a.agenda.wide ∙ sym a.store.wide) (sym a.agenda.many)

  at_first : is_none (first_keyed s.keys) ≡ eqb (length g.events) 0
  at_first = go (first_event g a.agenda)
    where
      go : First s g → is_none (first_keyed s.keys) ≡ eqb (length g.events) 0
      go (nothing e f) = ap is_none e ∙ sym (eq-eqb (length g.events) 0 (ap length f))
      go (due k i ev es e f d) = ap is_none e ∙ sym (ne_eqb (length g.events) 0 (λ z. let q : length g.events ≡ suc (length es) = ap length f in omega (arith, z, q)))

  at_time : if_some (first_keyed s.keys) (λ k. answer.Time k.0.time) answer.Done ≡ first_time g.events
  at_time = go (first_event g a.agenda)
    where
      go : First s g → if_some (first_keyed s.keys) (λ k. answer.Time k.0.time) answer.Done ≡ first_time g.events
      go (nothing e f) = ap (λ (w : Option (Key × ℕ)). if_some w (λ k. answer.Time k.0.time) answer.Done) e ∙ sym (ap first_time f)
      go (due k i ev es e f d) =
          let A = subst (λ (l : List Event). Agenda s.keys a.named l g.serial) f a.agenda in
          let q = first_same A d (split_splits ev es) in
          ap (λ (w : Option (Key × ℕ)). if_some w (λ k. answer.Time k.0.time) answer.Done) e ∙ ap (λ (x : Event). answer.Time x.key.time) q ∙ sym (ap first_time f)

  -- a condition of the store and the graph's, one after the other
  place_test : {x y : Option Refusal} (p : ℕ) → (no_place s p ≡ false → x ≡ y) → cond (no_place s p) (Some NoSuchPlace) x ≡ cond (absent g p) (Some NoSuchPlace) y
  place_test p f = test_same (no_place s p) (absent g p) NoSuchPlace _ _ (at_absent p) f

  record_test : {x y : Option Refusal} (q : ℕ) → no_place s q ≡ false → (no_record s q ≡ false → x ≡ y)
      → cond (no_record s q) (Some Nil) x ≡ cond (names_nil g q) (Some Nil) y
  record_test q e f = test_same (no_record s q) (names_nil g q) Nil _ _ (at_nil q e) f

  reference_test : (q f : ℕ) → no_place s q ≡ false → no_record s q ≡ false
      → cond (no_reference s q f) (Some NoSuchReference) None ≡ cond (lacks_reference g q f) (Some NoSuchReference) None
  reference_test q f e n = test_same (no_reference s q f) (lacks_reference g q f) NoSuchReference _ _ (at_ref q f e n) (λ w. refl)

  word_test : (q w : ℕ) → no_place s q ≡ false → no_record s q ≡ false → cond (no_word s q w) (Some NoSuchWord) None ≡ cond (lacks_word g q w) (Some NoSuchWord) None
  word_test q w e n = test_same (no_word s q w) (lacks_word g q w) NoSuchWord _ _ (at_word q w e n) (λ u. refl)

  -- a refusal's condition holds, and a refused call changes nothing: so of every call
  agrees_with : (c : Call) → (refusal c s ≡ None → by_graph r c ≡ None) → (refusal c s ≡ None → graph_answers c ≡ true → reply c s ≡ graph_reply c g)
      → ((n : Refusal) → refusal c s ≡ Some n → StoresOwn n ⊎ (by_graph r c ≡ Some n)) → Agrees r c
  agrees_with c p q o = record {
    granted = p;
    answered = q;
    refused = o;
    holds = λ n e. first_holds (conditions c s) n e;
    unchanged = λ n e. ap (λ (x : Option Refusal). (decided x s (outcome c s) (reply c s)).0) e;
  }

  -- a call that the graph refuses as the store does
  agrees_same : (c : Call) → refusal c s ≡ by_graph r c → (refusal c s ≡ None → graph_answers c ≡ true → reply c s ≡ graph_reply c g) → Agrees r c
  agrees_same c e f = agrees_with c (λ n. sym e ∙ n) f (λ n q. inr (sym e ∙ q))

  pub agrees : (c : Call) → Agrees r c
  agrees (Make p n d) =
      let shared : List (Bool × Refusal) = (no_place s p, NoSuchPlace) ∷ (ltb 30 (n + d), TooLarge) ∷ [] in
      let same : first_refusal shared ≡ by_graph r (Make p n d) = place_test p λ x. refl in
      agrees_with (Make p n d)
      (λ e. let x = all_passed (conditions (Make p n d) s) e in
      test_same (absent g p) false NoSuchPlace _ None (sym (at_absent p) ∙ x.0) λ y. test_same (ltb 30 (n + d)) false TooLarge _ None x.1.0 λ z. refl)
      (λ e t. refl)
      (λ m e. ⊎_elim (λ (o : NoRoom ≡ m). inl (inl (sym o))) (λ o. inr (sym same ∙ o)) (one_more shared (no_room s n d) NoRoom m e))
  agrees (Load p q f) = agrees_same (Load p q f)
      (place_test p λ x. place_test q λ y. record_test q y λ z. reference_test q f y z)
      (λ e t. refl)
  agrees (Store q f p) = agrees_same (Store q f p)
      (place_test q λ y. place_test p λ x.
      record_test q y λ z. reference_test q f y z)
      (λ e t. refl)
  agrees (Read q w) = agrees_same (Read q w)
      (place_test q λ y. record_test q y λ z. word_test q w y z)
      (λ e t. let x = all_passed (conditions (Read q w) s) e in
      ap (λ (l : List ℕ). answer.Word (get_or l w 0)) (same_words g a.store q (at_has q x.0 x.1.0)))
  agrees (Write q w v) = agrees_same (Write q w v) (place_test q λ y. record_test q y λ z. word_test q w y z) (λ e t. refl)
  agrees (Copy p q) = agrees_same (Copy p q) (place_test p λ x. place_test q λ y. refl) (λ e t. refl)
  agrees (Clear p) = agrees_same (Clear p) (place_test p λ x. refl) (λ e t. refl)
  agrees (Same p q) = agrees_same (Same p q)
      (place_test p λ x. place_test q λ y. refl)
      (λ e t. let x = all_passed (conditions (Same p q) s) e in
      ap answer.Same (same_test a.store p q (in_holder p x.0) (in_holder q x.1.0)))
  agrees (Shape q) = agrees_same (Shape q)
      (place_test q λ y. record_test q y λ z. refl)
      (λ e t. let x = all_passed (conditions (Shape q) s) e in let h = at_has q x.0 x.1.0 in
      ap₂ answer.Shape (same_refs g a.store q h) (ap length (same_words g a.store q h)))
  agrees (Schedule t p) = agrees_same (Schedule t p)
      (place_test p λ y. record_test p y λ z.
      test_same (no_spare s) (leb (length s.agenda) (length g.events)) AgendaFull _ _ at_spare λ u.
      test_same (ltb t s.clock) (ltb t g.clock) TimePassed _ _ (ap (ltb t) a.clock) λ v.
      test_same (eqb s.serial 4294967295) (eqb g.serial 4294967295) SerialsUsedUp _ _ (ap (λ n. eqb n 4294967295) a.serial) λ w. refl)
      (λ e t. refl)
  agrees (Next p) = agrees_same (Next p)
      (place_test p λ y. test_same (is_none (first_keyed s.keys)) (eqb (length g.events) 0) NoEvent _ _ at_first λ z. refl)
      (λ e t. at_time)
  agrees Begin = agrees_with Begin (λ e. refl) (λ e t. refl)
      (λ n e. ⊎_elim (λ (o : CollectionRuns ≡ n). inl (inr (inl (sym o)))) inr (one_more [] (running s.heap.phase) CollectionRuns n e))
  agrees (Step u) = agrees_with (Step u) (λ e. refl) (λ e t. absurd (false≢true t))
      (λ n e. ⊎_elim (λ (o : NoCollection ≡ n). inl (inr (inr (sym o)))) inr (one_more [] (not (running s.heap.phase)) NoCollection n e))
  agrees Count = agrees_with Count (λ e. refl) (λ e t. absurd (false≢true t)) (λ n e. none_some n e)
