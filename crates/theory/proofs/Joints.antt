-- How runs are put together, and the widths of a state.
use Rattle.std.proofs.Common.{◌≡◌, ℕ, ◌+◌, List, [], ◌∷◌, ◌++◌, length, get_or, Some, None, Option, sym, refl, ap, ◌∙◌, ⊎_elim, arith}
use Rattle.std.proofs.lemmas.List.{length-replicate, length-set}
use Rattle.calls.specs.declared.Call.{Call}
use Rattle.calls.specs.declared.Call.TheVariants.{Begin, Clear, Copy, Count, Load, Make, Next, Read, Same, Schedule, Shape, Step, Store, Write}
use Rattle.calls.specs.declared.Refusal.{Refusal}
use Rattle.holders.specs.Keys.{spare_of}
use Rattle.holders.specs.declared.key.Key.{Key}
use Rattle.model.specs.Classes.{fitting}
use Rattle.model.specs.State.{State}
use Rattle.model.specs.Making.{page_to_take}
use Rattle.model.specs.Refusals.{first_keyed, place, refusal}
use Rattle.model.specs.Calls.{apply, decided, if_some, made_in, outcome, reply, run_state, taken}
use Rattle.model.specs.Runs.{Run, extend, extend_by, run_from, start}
use Rattle.theory.specs.Joints.{Joined}
use Rattle.theory.proofs.Greying.{places}
use Rattle.theory.proofs.Places.{LiveNow, agenda_nil_or, agenda_owner, live_owner, pages_at}
use Rattle.theory.proofs.Wanted.{Wants, view}
use Rattle.theory.proofs.Following.{steps_wide}
use Rattle.theory.proofs.Induction.{Invariant, run_invariant, start_invariant}
use Rattle.theory.proofs.Law.{exact}

pub run_append : (r : Run) (cs ds : List Call) → run_from r (cs ++ ds) ≡ run_from (run_from r cs) ds
run_append r [] ds = refl
run_append r (c ∷ cs) ds = run_append (extend r c) cs ds

pub extend_state : (r : Run) (c : Call) → (extend r c).state ≡ (apply c r.state).0
extend_state r c = go (refusal c r.state)
  where
    go : (o : Option Refusal)
        → (extend_by r c (decided o r.state (outcome c r.state) (reply c r.state))).state ≡ (decided o r.state (outcome c r.state) (reply c r.state)).0
    go None = refl
    go (Some n) = refl

pub run_states : (cs : List Call) (r : Run) → (run_from r cs).state ≡ run_state cs r.state
run_states [] r = refl
run_states (c ∷ cs) r = run_states cs (extend r c) ∙ ap (run_state cs) (extend_state r c)

abbrev Wide : State → State → Type 0
Wide s t = (length t.holder ≡ length s.holder) × (length t.agenda ≡ length s.agenda)

outcome_wide : (c : Call) (s : State) → Wide s (outcome c s)
outcome_wide (Make p r d) s = go (page_to_take s.heap.pages (fitting (2 + r + d)))
  where
    go : (o : Option ℕ) → Wide s (if_some o (made_in s p r d) s)
    go None = (refl, refl)
    go (Some g) = (length-set s.holder p _, refl)
outcome_wide (Load p q f) s = (length-set s.holder p _, refl)
outcome_wide (Store q f p) s = (refl, refl)
outcome_wide (Read q w) s = (refl, refl)
outcome_wide (Write q w v) s = (refl, refl)
outcome_wide (Copy p q) s = (length-set s.holder p _, refl)
outcome_wide (Clear p) s = (length-set s.holder p _, refl)
outcome_wide (Same p q) s = (refl, refl)
outcome_wide (Shape q) s = (refl, refl)
outcome_wide (Schedule t p) s = (refl, length-set s.agenda (spare_of s.keys) (place s p))
outcome_wide (Next p) s = go (first_keyed s.keys)
  where
    go : (o : Option (Key × ℕ)) → Wide s (if_some o (taken s p) s)
    go None = (refl, refl)
    go (Some x) = (length-set s.holder p _, length-set s.agenda x.1 0)
outcome_wide Begin s = (refl, refl)
outcome_wide (Step u) s = steps_wide u s
outcome_wide Count s = (refl, refl)

extend_wide : (r : Run) (c : Call) → Wide r.state (extend r c).state
extend_wide r c = go (refusal c r.state)
  where
    go : (o : Option Refusal) → Wide r.state (extend_by r c (decided o r.state (outcome c r.state) (reply c r.state))).state
    go None = outcome_wide c r.state
    go (Some n) = (refl, refl)

run_wide : (cs : List Call) (r : Run) → Wide r.state (run_from r cs).state
run_wide [] r = (refl, refl)
run_wide (c ∷ cs) r = let x = run_wide cs (extend r c) in let y = extend_wide r c in (x.0 ∙ y.0, x.1 ∙ y.1)

pub joined : Joined
joined h a cs =
    let r : Run = run_from (start h a) cs in
    let k : Invariant r = run_invariant cs (start h a) (start_invariant h a) in
    let b = k.standing in
    let w = run_wide cs (start h a) in
    let p : length r.state.agenda ≡ a = w.1 ∙ length-replicate a 0 in
    record {
      state = run_states cs (start h a);
      more = λ c. run_append (start h a) cs (c ∷ []);
      next_state = λ c. ap (λ (x : Run). x.state) (run_append (start h a) cs (c ∷ [])) ∙ extend_state r c;
      holder = w.0 ∙ length-replicate h 0;
      agenda = p;
      keys = b.agenda.wide ∙ sym b.store.wide ∙ p;
      pages = (pages_at (Wants r.began) r.graph.records (r.graph.places ++ b.named) r.owner r.state.heap.phase (places r.state) r.state.heap b.store.at).many;
      clock = b.clock;
      serial = b.serial;
      blank = λ i e. zero_named r k i (b.agenda.empty i e);
      exact = exact k;
    }
  where
    zero_named : (r : Run) (k : Invariant r) (i : ℕ) → get_or k.standing.named i 0 ≡ 0 → get_or r.state.agenda i 0 ≡ 0
    zero_named r k i z =
        let b = k.standing in
        let v = view r.graph b.named in
        ⊎_elim
        (λ (e : get_or r.state.agenda i 0 ≡ 0). e)
        (λ (c : LiveNow r.state (get_or r.state.agenda i 0)).
        let q = live_owner b.store (get_or r.state.agenda i 0) c in
        let o = agenda_owner b.store i in
        absurd (omega (arith, q.0, o, z)))
        (agenda_nil_or b.store i)
