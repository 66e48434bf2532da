-- The bounds on the units of a collection, in every run.
use Rattle.std.proofs.Common.{◌≡◌, ℕ, ◌+◌, ◌≤◌, true, false, cond, eqb, ◌⊎◌, List, [], ◌∷◌, length, get_or, replicate, Some, None, Option, sym, refl, ap, ◌∙◌, subst, inl, inr, arith}
use Rattle.std.proofs.lemmas.List.{length-set, length_push, length-replicate}
use Rattle.std.proofs.lemmas.Bool.{cases_Bool, cond-false, cond_both, false≢true}
use Rattle.calls.specs.declared.Call.{Call}
use Rattle.calls.specs.declared.Call.TheVariants.{Make, Load, Store, Read, Write, Copy, Clear, Same, Shape, Schedule, Next, Begin, Step, Count}
use Rattle.calls.specs.declared.Refusal.{Refusal}
use Rattle.model.specs.Pages.{Block, Page, uncut, block_at, current, forward_of, page_of, slot_of, count_of_current_blocks}
use Rattle.model.specs.State.{State}
use Rattle.model.specs.Refusals.{refusal}
use Rattle.model.specs.Calls.{outcome, reply, decided}
use Rattle.model.specs.Graph.{Event, Graph, graph_after, popped}
use Rattle.model.specs.Runs.{Run, start, run_from, extend, extend_by, granted, is_begin}
use Rattle.model.specs.Law.{made_since}
use Rattle.theory.specs.Measures.{Measures}
use Rattle.theory.proofs.PageShapes.{fresh_ok, uncut_at}
use Rattle.theory.proofs.Counts.{current_and_husks, marked, total_fresh}
use Rattle.theory.proofs.CurrentForms.{Straight}
use Rattle.theory.proofs.Potential.{Bound, Sound, budget, by_blocks, by_room, listed_limit, places}
use Rattle.theory.proofs.UnitCosts.{steps_done}
use Rattle.theory.proofs.HeapCosts.{raise}
use Rattle.theory.proofs.CallCosts.{allowed, begin_paid, makes, outcome_paid}

-- the records that a call makes
popped_records : (g : Graph) (p : ℕ) (es : List Event) → length (popped g p es).records ≡ length g.records
popped_records g p [] = refl
popped_records g p (e ∷ es) = refl

pub records_after : (c : Call) (g : Graph) → length (graph_after c g).records ≡ length g.records + makes c
records_after (Make p r d) g = length_push g.records (record { refs = replicate r 0; words = replicate d 0 })
records_after (Load p q f) g = omega arith
records_after (Store q f p) g = simp length-set (omega arith)
records_after (Read q w) g = omega arith
records_after (Write q w v) g = simp length-set (omega arith)
records_after (Copy p q) g = omega arith
records_after (Clear p) g = omega arith
records_after (Same p q) g = omega arith
records_after (Shape q) g = omega arith
records_after (Schedule t p) g = omega arith
records_after (Next p) g = omega (arith, popped_records g p g.events)
records_after Begin g = omega arith
records_after (Step u) g = omega arith
records_after Count g = omega arith

pub begin_is : (c : Call) → is_begin c ≡ true → c ≡ Begin
begin_is (Make p r d) e = absurd (false≢true e)
begin_is (Load p q f) e = absurd (false≢true e)
begin_is (Store q f p) e = absurd (false≢true e)
begin_is (Read q w) e = absurd (false≢true e)
begin_is (Write q w v) e = absurd (false≢true e)
begin_is (Copy p q) e = absurd (false≢true e)
begin_is (Clear p) e = absurd (false≢true e)
begin_is (Same p q) e = absurd (false≢true e)
begin_is (Shape q) e = absurd (false≢true e)
begin_is (Schedule t p) e = absurd (false≢true e)
begin_is (Next p) e = absurd (false≢true e)
begin_is Begin e = refl
begin_is (Step u) e = absurd (false≢true e)
begin_is Count e = absurd (false≢true e)

-- what every run of a store with `n` places keeps
pub record Within (n : ℕ) (r : Run) : Type 0 where
  pub sound : Sound r.state.heap
  pub places : places r.state ≡ n
  pub grown : length r.began.records ≤ length r.graph.records
  pub budget : (b : Bound) → budget b r.state ≤ n + allowed b r.held_then + raise (made_since r) b

raise_more : (x y z : ℕ) (b : Bound) → x + y ≤ z → raise x b + raise y b ≤ raise z b
raise_more x y z by_room h = omega arith
raise_more x y z by_blocks h = omega arith

granted_within : (n : ℕ) → 1 ≤ n → (r : Run) (c : Call) → refusal c r.state ≡ None → Within n r → Within n (granted r c (outcome c r.state))
granted_within n one r c e k = go (cases_Bool (is_begin c))
  where
    s : State
    s = r.state

    go : (is_begin c ≡ true) ⊎ (is_begin c ≡ false) → Within n (granted r c (outcome c s))
    go (inl i) =
        let q : c ≡ Begin = begin_is c i in
        let b = begin_paid s (omega (arith, k.places)) (subst (λ c. refusal c s ≡ None) q e) k.sound in
        let z : Within n (granted r Begin (outcome Begin s)) = record {
          sound = b.sound;
          places = k.places;
          grown = omega arith;
          budget = λ x. omega (arith, b.budget x, k.places);
        } in
        subst (λ c. Within n (granted r c (outcome c s))) (sym q) z
    go (inr i) =
        let p = outcome_paid c s i e k.sound in
        let began : cond (is_begin c) r.graph r.began ≡ r.began = cond-false (is_begin c) r.graph r.began i in
        let held : cond (is_begin c) (count_of_current_blocks s.heap.pages) r.held_then ≡ r.held_then = cond-false (is_begin c) (count_of_current_blocks s.heap.pages) r.held_then i in
        let many : length (cond (is_begin c) r.graph r.began).records ≡ length r.began.records = ap (λ (g : Graph). length g.records) began in
        let t : Run = granted r c (outcome c s) in
        let since : made_since r + makes c ≤ made_since t = omega (arith, k.grown, records_after c r.graph) in
        record {
          sound = p.sound;
          places = p.places ∙ k.places;
          grown = omega (arith, k.grown, records_after c r.graph);
          budget = λ b.
              let same : allowed b t.held_then ≡ allowed b r.held_then = ap (allowed b) held in
              omega (arith, p.budget b, k.budget b, raise_more (made_since r) (makes c) (made_since t) b since);
        }

extend_within : (n : ℕ) → 1 ≤ n → (r : Run) (c : Call) → Within n r → Within n (extend r c)
extend_within n one r c k = go (refusal c r.state) refl
  where
    go : (o : Option Refusal) → refusal c r.state ≡ o → Within n (extend_by r c (decided o r.state (outcome c r.state) (reply c r.state)))
    go None e = granted_within n one r c e k
    go (Some x) e = k

run_within : (n : ℕ) → 1 ≤ n → (r : Run) (cs : List Call) → Within n r → Within n (run_from r cs)
run_within n one r [] k = k
run_within n one r (c ∷ cs) k = run_within n one (extend r c) cs (extend_within n one r c k)

pub fresh_none : (n : ℕ) → block_at (replicate 64 uncut) n ≡ None
fresh_none n =
    ap (λ (p : Page). cond (eqb n 0) None (get_or p.slots (slot_of n) None)) (uncut_at 64 (page_of n))
    ∙ cond_both (eqb n 0) None None (λ (o : Option Block). o ≡ None) (λ e. refl) (λ e. refl)

fresh_straight : Straight (replicate 64 uncut)
fresh_straight n = ap forward_of (fresh_none (current (replicate 64 uncut) n)) ∙ sym (ap forward_of (fresh_none n))

start_within : (h a : ℕ) → Within (h + a) (start h a)
start_within h a = record {
  sound = record { pages = fresh_ok; stage = record { listed = refl; clean = total_fresh marked 64; straight = fresh_straight } };
  places = omega (arith, length-replicate {A = ℕ} h 0, length-replicate {A = ℕ} a 0);
  grown = omega arith;
  budget = λ b. omega arith;
}

pub measures : Measures
measures h a h1 h2 a1 a2 cs =
    let r : Run = run_from (start h a) cs in
    let k : Within (h + a) r = run_within (h + a) (omega arith) (start h a) cs (start_within h a) in
    record {
      sharp = omega (arith, k.budget by_blocks, k.places);
      units = omega (arith, k.budget by_room);
      work = listed_limit r.state.heap.pages r.state.heap.work r.state.heap.phase k.sound.stage;
      blocks = current_and_husks r.state.heap.pages k.sound.pages;
      all_done = λ u. (steps_done u r.state k.sound).all_done;
    }
