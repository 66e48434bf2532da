-- Each unit keeps a state sound and is paid for by both bounds, and so are the units of a step.
use Rattle.std.proofs.Common.{◌≡◌, ℕ, zero, suc, ◌+◌, ◌-◌, ◌≤◌, true, false, ltb, ◌⊎◌, length, get_or, set, sym, refl, ap, ◌∙◌, subst, inl, inr, arith}
use Rattle.std.proofs.lemmas.List.{length-set}
use Rattle.std.proofs.lemmas.Bool.{cases_Bool, cond-true, cond-false, cond_both, true≢false, false≢true}
use Rattle.model.specs.Pages.{current}
use Rattle.model.specs.State.{Phase, idle, roots, marking, sweeping, moving, running, State, with_heap, with_holder, with_agenda, with_phase}
use Rattle.model.specs.Units.{grey, after_root, by_phase, unit, one_more, steps}
use Rattle.theory.proofs.PageShapes.{PagesOk}
use Rattle.theory.proofs.Potential.{Bound, Lowered, Sound, Stage, budget, left, left_of, places}
use Rattle.theory.proofs.TracingUnits.{mark_lowers, root_lowers}
use Rattle.theory.proofs.SweepingUnits.{sweep_lowers}
use Rattle.theory.proofs.MovingUnits.{move_lowers}

-- a unit took state `s` to state `t`
pub record Done (s t : State) : Type 0 where
  pub sound : Sound t.heap
  pub places : places t ≡ places s
  pub more : t.heap.units ≡ suc s.heap.units
  pub budget : (b : Bound) → budget b t ≤ budget b s

lowered_done : (s t : State) (ph : Phase) → s.heap.phase ≡ ph → places t ≡ places s → Lowered (places s) s.heap ph t.heap
    → Done s (with_heap t (one_more t.heap))
lowered_done s t ph e p l = record {
  sound = record { pages = l.sound.pages; stage = l.sound.stage };
  places = p;
  more = omega (arith, l.units);
  budget = λ b.
      let before : left_of b (places s) s.heap ≡ left b (places s) s.heap.pages s.heap.work ph = ap (left b (places s) s.heap.pages s.heap.work) e in
      let after : left_of b (places t) t.heap ≡ left_of b (places s) t.heap = ap (λ n. left_of b n t.heap) p in
      omega (arith, l.units, l.less b);
}

done_in : (s : State) (ph : Phase) → s.heap.phase ≡ ph → running ph ≡ true → PagesOk s.heap.pages → Stage s.heap.pages s.heap.work ph
    → Done s (with_heap (by_phase s ph) (one_more (by_phase s ph).heap))
done_in s idle e r o d = absurd (false≢true r)
done_in s (roots i) e r o d =
    let j : ℕ = i - length s.holder in
    let m : ℕ = current s.heap.pages (get_or s.holder i 0) in
    let m' : ℕ = current s.heap.pages (get_or s.agenda j 0) in
    let t : State = with_heap (with_holder s (set s.holder i m)) (grey s.heap m) in
    let t' : State = with_heap (with_agenda s (set s.agenda j m')) (grey s.heap m') in
    cond_both (ltb i (length s.holder)) t t' (λ x. Done s (with_heap (with_heap x (with_phase x.heap (after_root s i))) (one_more (with_phase x.heap (after_root s i)))))
    (λ z. lowered_done s (with_heap t (with_phase t.heap (after_root s i))) (roots i) e (omega (arith, length-set s.holder i m)) (root_lowers (places s) s.heap m i o d))
    (λ z. lowered_done s (with_heap t' (with_phase t'.heap (after_root s i))) (roots i) e (omega (arith, length-set s.agenda j m')) (root_lowers (places s) s.heap m' i o d))
done_in s marking e r o d = lowered_done s (by_phase s marking) marking e refl (mark_lowers (places s) s.heap s.heap.work refl e o d)
done_in s (sweeping g) e r o d = lowered_done s (by_phase s (sweeping g)) (sweeping g) e refl (sweep_lowers (places s) s.heap g o d)
done_in s (moving k source targets) e r o d =
    lowered_done s (by_phase s (moving k source targets)) (moving k source targets) e refl (move_lowers (places s) s.heap k source targets o d.0 d.1)

pub unit_done : (s : State) → running s.heap.phase ≡ true → Sound s.heap → Done s (unit s)
unit_done s r d = done_in s s.heap.phase refl r d.pages d.stage

-- up to `u` units took state `s` to state `t`
pub record Stepped (u : ℕ) (s t : State) : Type 0 where
  pub sound : Sound t.heap
  pub places : places t ≡ places s
  pub budget : (b : Bound) → budget b t ≤ budget b s
  pub all_done : running t.heap.phase ≡ true → t.heap.units ≡ s.heap.units + u

pub steps_done : (u : ℕ) (s : State) → Sound s.heap → Stepped u s (steps u s)
steps_done zero s d = record { sound = d; places = refl; budget = λ b. omega arith; all_done = λ r. omega arith }
steps_done (suc u) s d = go (cases_Bool (running s.heap.phase)) (λ r. steps_done u (unit s) (unit_done s r d).sound)
  where
    go : (running s.heap.phase ≡ true) ⊎ (running s.heap.phase ≡ false)
        → (running s.heap.phase ≡ true → Stepped u (unit s) (steps u (unit s))) → Stepped (suc u) s (steps (suc u) s)
    go (inl r) rest =
        let x = unit_done s r d in
        let y = rest r in
        subst (Stepped (suc u) s) (sym (cond-true (running s.heap.phase) (steps u (unit s)) s r)) (record {
          sound = y.sound;
          places = y.places ∙ x.places;
          budget = λ b. omega (arith, y.budget b, x.budget b);
          all_done = λ q. omega (arith, y.all_done q, x.more);
        })
    go (inr r) rest =
        subst (Stepped (suc u) s) (sym (cond-false (running s.heap.phase) (steps u (unit s)) s r)) (record {
          sound = d;
          places = refl;
          budget = λ b. omega arith;
          all_done = λ q. absurd (true≢false (sym q ∙ r));
        })
