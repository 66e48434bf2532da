use Rattle.std.proofs.Common.{◌≡◌, ℕ, suc, ◌+◌, ◌-◌, false, sym, ap, ◌∙◌, arith}
use Rattle.model.specs.State.{State, running}
use Rattle.model.specs.Units.{steps, done_in}
use Rattle.collector.specs.View.{heap_of}
use Rattle.operations.specs.Parts.{state_of}
use Rattle.operations.proofs.Steps.{rests, goes}
use Rattle.operations.proofs.parts.Parts.spend.Goals as goal

pub returns-then-not-is_running : goal.returns-then-not-is_running
returns-then-not-is_running g c =
    let still : running (heap_of c.loop-done.self.collector).phase ≡ false = sym c.is_running.ensures ∙ c.if-not-is_running.true in
    record {
      after = λ clock serial.
          let s : State = state_of g.H.Holder.row g.A.Holder.row g.A.Agenda.keys c.loop-done.self clock serial in
          sym (rests (c.args.units - c.loop-done.done) s still).0 ∙ (c.loop-done.invariant clock serial).0;
      done = λ clock serial.
          let s : State = state_of g.H.Holder.row g.A.Holder.row g.A.Agenda.keys c.loop-done.self clock serial in
          let e = (rests (c.args.units - c.loop-done.done) s still).1 in
          omega (arith, e, (c.loop-done.invariant clock serial).1);
    }

pub loop-done-preserved : goal.loop-done-preserved
loop-done-preserved g c clock serial =
    let s : State = state_of g.H.Holder.row g.A.Holder.row g.A.Agenda.keys c.loop-done.self clock serial in
    let n : ℕ = c.loop-done.done in
    let u : ℕ = c.args.units in
    let t = c.loop-done-test.true in
    let e : suc (u - (n + 1)) ≡ u - n = omega arith in
    let q = goes (u - (n + 1)) s _ (sym c.is_running.ensures ∙ c.if-not-is_running.false) (c.unit.ensures clock serial) in
    let i = c.loop-done.invariant clock serial in
    (sym q.0 ∙ ap (λ x. steps x s) e ∙ i.0, let d = q.1 in let f = ap (λ x. done_in x s) e in omega (arith, d, f, i.1))
