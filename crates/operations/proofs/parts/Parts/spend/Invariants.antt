use Rattle.std.proofs.Common.{◌≡◌, ℕ, ◌+◌, ◌-◌}
use Rattle.model.specs.State.{State}
use Rattle.model.specs.Units.{steps, done_in}
use Rattle.operations.specs.Parts.{state_of}
use Rattle.operations.proofs.parts.Parts.spend.Given as goal

-- what is left to do leads where all was to lead, and is done as often as is still to be done
abbrev pub invariant-loop-done : goal.invariant-loop-done
invariant-loop-done g l = (clock serial : ℕ)
    → let s : State = state_of g.H.Holder.row g.A.Holder.row g.A.Agenda.keys l.self clock serial in
    let s₀ : State = state_of g.H.Holder.row g.A.Holder.row g.A.Agenda.keys l.initial.self clock serial in
    (steps (l.units - l.done) s ≡ steps l.units s₀) × (l.done + done_in (l.units - l.done) s ≡ done_in l.units s₀)
