-- A call that does what its definition says is performed lawfully.
use Rattle.std.proofs.Common.{ℕ, ◌≤◌, Result}
use Rattle.calls.specs.declared.Answer.{Answer}
use Rattle.calls.specs.declared.Call.{Call}
use Rattle.calls.specs.declared.Refusal.{Refusal}
use Rattle.model.specs.State.{State}
use Rattle.engine.specs.Applied.{Applied}
use Rattle.theory.proofs.Lawful.{lawful}
use Rattle.store.specs.Performed.{Performed}

pub performed : (h a : ℕ) (c : Call) (s : State) (r : Result Answer Refusal) (t : State) → 1 ≤ h → h ≤ 128 → 1 ≤ a → a ≤ 128
    → Applied c s r t → Performed h a c s r t
performed h a c s r t h₁ h₂ a₁ a₂ done = record { answered = done.answered; after = done.after; lawful = lawful h a c s t h₁ h₂ a₁ a₂ done.after }
