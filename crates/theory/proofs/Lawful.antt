-- A call that does what its definition says prolongs every run lawfully.
use Rattle.std.proofs.Common.{◌≡◌, ℕ, ◌≤◌, [], ◌∷◌, ◌++◌, sym, ap, ◌∙◌}
use Rattle.calls.specs.declared.Call.{Call}
use Rattle.model.specs.State.{State}
use Rattle.model.specs.Calls.{apply}
use Rattle.model.specs.Law.{Lawful}
use Rattle.theory.proofs.Law.{law}
use Rattle.theory.proofs.Joints.{joined}

pub lawful : (h a : ℕ) (c : Call) (s t : State) → 1 ≤ h → h ≤ 128 → 1 ≤ a → a ≤ 128 → t ≡ (apply c s).0 → Lawful h a c s t
lawful h a c s t h₁ h₂ a₁ a₂ e = record {
  leads = λ cs from. (joined h a cs).next_state c ∙ ap (λ x. (apply c x).0) from ∙ sym e;
  upheld = λ cs from. law h a h₁ h₂ a₁ a₂ (cs ++ c ∷ []);
}
