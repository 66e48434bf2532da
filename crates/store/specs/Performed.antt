-- What it is that a store performs a call.
use Rattle.std.specs.Prelude.{◌≡◌, ℕ, Result}
use Rattle.calls.specs.declared.Answer.{Answer}
use Rattle.calls.specs.declared.Call.{Call}
use Rattle.calls.specs.declared.Refusal.{Refusal}
use Rattle.model.specs.State.{State}
use Rattle.model.specs.Calls.{apply}
use Rattle.model.specs.Law.{Lawful}

-- with `h` and `a` places: the answer and the state after it are those of the definitions, and the law is upheld
pub record Performed (h a : ℕ) (c : Call) (s : State) (r : Result Answer Refusal) (t : State) : Type 0 where
  pub answered : r ≡ (apply c s).1
  pub after : t ≡ (apply c s).0
  pub lawful : Lawful h a c s t
