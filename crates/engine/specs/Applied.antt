-- What it is that a call is performed by its definition.
use Rattle.std.specs.Prelude.{◌≡◌, Result}
use Rattle.calls.specs.declared.Answer.{Answer}
use Rattle.calls.specs.declared.Call.{Call}
use Rattle.calls.specs.declared.Refusal.{Refusal}
use Rattle.model.specs.State.{State}
use Rattle.model.specs.Calls.{apply}

-- the answer and the state after it are those of the definitions
pub record Applied (c : Call) (s : State) (r : Result Answer Refusal) (t : State) : Type 0 where
  pub answered : r ≡ (apply c s).1
  pub after : t ≡ (apply c s).0
