use Rattle.theory.proofs.record_overwritten_in_marking_is_held.Goals as goal
use Rattle.theory.proofs.Examples.{overwritten_in_marking}

pub returns : goal.returns
returns c = overwritten_in_marking
