use Rattle.theory.proofs.record_overwritten_in_roots_is_held.Goals as goal
use Rattle.theory.proofs.Examples.{overwritten_in_roots}

pub returns : goal.returns
returns c = overwritten_in_roots
