use Rattle.theory.proofs.dropped_record_is_freed.Goals as goal
use Rattle.theory.proofs.Examples.{freed}

pub returns : goal.returns
returns c = freed
