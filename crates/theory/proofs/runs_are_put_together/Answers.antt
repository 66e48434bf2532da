use Rattle.theory.proofs.runs_are_put_together.Goals as goal
use Rattle.theory.proofs.Joints.{joined}

pub returns : goal.returns
returns c = joined
