use Rattle.theory.proofs.old_number_is_forwarded.Goals as goal
use Rattle.theory.proofs.Examples.{old_number_forwarded}

pub returns : goal.returns
returns c = old_number_forwarded
