use Rattle.theory.proofs.units_and_work_list_fit.Goals as goal
use Rattle.theory.proofs.RunBounds.{measures}

pub returns : goal.returns
returns c = measures
