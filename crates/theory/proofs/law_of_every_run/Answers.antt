use Rattle.theory.proofs.law_of_every_run.Goals as goal
use Rattle.theory.proofs.Law.{law}

pub returns : goal.returns
returns c = law
