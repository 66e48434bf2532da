use Rattle.theory.proofs.moved_record_is_read_by_its_old_number.Goals as goal
use Rattle.theory.proofs.Examples.{moved}

pub returns : goal.returns
returns c = moved
