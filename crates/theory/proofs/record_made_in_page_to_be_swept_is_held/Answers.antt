use Rattle.theory.proofs.record_made_in_page_to_be_swept_is_held.Goals as goal
use Rattle.theory.proofs.Examples.{made_in_page_to_be_swept}

pub returns : goal.returns
returns c = made_in_page_to_be_swept
