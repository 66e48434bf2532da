use Rattle.theory.proofs.record_made_in_swept_page_is_held.Goals as goal
use Rattle.theory.proofs.Examples.{made_in_swept_page}

pub returns : goal.returns
returns c = made_in_swept_page
