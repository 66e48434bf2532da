use Rattle.theory.proofs.records_of_events_are_kept.Goals as goal
use Rattle.theory.proofs.Examples.{kept_for_events}

pub returns : goal.returns
returns c = kept_for_events
