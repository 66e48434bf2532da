-- Every call keeps a history orderly.
use Rattle.histories.proofs.Steps.{continues}
use Rattle.histories.proofs.every_history_is_orderly.Goals as goal

pub returns : goal.returns
returns c = continues
