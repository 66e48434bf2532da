use Rattle.std.proofs.Common.{refl}
use Rattle.model.proofs.Worked.{worked}
use Rattle.model.proofs.class_count.Goals as goal

pub returns : goal.returns
returns c = record { value = refl; worked = worked }
