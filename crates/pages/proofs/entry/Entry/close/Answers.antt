use Rattle.std.proofs.Common.{refl}
use Rattle.pages.specs.View.{page_view}
use Rattle.pages.proofs.entry.Entry.close.Goals as goal

pub returns : goal.returns
unfolding page_view
returns c = record { view = λ ws. refl; occupied = refl; size = refl }
