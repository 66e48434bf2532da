use Rattle.std.proofs.Common.{sym}
use Rattle.pages.proofs.Views.{slots_lowest}
use Rattle.pages.proofs.entry.Entry.lowest.Goals as goal

pub returns : goal.returns
returns c ws = let e = c.args.self.now in sym (slots_lowest e.size e.closed e.occupied e.marked ws e.below e.few)
