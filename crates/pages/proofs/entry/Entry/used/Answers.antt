use Rattle.std.proofs.Common.{sym}
use Rattle.pages.proofs.Views.{slots_used}
use Rattle.pages.proofs.entry.Entry.used.Goals as goal

pub returns : goal.returns
returns c ws = let e = c.args.self.now in sym (slots_used e.size e.closed e.occupied e.marked ws e.below)
