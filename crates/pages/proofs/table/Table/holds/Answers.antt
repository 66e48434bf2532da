use Rattle.std.proofs.Common.{rules}
use Rattle.pages.proofs.Bits.{has_none}
use Rattle.pages.proofs.table.Table.holds.Goals as goal

pub returns : goal.returns
returns c = search (rules, has_none)
