use Rattle.std.proofs.Common.{refl}
use Rattle.pages.proofs.Pages.{all_uncut, none_held}
use Rattle.pages.proofs.table.Table.new.Goals as goal

pub returns : goal.returns
returns c =
    let e = c.uncut.result in
    let h = c.uncut.ensures in
    record { count = refl; view = λ wss l. all_uncut 64 e h.0 h.1 h.2 h.3 wss l; empty = none_held 64 e h.2 }
