use Rattle.std.proofs.Common.{◌≡◌, length, arith}
use Rattle.model.specs.Units.{swept}
use Rattle.pages.proofs.Pages.{changed, unchanged}
use Rattle.pages.proofs.table.Table.sweep.Goals as goal

pub returns-then-page-lt64 : goal.returns-then-page-lt64
returns-then-page-lt64 c =
    let n : length c.args.self.now.entries ≡ 64 = omega arith in
    changed swept c.args.self.now.entries c.args.page c.index-self-page.result c.sweep.new.self n c.if-page-lt64.true c.sweep.ensures.view c.sweep.ensures.fewer

pub returns-else-page-lt64 : goal.returns-else-page-lt64
returns-else-page-lt64 c =
    let n : length c.args.self.now.entries ≡ 64 = omega arith in
    unchanged swept c.args.self.now.entries c.args.page n c.if-page-lt64.false
