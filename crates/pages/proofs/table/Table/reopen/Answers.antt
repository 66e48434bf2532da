use Rattle.std.proofs.Common.{◌≡◌, false, length, get_or, refl, arith}
use Rattle.model.specs.Pages.{with_closed}
use Rattle.pages.proofs.Pages.{changed, unchanged, closed_view}
use Rattle.pages.proofs.table.Table.reopen.Goals as goal

pub returns-then-page-lt64 : goal.returns-then-page-lt64
returns-then-page-lt64 c =
    let n : length c.args.self.now.entries ≡ 64 = omega arith in
    let x = c.index-self-page.result in
    changed (λ p. with_closed p false) c.args.self.now.entries c.args.page x _ n c.if-page-lt64.true
    (λ ws. closed_view (get_or c.args.self.now.entries c.args.page x) false ws) (λ s on. (on, refl))

pub returns-else-page-lt64 : goal.returns-else-page-lt64
returns-else-page-lt64 c =
    let n : length c.args.self.now.entries ≡ 64 = omega arith in
    unchanged (λ p. with_closed p false) c.args.self.now.entries c.args.page n c.if-page-lt64.false
