use Rattle.std.proofs.Common.{◌≡◌, ℕ, length, None, sym, refl, subst, arith, rules}
use Rattle.pages.specs.Entries.{pages_of}
use Rattle.pages.specs.Choices.{Targeted}
use Rattle.pages.proofs.Choices.{target_law, target_none}
use Rattle.pages.proofs.Taking.{bare, takes_room}
use Rattle.pages.proofs.table.Table.take_target.Goals as goal

pub returns-in_err-page-clause-chosen : goal.returns-in_err-page-clause-chosen
returns-in_err-page-clause-chosen c wss long =
    let ps = pages_of c.args.self.now.entries wss in
    let none : c.from_residual.result ≡ None = search rules in
    subst (Targeted ps c.args.size) (sym none) (target_none ps c.args.size (sym (c.in_err-page.ensures.page wss long)))

pub take-requires-clause-room : goal.take-requires-clause-room
take-requires-clause-room c =
    let es = c.args.self.now.entries in
    let n : length es ≡ 64 = omega arith in
    let x : ℕ × ℕ = (c.in_ok-page.field-0-0, c.in_ok-page.page) in
    takes_room es n c.in_ok-page.page c.in_ok-page.ensures.low c.args.size
    (target_law (pages_of es bare) c.args.size x (sym (c.in_ok-page.ensures.page bare refl))).1.takes

pub returns-clause-chosen : goal.returns-clause-chosen
returns-clause-chosen c wss long =
    let x : ℕ × ℕ = (c.in_ok-page.field-0-0, c.in_ok-page.page) in
    (target_law (pages_of c.args.self.now.entries wss) c.args.size x (sym (c.in_ok-page.ensures.page wss long))).1
