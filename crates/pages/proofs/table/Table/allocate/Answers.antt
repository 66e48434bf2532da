use Rattle.std.proofs.Common.{◌≡◌, ℕ, length, Some, None, Option, sym, refl, subst, arith, rules}
use Rattle.pages.specs.Entries.{pages_of}
use Rattle.pages.specs.Choices.{ChosenPage, page_number}
use Rattle.model.specs.Classes.{fitting}
use Rattle.pages.proofs.Sizes.{sized, size_given}
use Rattle.pages.proofs.Choices.{chosen_page, chosen_at}
use Rattle.pages.proofs.Taking.{bare, chosen_room}
use Rattle.pages.proofs.table.Table.allocate.Goals as goal

pub returns-in_err-page-clause-chosen : goal.returns-in_err-page-clause-chosen
returns-in_err-page-clause-chosen c wss long some =
    let ps = pages_of c.args.self.now.entries wss in
    let is = (size_given c.args.words c.in_ok-size.size c.in_ok-size.ensures.size).0 in
    let none : c.from_residual-in_err-page.result ≡ None = search rules in
    let P : Option (ℕ × ℕ) → Type 0 = λ r. ChosenPage ps (fitting c.args.words) (page_number r) in
    subst P (sym none) (chosen_at ps c.args.words c.in_ok-size.size is None (c.in_err-page.ensures.page wss long))

pub take-requires-clause-room : goal.take-requires-clause-room
take-requires-clause-room c =
    let es = c.args.self.now.entries in
    let size : ℕ = c.in_ok-size.size in
    let n : length es ≡ 64 = omega arith in
    let b = sized c.args.words size c.in_ok-size.ensures.smallest (size_given c.args.words size c.in_ok-size.ensures.size).1 in
    let most = b.1 in
    chosen_room es n c.in_ok-page.page c.in_ok-page.ensures.low size b.0 (omega arith)
    (chosen_page (pages_of es bare) size (Some c.in_ok-page.page) (c.in_ok-page.ensures.page bare refl))

pub returns-clause-chosen : goal.returns-clause-chosen
returns-clause-chosen c wss long some =
    let is = (size_given c.args.words c.in_ok-size.size c.in_ok-size.ensures.size).0 in
    chosen_at (pages_of c.args.self.now.entries wss) c.args.words c.in_ok-size.size is (Some c.in_ok-page.page) (c.in_ok-page.ensures.page wss long)
