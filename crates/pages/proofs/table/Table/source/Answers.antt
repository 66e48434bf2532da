use Rattle.std.proofs.Common.{◌≡◌, ℕ, Bool, not, ◌&&◌, List, [], length, get_or, Option, sym, refl, ap, ◌∙◌, arith, rules}
use Rattle.model.specs.Maps.{has}
use Rattle.model.specs.Pages.{Page, page_at, in_class, occupied}
use Rattle.pages.specs.Entries.{pages_of, entry_at, entry_view}
use Rattle.pages.specs.Choices.{source_figure}
use Rattle.pages.proofs.Pages.{pages_long, page_of_entry}
use Rattle.pages.proofs.Least.{least_figures}
use Rattle.pages.proofs.table.Table.source.Goals as goal

pub returns-clause-page : goal.returns-clause-page
returns-clause-page c wss long =
    let es = c.args.self.now.entries in
    let n : length es ≡ 64 = omega arith in
    let ps : List Page = pages_of es wss in
    let test : ℕ → Page → Bool = λ g p. in_class c.args.size p && not (has c.args.targets g) in
    let m : Page → ℕ = λ p. occupied p.slots in
    let h : ℕ → Option ℕ = λ k. source_figure c.args.size c.args.targets k (page_at ps k) in
    c.least_by.ensures.page h
    (λ k o l p.
    let is : o ≡ source_figure c.args.size c.args.targets k (entry_view (entry_at es k) (get_or wss k [])) = search rules in
    is ∙ sym (ap (source_figure c.args.size c.args.targets k) (page_of_entry es wss k (n, long) l)))
    ∙ least_figures test m ps h (pages_long es wss (n, long)) (λ k l. refl)
