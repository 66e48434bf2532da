use Rattle.std.proofs.Common.{◌≡◌, Bool, eqb, length, ◌∙◌, rules, tests, arith}
use Rattle.std.proofs.lemmas.Iterator.{YieldsList-from_slice}
use Rattle.std.proofs.lemmas.Iterator.Consumers.{count_from_yields_List, YieldsList-from_filter}
use Rattle.model.specs.Pages.{is_uncut}
use Rattle.pages.specs.declared.entry.Entry.{Entry}
use Rattle.pages.proofs.Pages.{count_of_pages, uncut_entry}
use Rattle.pages.proofs.table.Table.uncut_pages.Goals as goal

pub returns : goal.returns
returns c wss long =
    let es = c.args.self.now.entries in
    let t : Entry → Bool = λ e. eqb e.size 0 in
    let n : length es ≡ 64 = omega arith in
    count_from_yields_List c.filter.result c.count.result c.count.ensures.ran
    (YieldsList-from_filter _ t (YieldsList-from_slice es cc) c.filter.ensures.closure (λ x r q k. search (rules, tests)))
    ∙ count_of_pages is_uncut t uncut_entry es wss (omega arith)
