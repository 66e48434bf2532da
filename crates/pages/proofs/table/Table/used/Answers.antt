use Rattle.std.proofs.Common.{◌≡◌, ℕ, List, [], get_or, length, sym, ap, ◌∙◌, inl, inr, arith, rules}
use Rattle.std.proofs.lemmas.Bool.{cases_lt}
use Rattle.std.proofs.lemmas.List.{get_or_past}
use Rattle.model.specs.Pages.{Page, uncut, occupied}
use Rattle.pages.specs.declared.entry.Entry.{Entry}
use Rattle.pages.specs.Entries.{entry_at, entry_view, no_entry}
use Rattle.pages.proofs.Pages.{page_of_entry, page_past, none_used}
use Rattle.pages.proofs.table.Table.used.Goals as goal

pub returns : goal.returns
returns c wss long =
    let es = c.args.self.now.entries in
    let g : ℕ = c.args.page in
    let ws : List ℕ = get_or wss g [] in
    let n : length es ≡ 64 = omega arith in
    let is : c.map_or.result ≡ occupied (entry_view (entry_at es g) ws).slots = search (rules, none_used) in
    elim (cases_lt g 64) [
      | inl l ↦ is ∙ sym (ap (λ (p : Page). occupied p.slots) (page_of_entry es wss g (n, long) l))
      | inr l ↦
          is ∙ ap (λ (e : Entry). occupied (entry_view e ws).slots) (get_or_past es g no_entry (omega arith)) ∙ sym (none_used ws)
          ∙ sym (ap (λ (p : Page). occupied p.slots) (page_past es wss g uncut (omega arith)))
    ]
