use Rattle.std.proofs.Common.{◌≡◌, ℕ, Bool, eqb, length, Some, None, Option, sym, ap₂, ◌∙◌, subst, arith, rules}
use Rattle.std.specs.List.{position_from}
use Rattle.model.specs.Pages.{is_uncut}
use Rattle.model.specs.Making.{or_else}
use Rattle.pages.specs.declared.entry.Entry.{Entry}
use Rattle.pages.specs.Choices.{entry_has_room, has_room_for, Low}
use Rattle.pages.proofs.Pages.{first_of_pages, place_low, uncut_entry, room_entry}
use Rattle.pages.proofs.table.Table.page_for.Goals as goal

abbrev is_cut_not : Entry → Bool
is_cut_not e = eqb e.size 0

is : (c : goal.After-or_else)
    → c.or_else.result ≡ or_else (position_from (entry_has_room c.args.size) 0 c.args.self.now.entries) (position_from is_cut_not 0 c.args.self.now.entries)
is c = search rules

low_either : (o p : Option ℕ) → Low o → Low p → Low (or_else o p)
low_either None p a b = b
low_either (Some g) p a b = a

pub returns-clause-page : goal.returns-clause-page
returns-clause-page c wss long =
    let es = c.args.self.now.entries in
    let n : length es ≡ 64 = omega arith in
    is c
    ∙ ap₂ or_else (first_of_pages (has_room_for c.args.size) (entry_has_room c.args.size) (λ e ws. room_entry e ws c.args.size) 0 es wss (omega arith))
    (first_of_pages is_uncut is_cut_not uncut_entry 0 es wss (omega arith))

pub returns-clause-low : goal.returns-clause-low
returns-clause-low c =
    let es = c.args.self.now.entries in
    let n : length es ≡ 64 = omega arith in
    subst Low (sym (is c))
    (low_either (position_from (entry_has_room c.args.size) 0 es) (position_from is_cut_not 0 es)
    (place_low (has_room_for c.args.size) (entry_has_room c.args.size) (λ e ws. room_entry e ws c.args.size) 0 es (omega arith))
    (place_low is_uncut is_cut_not uncut_entry 0 es (omega arith)))
