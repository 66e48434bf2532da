use Rattle.std.proofs.Common.{◌≡◌, ℕ, length, get_or, sym, ap, ◌∙◌, arith}
use Rattle.model.specs.Maps.{has}
use Rattle.pages.specs.declared.entry.Entry.{Entry}
use Rattle.pages.specs.Entries.{mark_slot, entry_at}
use Rattle.pages.proofs.Pages.{changed, kept, marked_entry, unmarked_slot, entry_read, held_low}
use Rattle.pages.proofs.table.Table.mark.Goals as goal

pub bounds-self-page : goal.bounds-self-page
bounds-self-page c =
    let es = c.args.self.now.entries in
    (held_low es c.args.page c.args.slot (omega arith) (sym c.holds.ensures ∙ c.if-holds.true)).0

pub listed : goal.listed
listed c =
    let es = c.args.self.now.entries in
    let n : length es ≡ 64 = omega arith in
    let l = (held_low es c.args.page c.args.slot n (sym c.holds.ensures ∙ c.if-holds.true)).0 in
    omega arith

pub offset_bounds-self-page : goal.offset_bounds-self-page
offset_bounds-self-page c =
    let es = c.args.self.now.entries in
    let l = (held_low es c.args.page c.args.slot (omega arith) (sym c.holds.ensures ∙ c.if-holds.true)).0 in
    omega arith

pub mark-requires : goal.mark-requires
mark-requires c =
    let es = c.args.self.now.entries in
    let n : length es ≡ 64 = omega arith in
    let on = sym c.holds.ensures ∙ c.if-holds.true in
    let low = held_low es c.args.page c.args.slot n on in
    let l = low.0 in
    (low.1, ap (λ (e : Entry). has e.occupied c.args.slot) (entry_read es c.args.page c.index-self-page.result (omega arith)) ∙ on)

pub returns-then-holds : goal.returns-then-holds
returns-then-holds c =
    let es = c.args.self.now.entries in
    let x = c.index-self-page.result in
    let n : length es ≡ 64 = omega arith in
    let on = sym c.holds.ensures ∙ c.if-holds.true in
    let low = held_low es c.args.page c.args.slot n on in
    let l = low.0 in
    let m = c.mark.ensures in
    changed (λ p. mark_slot p c.args.slot) es c.args.page x c.mark.new.self n low.0
    (λ ws. marked_entry (get_or es c.args.page x) c.mark.new.self ws c.args.slot
    (ap (λ (e : Entry). has e.occupied c.args.slot) (entry_read es c.args.page x (omega arith)) ∙ on) m.size m.closed m.occupied m.marked)
    (λ s on. (sym (ap (λ (o : ℕ). has o s) m.occupied) ∙ on, m.size))

pub returns-else-holds : goal.returns-else-holds
returns-else-holds c =
    let es = c.args.self.now.entries in
    let n : length es ≡ 64 = omega arith in
    kept (λ p. mark_slot p c.args.slot) es c.args.page n
    (λ ws. sym (unmarked_slot (entry_at es c.args.page) ws c.args.slot (sym c.holds.ensures ∙ c.if-holds.false)))
