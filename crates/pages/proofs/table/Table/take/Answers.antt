use Rattle.std.proofs.Common.{◌≡◌, ℕ, ◌/◌, ◌<◌, false, List, [], length, sym, ap, ◌∙◌, subst, arith}
use Rattle.model.specs.Maps.{has}
use Rattle.model.specs.Pages.{lowest_free}
use Rattle.pages.specs.declared.entry.Entry.{Entry}
use Rattle.pages.specs.View.{filled, block_of, region}
use Rattle.pages.specs.Entries.{entry_at, entry_view}
use Rattle.pages.proofs.Pages.{entry_read}
use Rattle.pages.proofs.Taking.{cut_sizes, open_size, open_room, slot_low, slot_off, taken_cut, taken_open}
use Rattle.pages.proofs.table.Table.take.Goals as goal

pub cut_for-requires : goal.cut_for-requires
cut_for-requires c =
    let es = c.args.self.now.entries in
    let l = c.requires.page in
    let n : length es ≡ 64 = omega arith in
    let q = entry_read es c.args.page c.index-self-page.result (omega arith) in
    cut_sizes (entry_at es c.args.page) c.args.size c.requires.room (sym (ap (λ (e : Entry). e.size) q) ∙ c.if-entry-eq0.true)

pub returns-then-entry-eq0 : goal.returns-then-entry-eq0
returns-then-entry-eq0 c =
    let es = c.args.self.now.entries in
    let l = c.requires.page in
    let n : length es ≡ 64 = omega arith in
    let q = entry_read es c.args.page c.index-self-page.result (omega arith) in
    let z = sym (ap (λ (e : Entry). e.size) q) ∙ c.if-entry-eq0.true in
    let b = cut_sizes (entry_at es c.args.page) c.args.size c.requires.room z in
    taken_cut es c.args.page c.cut_for.result c.requires.page n c.args.size c.args.marked z b.0 b.1
    c.cut_for.ensures.view c.cut_for.ensures.one c.cut_for.ensures.size

pub take-requires : goal.take-requires
take-requires c =
    let es = c.args.self.now.entries in
    let g : ℕ = c.args.page in
    let s : ℕ = c.lowest-slot.result in
    let l = c.requires.page in
    let n : length es ≡ 64 = omega arith in
    let q = entry_read es g c.index-self-page.result (omega arith) in
    let a : Entry = entry_at es g in
    let ne : (a.size ≡ 0 → ⊥) = λ z. c.if-entry-eq0.false (ap (λ (e : Entry). e.size) q ∙ z) in
    let low : s ≡ lowest_free (entry_view a []).slots = c.lowest-slot.ensures [] ∙ ap (λ (e : Entry). lowest_free (entry_view e []).slots) q in
    let P : Entry → Type 0 = λ e. (s < 256 / e.size) × (has e.occupied s ≡ false) in
    subst P (sym q) (slot_low a s low (open_room a c.args.size c.requires.room ne), slot_off a s low)

pub returns : goal.returns
returns c =
    let es = c.args.self.now.entries in
    let g : ℕ = c.args.page in
    let s : ℕ = c.lowest-slot.result in
    let l = c.requires.page in
    let n : length es ≡ 64 = omega arith in
    let q = entry_read es g c.index-self-page.result (omega arith) in
    let a : Entry = entry_at es g in
    let ne : (a.size ≡ 0 → ⊥) = λ z. c.if-entry-eq0.false (ap (λ (e : Entry). e.size) q ∙ z) in
    let low : (ws : List ℕ) → s ≡ lowest_free (entry_view a ws).slots =
    λ ws. c.lowest-slot.ensures ws ∙ ap (λ (e : Entry). lowest_free (entry_view e ws).slots) q in
    let size : a.size ≡ c.args.size = open_size a c.args.size c.requires.room ne in
    let S : ℕ → Type 0 = λ z. s < 256 / z in
    taken_open es g c.take.new.self c.requires.page n s c.args.size c.args.marked ne size
    (subst S size (slot_low a s (low []) (open_room a c.args.size c.requires.room ne))) (slot_off a s (low [])) low
    (λ ws. c.take.ensures.view ws ∙ ap (λ (y : Entry). filled (entry_view y ws) s (block_of c.args.marked (region y.size ws s))) q)
    (λ k on no. ap (λ (y : Entry). has y.occupied k) (sym q) ∙ c.take.ensures.more k on no)
    (c.take.ensures.size ∙ ap (λ (y : Entry). y.size) q)
