use Rattle.std.proofs.Common.{◌≡◌, ℕ, ◌<◌, true, [], length, get_or, sym, refl, ap, ◌∙◌, subst, arith}
use Rattle.std.proofs.lemmas.Bool.{ltb-true}
use Rattle.model.specs.Maps.{has}
use Rattle.model.specs.Pages.{Page, with_closed}
use Rattle.pages.specs.declared.entry.Entry.{Entry}
use Rattle.pages.specs.Entries.{pages_of, entry_at}
use Rattle.pages.specs.Choices.{Source}
use Rattle.pages.proofs.Pages.{changed, entry_read, page_of_entry}
use Rattle.pages.proofs.Choices.{source_law}
use Rattle.pages.proofs.Sizes.{a_class, size_between}
use Rattle.pages.proofs.Taking.{bare, size_view}
use Rattle.pages.proofs.table.Table.close_source.Goals as goal

pub close-requires : goal.close-requires
close-requires c =
    let es = c.args.self.now.entries in
    let g : ℕ = c.in_ok-used.page in
    let size : ℕ = c.in_ok-size.field-0.size in
    let l : g < 64 = c.in_ok-used.ensures.low in
    let n : length es ≡ 64 = omega arith in
    let s = (source_law (pages_of es bare) size c.args.targets (c.in_ok-used.used, g) (sym (c.in_ok-used.ensures.page bare refl))).1.class in
    let e : (get_or es g c.index-self-page.result).size ≡ size =
    ap (λ (y : Entry). y.size) (entry_read es g c.index-self-page.result (omega arith))
    ∙ sym (ap (λ (p : Page). p.size) (page_of_entry es bare g (n, refl) l) ∙ size_view (entry_at es g) (get_or bare g []))
    ∙ s in
    let k = a_class c.args.class c.in_ok-size.field-0 c.in_ok-size.ensures.class in
    let b = (size_between c.args.class (ltb-true c.args.class 20 k.0)).0 in
    let is = k.1 in
    omega arith

pub returns-clause-change : goal.returns-clause-change
returns-clause-change c =
    let es = c.args.self.now.entries in
    let n : length es ≡ 64 = omega arith in
    let m = c.close.ensures in
    changed (λ p. with_closed p true) es c.in_ok-used.page c.index-self-page.result c.close.new.self n c.in_ok-used.ensures.low m.view
    (λ s on. (sym (ap (λ (o : ℕ). has o s) m.occupied) ∙ on, m.size))

pub returns-clause-chosen : goal.returns-clause-chosen
returns-clause-chosen c wss long =
    let ps = pages_of c.args.self.now.entries wss in
    let g : ℕ = c.in_ok-used.page in
    let k = a_class c.args.class c.in_ok-size.field-0 c.in_ok-size.ensures.class in
    let P : ℕ → Type 0 = λ z. Source ps z c.args.targets g in
    subst P k.1 (source_law ps c.in_ok-size.field-0.size c.args.targets (c.in_ok-used.used, g) (sym (c.in_ok-used.ensures.page wss long))).1
