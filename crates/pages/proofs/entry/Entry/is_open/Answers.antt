use Rattle.std.proofs.Common.{Bool, not, ◌&&◌, eqb, sym, ap, ◌∙◌}
use Rattle.std.proofs.lemmas.Bool.{and_left, eq-eqb, ne_eqb}
use Rattle.pages.specs.View.{page_view}
use Rattle.pages.proofs.entry.Entry.is_open.Goals as goal

pub returns-then-self-size : goal.returns-then-self-size
unfolding page_view
returns-then-self-size c ws =
    let e = c.args.self.now in
    sym (ap (λ (b : Bool). b && not e.closed) (eq-eqb e.size c.args.size c.if-self-size.true))

pub returns-else-self-size : goal.returns-else-self-size
unfolding page_view
returns-else-self-size c ws =
    let e = c.args.self.now in
    let off = ne_eqb e.size c.args.size c.if-self-size.false in
    off ∙ sym (and_left (eqb e.size c.args.size) (not e.closed) off)
