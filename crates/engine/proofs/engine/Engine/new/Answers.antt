use Rattle.std.proofs.Common.{ap, ◌∙◌}
use Rattle.model.specs.State.{State, fresh}
use Rattle.operations.specs.Parts.{together}
use Rattle.engine.proofs.engine.Engine.new.Goals as goal

pub returns : goal.returns
returns g c =
    let s : State = fresh g.H.Holder.PLACES g.A.Holder.PLACES in
    let holder = g.H.Holder.row c.clear_places.new.holder in
    let agenda = g.A.Holder.row c.clear_agenda.new.agenda in
    let keys = g.A.Agenda.keys c.clear_agenda.new.agenda in
    ap (λ x. together x holder agenda keys 0 0) (c.new.ensures g.H.Holder.PLACES g.A.Holder.PLACES)
    ∙ ap (λ x. together s.heap x agenda keys 0 0) c.clear_places.ensures
    ∙ ap (λ x. together s.heap s.holder x keys 0 0) c.clear_agenda.ensures.numbers
    ∙ ap (λ x. together s.heap s.holder s.agenda x 0 0) c.clear_agenda.ensures.keys
