use Rattle.std.proofs.Common.{get_or, set, sym, ap, ◌∙◌}
use Rattle.calls.specs.declared.Refusal.TheVariants.{NoRoom}
use Rattle.model.specs.State.{State}
use Rattle.model.specs.Making.{barrier}
use Rattle.collector.specs.View.{new_heap}
use Rattle.operations.specs.Parts.{state_of, together}
use Rattle.engine.proofs.Asks.{granted, within}
use Rattle.engine.proofs.Makes.{make_granted}
use Rattle.engine.proofs.engine.EnginePerforms.make.Goals as goal

pub returns : goal.returns
returns g c =
    let e = c.args.self.now in
    let s : State = state_of g.H.Holder.row g.A.Holder.row g.A.Agenda.keys e.parts e.clock e.serial in
    let inside = within s.holder c.args.place c.in_ok-held.field-0 (sym c.held.ensures ∙ c.in_ok-held.was) in
    let number = granted c.make.result NoRoom c.in_ok-number.number (sym c.ok_or.ensures.value ∙ c.in_ok-number.was) in
    let made = make_granted s c.args.place c.args.references c.args.words c.in_ok-number.number inside (sym c.too_large.ensures ∙ c.if-too_large.false) (number ∙ c.make.ensures.number) in
    record {
      answered = sym (ap (λ x. x.1) made);
      after =
          ap (λ h. together h (g.H.Holder.row c.overwrite.new.self.holder) (g.A.Holder.row c.overwrite.new.self.agenda) (g.A.Agenda.keys c.overwrite.new.self.agenda) s.clock s.serial) (c.overwrite.ensures.heap ∙ ap (λ h. barrier h (get_or s.holder c.args.place 0)) c.make.ensures.heap)
          ∙ ap (λ l. together (barrier (new_heap s.heap c.args.references c.args.words) (get_or s.holder c.args.place 0)) l (g.A.Holder.row c.overwrite.new.self.agenda) (g.A.Agenda.keys c.overwrite.new.self.agenda) s.clock s.serial) c.overwrite.ensures.row
          ∙ ap (λ a. together (barrier (new_heap s.heap c.args.references c.args.words) (get_or s.holder c.args.place 0)) (set s.holder c.args.place c.in_ok-number.number) (g.A.Holder.row a) (g.A.Agenda.keys a) s.clock s.serial) c.overwrite.ensures.agenda
          ∙ sym (ap (λ x. x.0) made);
    }
