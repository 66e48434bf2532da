use Rattle.std.proofs.Common.{arith}
use Rattle.std.proofs.lemmas.Grind.{common_steps}
use Rattle.std.proofs.lemmas.Option.{gets}
use Rattle.holders.proofs.Words.{first_stands}
use Rattle.ordered.proofs.Agendas.{first_empty, first_root}
use Rattle.ordered.proofs.agenda.OrderedAgendaAgenda.first.Goals as goal

pub returns-clause-value : goal.returns-clause-value
returns-clause-value c =
    let none = first_empty c.args.self.now in
    let some = first_root c.args.self.now in
    grind (arith, common_steps, gets)

pub returns-clause-least : goal.returns-clause-least
returns-clause-least c = first_stands _ _ (returns-clause-value c)
