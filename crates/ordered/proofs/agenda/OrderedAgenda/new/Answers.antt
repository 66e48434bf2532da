use Rattle.std.proofs.Common.{ap, ◌∙◌, arith}
use Rattle.std.proofs.lemmas.Bool.{both_ways}
use Rattle.std.proofs.lemmas.Grind.{common_steps}
use Rattle.holders.specs.Keys.{keyed}
use Rattle.ordered.specs.Heaps.{tally}
use Rattle.ordered.proofs.Tallies.{tally_none}
use Rattle.ordered.proofs.Agendas.{none_keyed}
use Rattle.ordered.proofs.agenda.OrderedAgenda.new.Goals as goal

pub invariant_of-result-clause-tallied : goal.invariant_of-result-clause-tallied
invariant_of-result-clause-tallied c = let none = ap tally c.new.ensures.keys ∙ tally_none 64 in grind (arith, common_steps)

pub invariant_of-result-clause-entered : goal.invariant_of-result-clause-entered
invariant_of-result-clause-entered c = (
  (λ i l. grind (arith, common_steps)),
  (λ i j h. grind (arith, common_steps)),
  (λ p kp none. both_ways _ (ap (λ v. keyed v p) c.new.ensures.keys ∙ none_keyed 64 p) kp),
)
