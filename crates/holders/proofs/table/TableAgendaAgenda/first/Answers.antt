use Rattle.std.proofs.Common.{ℕ, List, length, Option, sym, ◌∙◌, arith}
use Rattle.std.specs.List.{IsFirstBest}
use Rattle.ranking.specs.Orders.{Least}
use Rattle.ranking.proofs.Leasts.{best_from_least}
use Rattle.holders.specs.declared.key.Key.{Key}
use Rattle.holders.specs.Keys.{before_key}
use Rattle.holders.proofs.Orders.{bearing_ranks}
use Rattle.holders.proofs.Firsts.{first_at_best, first_none_best}
use Rattle.holders.proofs.table.TableAgendaAgenda.first.Goals as goal
use Rattle.holders.proofs.table.TableAgendaAgenda.first.Goals.{in_default-via-in-Some+else-is_some, in_default-via-in_default}
use Rattle.std.proofs.lemmas.Grind.{common_steps}

best : (ks : List (Option Key)) (b : ℕ) → Least before_key ks b → IsFirstBest before_key ks (length ks) b
best = best_from_least before_key bearing_ranks

pub returns-in-Some-clause-value : goal.returns-in-Some-clause-value
returns-in-Some-clause-value c =
    let ks = c.args.self.now.keys in
    let b = c.in-Some.place in
    first_at_best ks b (best ks b c.in-Some.ensures.least) (sym c.if-is_some.ensures)

pub returns-in_default-clause-value : goal.returns-in_default-clause-value
returns-in_default-clause-value c =
    let ks = c.args.self.now.keys in
    elim c.in_default.branch [
      | in_default-via-in-Some+else-is_some w ↦
          let b = w.in-Some.place in
          c.count.ensures ∙ sym c.args.self.now.deep ∙ sym (first_none_best ks b (best ks b w.in-Some.ensures.least) (sym w.if-is_some.ensures))
      | in_default-via-in_default w ↦ grind (arith, common_steps)
    ]
