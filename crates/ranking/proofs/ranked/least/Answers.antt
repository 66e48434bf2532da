use Rattle.std.proofs.Common.{◌≡◌, length, subst, arith}
use Rattle.std.specs.List.{IsFirstBest}
use Rattle.ranking.proofs.Leasts.{least_at}
use Rattle.ranking.proofs.ranked.least.Goals as goal

pub returns-clause-value : goal.returns-clause-value
returns-clause-value g c =
    let xs = c.args.row.now in
    let e : c.loop-i.i ≡ length xs = omega arith in
    least_at g.T.Ranked.before xs c.loop-i.place (subst (λ n. IsFirstBest g.T.Ranked.before xs n c.loop-i.place) e (c.loop-i.invariant.best (omega arith)))
