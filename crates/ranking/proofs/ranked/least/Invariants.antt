use Rattle.std.proofs.Common.{◌≡◌, ◌<◌, ◌≤◌, length, get_or}
use Rattle.std.specs.List.{IsFirstBest}
use Rattle.ranking.proofs.ranked.least.Given as goal

abbrev pub invariant-loop-i : goal.invariant-loop-i
invariant-loop-i g l = record {
  some : 0 < length l.row;
  here : l.best ≡ get_or l.row l.place l.best;
  low : l.place ≤ l.i;
  best : 0 < l.i → IsFirstBest g.T.Ranked.before l.row l.i l.place;
}
