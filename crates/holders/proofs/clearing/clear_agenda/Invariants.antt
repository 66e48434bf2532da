use Rattle.std.proofs.Common.{◌≡◌, take, replicate, None}
use Rattle.holders.proofs.clearing.clear_agenda.Given as goal

abbrev pub invariant-loop-i : goal.invariant-loop-i
invariant-loop-i g l = record {
  numbers : g.A.Holder.row l.agenda ≡ replicate g.A.Holder.PLACES 0;
  keys : take l.i (g.A.Agenda.keys l.agenda) ≡ replicate l.i None;
}
