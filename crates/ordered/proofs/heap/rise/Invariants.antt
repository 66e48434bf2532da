use Rattle.std.proofs.Common.{◌<◌, length}
use Rattle.holders.specs.Keys.{sooner}
use Rattle.ordered.specs.Heaps.{at, Entered, InOrderBut, Above}
use Rattle.ordered.proofs.heap.rise.Given as goal

abbrev pub invariant-loop-i : goal.invariant-loop-i
invariant-loop-i l = record {
  entry : l.i < length l.entries;
  entered : Entered l.table.keys l.entries;
  near : InOrderBut l.table.keys l.entries l.i × Above (sooner l.table.keys) (at l.entries) (length l.entries) l.i;
}

abbrev pub decreases-loop-i : goal.decreases-loop-i
decreases-loop-i l = l.i
