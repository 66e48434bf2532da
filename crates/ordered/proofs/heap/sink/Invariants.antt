use Rattle.std.proofs.Common.{◌-◌, ◌<◌, length}
use Rattle.holders.specs.Keys.{sooner}
use Rattle.ordered.specs.Heaps.{at, Entered, InOrderBut, Under}
use Rattle.ordered.proofs.heap.sink.Given as goal

abbrev pub invariant-loop-i : goal.invariant-loop-i
invariant-loop-i l = record {
  entry : l.i < length l.entries;
  entered : Entered l.table.keys l.entries;
  near : InOrderBut l.table.keys l.entries l.i × Under (sooner l.table.keys) (at l.entries) l.i;
}

abbrev pub decreases-loop-i : goal.decreases-loop-i
decreases-loop-i l = length l.entries - l.i
