use Rattle.heap.proofs.Copying.{Copying}
use Rattle.heap.proofs.heap.moving.copy_block.Given as goal

abbrev pub invariant-loop-k : goal.invariant-loop-k
invariant-loop-k l = Copying l.initial.words l.words l.from.0 l.from.1 l.to.0 l.to.1 l.k
