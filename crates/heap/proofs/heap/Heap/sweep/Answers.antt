use Rattle.pages.specs.Entries.{pages_of}
use Rattle.heap.specs.View.{view}
use Rattle.heap.proofs.Sweeping.{leaves_marked}
use Rattle.heap.proofs.heap.Heap.sweep.Goals as goal

pub returns : goal.returns
returns c =
    let h = c.args.self.now in
    let e = c.sweep.ensures.view h.words h.tall in
    record { view = e; leaves = leaves_marked (view h) (pages_of c.sweep.new.self.entries h.words) c.args.page e }
