use Rattle.std.proofs.Common.{arith}
use Rattle.model.specs.Pages.{page_at}
use Rattle.heap.specs.View.{view}
use Rattle.heap.proofs.Counts.{either_way}
use Rattle.heap.proofs.heap.Heap.husks_in.Goals as goal

pub overflow_sub-result : goal.overflow_sub-result
overflow_sub-result c =
    let h = c.args.self.now in
    let e = either_way c.args.page 0 (page_at (view h) c.args.page).slots in
    let a = c.current_in.ensures in
    let b = c.used.ensures h.words h.tall in
    omega arith

pub returns : goal.returns
returns c =
    let h = c.args.self.now in
    let e = either_way c.args.page 0 (page_at (view h) c.args.page).slots in
    let a = c.current_in.ensures in
    let b = c.used.ensures h.words h.tall in
    omega arith
