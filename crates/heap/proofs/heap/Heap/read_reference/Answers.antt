use Rattle.std.proofs.Common.{Some, ap, ◌∙◌}
use Rattle.heap.proofs.Found.{read_ref}
use Rattle.heap.proofs.heap.Heap.read_reference.Goals as goal

pub returns : goal.returns
returns c =
    let h = c.args.self.now in
    ap Some c.word.ensures ∙ read_ref h.pages.entries h.words c.args.n c.in_ok-g.g c.in_ok-g.s c.in_ok-g.j h.count h.tall h.wide c.args.f c.in_ok-g.ensures
