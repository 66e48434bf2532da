use Rattle.std.proofs.Common.{◌∙◌, ap₂}
use Rattle.pages.specs.Entries.{pages_of}
use Rattle.heap.specs.View.{view}
use Rattle.heap.proofs.Found.{put_ref, ref_past}
use Rattle.heap.proofs.heap.Heap.write_reference.Goals as goal

pub returns-in-Some : goal.returns-in-Some
returns-in-Some c =
    let h = c.args.self.now in
    ap₂ pages_of c.set_word.ensures.entries c.set_word.ensures.words
    ∙ put_ref h.pages.entries h.words c.args.n c.in-Some.g c.in-Some.s c.in-Some.j h.count h.tall h.wide c.args.f c.args.v c.in-Some.ensures

pub returns-in_default : goal.returns-in_default
returns-in_default c = ref_past (view c.args.self.now) c.args.n c.args.f c.args.v c.in_default.ensures
