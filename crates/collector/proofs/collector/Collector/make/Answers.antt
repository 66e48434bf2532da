use Rattle.std.proofs.Common.{◌≡◌, List, sym, refl, ap, ◌∙◌, subst, arith, length}
use Rattle.model.specs.Pages.{Page}
use Rattle.model.specs.State.{with_pages}
use Rattle.heap.specs.View.{view, new_pages}
use Rattle.collector.specs.View.{heap_of}
use Rattle.collector.proofs.Makes.{Harmless, made_harmless, made_heap}
use Rattle.collector.proofs.collector.Collector.make.Goals as goal

pub invariant_of-self : goal.invariant_of-self
invariant_of-self c =
    let h = c.args.self.now in
    let qs : List Page = view c.make.new.self in
    let e : qs ≡ new_pages (view h.tracing.heap) c.args.r c.args.d c.mark_from-from.result = c.make.ensures.view in
    let H : List Page → Type 0 = λ x. Harmless h.tracing.heap c.args.r c.args.d c.mark_from-from.result h.targets (length h.tracing.work.items) h.phase c.mark_from-from.ensures h.sited x in
    let k = subst H (sym e) (made_harmless h.tracing.heap c.args.r c.args.d c.mark_from-from.result h.targets (length h.tracing.work.items) h.phase c.mark_from-from.ensures h.sited) in
    let a = k.lefts in
    let b = k.presses in
    let u = h.fuel in
    let v = h.spare in
    record {
      spare = omega arith;
      fuel = omega arith;
      sited = k.places;
    }

pub returns-clause-heap : goal.returns-clause-heap
returns-clause-heap c =
    let h = c.args.self.now in
    ap (with_pages (heap_of h)) c.make.ensures.view
    ∙ made_heap h.tracing.heap c.args.r c.args.d c.mark_from-from.result h.targets (length h.tracing.work.items) h.phase c.mark_from-from.ensures h.sited (heap_of h) refl refl
