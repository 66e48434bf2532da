use Rattle.std.proofs.Common.{◌≡◌, ℕ, length, drop}
use Rattle.model.specs.Pages.{block_at, refs_of}
use Rattle.model.specs.State.{Phase}
use Rattle.model.specs.Units.{scan}
use Rattle.heap.specs.View.{view}
use Rattle.collector.specs.Tracing.{tally, traced}
use Rattle.collector.proofs.tracing.Tracing.scan.Given as goal

abbrev pub invariant-loop-f : goal.invariant-loop-f
invariant-loop-f l =
    (tally l.self ≡ tally l.initial.self)
    × (length (refs_of (block_at (view l.self.heap) l.n)) ≡ length (refs_of (block_at (view l.initial.self.heap) l.n)))
    × ((at : Phase) (units : ℕ) → scan (drop l.f (refs_of (block_at (view l.self.heap) l.n))) (traced l.self at units) l.n l.f
    ≡ scan (refs_of (block_at (view l.initial.self.heap) l.n)) (traced l.initial.self at units) l.n 0)
