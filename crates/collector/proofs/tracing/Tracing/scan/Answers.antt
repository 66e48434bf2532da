use Rattle.std.proofs.Common.{ℕ, get_or, ap, ◌∙◌, arith}
use Rattle.model.specs.Pages.{block_at, refs_of}
use Rattle.model.specs.State.{idle}
use Rattle.heap.specs.View.{view}
use Rattle.collector.specs.Tracing.{traced}
use Rattle.collector.proofs.Scans.{scan_step, scan_count}
use Rattle.collector.proofs.tracing.Tracing.scan.Goals as goal

pub loop-f-preserved : goal.loop-f-preserved
loop-f-preserved c =
    let h = c.loop-f.self in
    let k = c.rescan.new.self in
    let i = c.loop-f.invariant.1 in
    let n = ap (λ (p : ℕ × ℕ). p.0) c.shape-count.ensures in
    let t = c.loop-f-test.true in (
      c.rescan.ensures.tally ∙ c.loop-f.invariant.0,
      scan_count (traced h idle 0) (traced k idle 0) c.args.n c.loop-f.f (get_or (refs_of (block_at (view h.heap) c.args.n)) c.loop-f.f 0) (c.rescan.ensures.heap idle 0) ∙ c.loop-f.invariant.1,
      λ at units. scan_step (traced h at units) (traced k at units) c.args.n c.loop-f.f (omega arith) (c.rescan.ensures.heap at units) ∙ c.loop-f.invariant.2 at units,
    )
