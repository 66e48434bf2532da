use Rattle.std.proofs.Common.{◌≡◌, ℕ, List, reverse, sym, refl, ap, ◌∙◌, arith}
use Rattle.model.specs.Pages.{Page, block_at, refs_of}
use Rattle.model.specs.Units.{grey}
use Rattle.heap.specs.Blocks.{write_ref}
use Rattle.heap.specs.View.{view}
use Rattle.collector.specs.Counts.{white}
use Rattle.collector.specs.Tracing.{rescan_at, traced}
use Rattle.collector.proofs.Keeps.{write_ref_keeps}
use Rattle.collector.proofs.Scans.{there, index_past, write_past}
use Rattle.collector.proofs.tracing.Tracing.rescan.Goals as goal

-- a write greys nothing
same : (ps qs : List Page) (n f v : ℕ) → qs ≡ write_ref ps n f v → white qs ≡ white ps
same ps qs n f v e = ap white e ∙ (write_ref_keeps ps n f v).whites

pub grey-requires : goal.grey-requires
grey-requires c =
    let w = same (view c.args.self.now.heap) (view c.write_reference.new.self) c.args.n c.args.f c.current-v.result c.write_reference.ensures in
    omega arith

pub returns-in-Some : goal.returns-in-Some
returns-in-Some c =
    let h = c.args.self.now in
    let w = same (view h.heap) (view c.write_reference.new.self) c.args.n c.args.f c.current-v.result c.write_reference.ensures in
    record {
      heap = λ at units.
          c.grey.ensures.heap at units
          ∙ ap (λ (ps : List Page). grey (record { pages = ps; work = reverse h.work.items; phase = at; units = units }) c.in-Some.r)
          (c.write_reference.ensures ∙ ap (write_ref (view h.heap) c.args.n c.args.f) c.current-v.ensures)
          ∙ ap (rescan_at (traced h at units) c.args.n c.args.f) (sym (there (refs_of (block_at (view h.heap) c.args.n)) c.args.f c.in-Some.r c.in-Some.ensures));
      tally = omega (arith, c.grey.ensures.tally);
    }

pub returns-in_default : goal.returns-in_default
returns-in_default c =
    let h = c.args.self.now in
    let refs = refs_of (block_at (view h.heap) c.args.n) in
    record {
      heap = λ at units.
          sym (ap (rescan_at (traced h at units) c.args.n c.args.f) (index_past refs c.args.f c.in_default.ensures)
          ∙ ap (λ (ps : List Page). record { pages = ps; work = reverse h.work.items; phase = at; units = units }) (write_past (view h.heap) c.args.n c.args.f 0 c.in_default.ensures));
      tally = refl;
    }
