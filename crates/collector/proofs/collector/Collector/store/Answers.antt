use Rattle.std.proofs.Common.{◌≡◌, ℕ, List, length, sym, subst, arith}
use Rattle.model.specs.Pages.{Page}
use Rattle.heap.specs.Blocks.{write_ref}
use Rattle.heap.specs.View.{view}
use Rattle.collector.proofs.Keeps.{Keeps, keep_left, keep_pressed, keep_placed, write_ref_keeps}
use Rattle.collector.specs.View.{heap_of}
use Rattle.collector.proofs.Scans.{stored_past}
use Rattle.collector.proofs.collector.Collector.store.Goals as goal

kept : (ps qs : List Page) (n f v : ℕ) → qs ≡ write_ref ps n f v → Keeps ps qs
kept ps qs n f v e = let K : List Page → Type 0 = λ x. Keeps ps x in subst K (sym e) (write_ref_keeps ps n f v)

pub invariant_of-self : goal.invariant_of-self
invariant_of-self c =
    let h = c.barrier.new.self in
    let ps : List Page = view h.tracing.heap in
    let qs : List Page = view c.write_reference.new.self in
    let k = kept ps qs c.args.n c.args.f c.args.v c.write_reference.ensures in
    let p = keep_pressed ps qs k h.phase (length h.tracing.work.items) in
    let l = keep_left ps qs k h.phase (length h.tracing.work.items) in
    let s = h.spare in
    let u = h.fuel in
    record {
      spare = omega arith;
      fuel = omega arith;
      sited = keep_placed ps qs k h.phase h.sited;
    }

pub returns-in_default : goal.returns-in_default
returns-in_default c = sym (stored_past (heap_of c.args.self.now) c.args.n c.args.f c.args.v c.in_default.ensures)
