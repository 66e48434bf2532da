use Rattle.std.proofs.Common.{◌≡◌, ℕ, List, sym, subst, arith, length}
use Rattle.model.specs.Pages.{Page}
use Rattle.heap.specs.View.{view, write_word}
use Rattle.collector.proofs.Keeps.{Keeps, keep_left, keep_pressed, keep_placed, write_word_keeps}
use Rattle.collector.proofs.collector.Collector.set_word.Goals as goal

kept : (ps qs : List Page) (n w v : ℕ) → qs ≡ write_word ps n w v → Keeps ps qs
kept ps qs n w v e = let K : List Page → Type 0 = λ x. Keeps ps x in subst K (sym e) (write_word_keeps ps n w v)

pub invariant_of-self : goal.invariant_of-self
invariant_of-self c =
    let h = c.args.self.now in
    let ps : List Page = view h.tracing.heap in
    let qs : List Page = view c.write_word.new.self in
    let k = kept ps qs c.args.n c.args.w c.args.v c.write_word.ensures in
    let p = keep_pressed ps qs k h.phase (length h.tracing.work.items) in
    let l = keep_left ps qs k h.phase (length h.tracing.work.items) in
    let s = h.spare in
    let u = h.fuel in
    record {
      spare = omega arith;
      fuel = omega arith;
      sited = keep_placed ps qs k h.phase h.sited;
    }
