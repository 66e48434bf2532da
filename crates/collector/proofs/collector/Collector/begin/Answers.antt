use Rattle.std.proofs.Common.{length, ap, arith}
use Rattle.collector.proofs.Sounds.{white_bound}
use Rattle.collector.proofs.collector.Collector.begin.Goals as goal

pub invariant_of-self : goal.invariant_of-self
invariant_of-self c =
    let h = c.args.self.now in
    let w = white_bound h.tracing.heap in
    let none = ap length c.clear.ensures in
    record {
      spare = omega arith;
      fuel = omega arith;
      sited = omega arith;
    }
