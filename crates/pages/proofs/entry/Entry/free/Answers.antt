use Rattle.std.proofs.Common.{◌≡◌, ℕ, ◌/◌, [], ap, ◌∙◌, arith}
use lib.Count.{ones-le}
use Rattle.pages.proofs.Views.{slots_used, slots_free}
use Rattle.pages.proofs.entry.Entry.free.Goals as goal

pub overflow_sub-result : goal.overflow_sub-result
overflow_sub-result c =
    let e = c.args.self.now in
    let u = c.used.ensures [] ∙ slots_used e.size e.closed e.occupied e.marked [] e.below in
    let l = ones-le (256 / e.size) e.occupied e.below in
    omega arith

pub returns-then-self-eq0 : goal.returns-then-self-eq0
returns-then-self-eq0 c =
    let e = c.args.self.now in
    record {
      free = λ ws.
          let f = slots_free e.size e.closed e.occupied e.marked ws e.below in
          let z : 256 / e.size ≡ 0 = ap (λ (x : ℕ). 256 / x) c.if-self-eq0.true in
          omega arith;
      few = omega arith;
    }

pub returns-else-self-eq0 : goal.returns-else-self-eq0
returns-else-self-eq0 c =
    let e = c.args.self.now in
    let k = e.few in
    record {
      free = λ ws.
          let f = slots_free e.size e.closed e.occupied e.marked ws e.below in
          let u = c.used.ensures ws ∙ slots_used e.size e.closed e.occupied e.marked ws e.below in
          omega arith;
      few = omega arith;
    }
