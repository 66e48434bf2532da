use Rattle.std.proofs.Common.{◌≡◌, ℕ, ◌<◌, length, sym, subst, arith}
use Rattle.std.proofs.lemmas.List.Edits.{Swapped}
use Rattle.holders.specs.Keys.{keyed, sooner}
use Rattle.ordered.specs.Heaps.{up, at, Members, Near, Above}
use Rattle.holders.proofs.Orders.{sooner_ranks}
use Rattle.ordered.proofs.Heaps.{rise_step, members_swap}
use Rattle.ordered.proofs.heap.rise.Goals as goal

pub loop-i-preserved : goal.loop-i-preserved
loop-i-preserved c =
    let ks = c.args.table.now.keys in
    let f : ℕ → ℕ = at c.loop-i.entries in
    let g : ℕ → ℕ = at c.swap.new.self in
    let i = c.loop-i.i in
    let n = length c.loop-i.entries in
    let long : n ≡ length c.swap.new.self = sym c.swap.ensures.len in
    let places = c.swap.ensures.by_index in
    let sw : Swapped f g i (up i) = (places.0 0, places.1 0, λ m a b. places.2 m 0 a b) in
    let l = c.loop-i.invariant.entry in
    let u : up i < n = omega arith in record {
      entry = omega arith;
      entered = subst (λ m. Members (keyed ks) g m) long (members_swap n i (up i) l u (keyed ks) f g sw c.loop-i.invariant.entered);
      near = subst (λ m. Near (sooner ks) g m (up i) × Above (sooner ks) g m (up i)) long
          (rise_step (sooner ks) (sooner_ranks ks) f g n i c.loop-i-test.true l c.loop-i.invariant.near (sym c.if-not-ahead.ensures) sw);
    }
