use Rattle.std.proofs.Common.{◌≡◌, ℕ, length, sym, subst, arith}
use Rattle.std.proofs.lemmas.List.Edits.{Swapped}
use Rattle.holders.specs.Keys.{keyed, sooner}
use Rattle.ordered.specs.Heaps.{at, Members, Near, Under}
use Rattle.holders.proofs.Orders.{sooner_ranks}
use Rattle.ordered.proofs.Heaps.{sink_step, sink_end, members_swap}
use Rattle.ordered.proofs.heap.sink.Goals as goal

pub returns-then-not-ahead-clause-in_order : goal.returns-then-not-ahead-clause-in_order
returns-then-not-ahead-clause-in_order c =
    let ks = c.args.table.now.keys in
    let f : ℕ → ℕ = at c.loop-i.entries in
    sink_end (sooner ks) (sooner_ranks ks) f f (length c.loop-i.entries) c.loop-i.i c.loop-i.invariant.near
    (λ j p l e. (sooner_ranks ks).chain _ (f c.lesser-below.result) _ (c.lesser-below.ensures.least j p l e) (sym c.if-not-ahead.ensures))

pub loop-i-preserved : goal.loop-i-preserved
loop-i-preserved c =
    let ks = c.args.table.now.keys in
    let f : ℕ → ℕ = at c.loop-i.entries in
    let g : ℕ → ℕ = at c.swap.new.self in
    let i = c.loop-i.i in
    let n = length c.loop-i.entries in
    let long : n ≡ length c.swap.new.self = sym c.swap.ensures.len in
    let m = c.lesser-below.result in
    let places = c.swap.ensures.by_index in
    let sw : Swapped f g m i = (places.0 0, places.1 0, λ k a b. places.2 k 0 a b) in
    let within = c.lesser-below.ensures.within in
    let under = c.lesser-below.ensures.under in record {
      entry = omega arith;
      entered = subst (λ k. Members (keyed ks) g k) long (members_swap n m i within c.loop-i.invariant.entry (keyed ks) f g sw c.loop-i.invariant.entered);
      near = subst (λ k. Near (sooner ks) g k m × Under (sooner ks) g m) long
          (sink_step (sooner ks) (sooner_ranks ks) f g n i m under.0 within under.1 c.loop-i.invariant.near c.lesser-below.ensures.least (sym c.if-not-ahead.ensures) sw);
    }
