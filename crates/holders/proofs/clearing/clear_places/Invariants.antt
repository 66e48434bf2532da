use Rattle.std.proofs.Common.{◌≡◌, take, replicate}
use Rattle.holders.proofs.clearing.clear_places.Given as goal

abbrev pub invariant-loop-i : goal.invariant-loop-i
invariant-loop-i g l = take l.i (g.H.Holder.row l.holder) ≡ replicate l.i 0
