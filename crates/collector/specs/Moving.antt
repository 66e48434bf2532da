-- What comes after a class.
use Rattle.std.specs.Prelude.{ℕ, suc, cond, None, nat_lt}
use Rattle.collector.specs.declared.phase.Phase.{Phase}
use Rattle.collector.specs.declared.phase.Phase.TheVariants.{Idle, Moving}

-- the phase after class `k`
abbrev pub next_of : ℕ → Phase
next_of k = cond (nat_lt (suc k) 20) (Moving (suc k) None) Idle
