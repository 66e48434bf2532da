-- What holds of a collection under way, and how many units it can still take.
use Rattle.std.specs.Prelude.{◌≡◌, ℕ, ◌+◌, ◌-◌, ◌*◌, ◌<◌, true, List, Some, None, Option, slice_index}
use denote.Struct.Props.{props}
use Rattle.model.specs.Classes.{sizes}
use Rattle.model.specs.Pages.{Page, page_at}
use Rattle.collector.specs.declared.phase.Phase.{Phase}
use Rattle.collector.specs.declared.phase.Phase.TheVariants.{Idle, Roots, Marking, Sweeping, Moving}
use Rattle.collector.specs.Counts.{white, spent, stays}

abbrev pub at_hand : Option ℕ → List Page → ℕ
at_hand None ps = 0
at_hand (Some g) ps = 1 + stays g (page_at ps g)

-- a bound on the units that are left, which each unit lowers and no call raises
abbrev pub left : Phase → List Page → ℕ → ℕ
left Idle ps t = 0
left (Roots i) ps t = 7000 + (65536 - i) + (t + white ps)
left Marking ps t = 7000 + (t + white ps)
left (Sweeping g) ps t = 6800 + (64 - g)
left (Moving k s) ps t = 70 * (64 - spent k ps) + 100 * (20 - k) + at_hand s ps

-- the length of the work list together with the blocks that may still come onto it
abbrev pub pressed : Phase → List Page → ℕ → ℕ
pressed Idle ps t = 0
pressed (Roots i) ps t = t + white ps
pressed Marking ps t = t + white ps
pressed (Sweeping g) ps t = 0
pressed (Moving k s) ps t = 0

-- the page that blocks are moved from is closed and of the class
abbrev pub Source : ℕ → Option ℕ → List Page → Type 0
Source k None ps = Unit {0}
Source k (Some g) ps = (g < 64) × ((page_at ps g).closed ≡ true) × ((page_at ps g).size ≡ slice_index sizes k)

abbrev pub Placed : Phase → List Page → Type 0
Placed Idle ps = Unit {0}
Placed (Roots i) ps = i < 65536
Placed Marking ps = Unit {0}
Placed (Sweeping g) ps = g < 64
Placed (Moving k s) ps = (k < 20) × Source k s ps

-- it holds in one way at most
source_prop : (k : ℕ) (s : Option ℕ) (ps : List Page) → IsProp (Source k s ps)
source_prop k None ps = Prim.hlevel props
source_prop k (Some g) ps = Prim.hlevel props

pub placed_prop : (ph : Phase) (ps : List Page) → IsProp (Placed ph ps)
placed_prop Idle ps = Prim.hlevel props
placed_prop (Roots i) ps = Prim.hlevel props
placed_prop Marking ps = Prim.hlevel props
placed_prop (Sweeping g) ps = Prim.hlevel props
placed_prop (Moving k s) ps = Prim.hlevel (props, source_prop)

-- in these phases blocks come onto the work list
abbrev pub Greys : Phase → Type 0
Greys Idle = ⊥
Greys (Roots i) = Unit {0}
Greys Marking = Unit {0}
Greys (Sweeping g) = ⊥
Greys (Moving k s) = ⊥
