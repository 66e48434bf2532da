-- The order of the events of any history, and the clock.
use Rattle.std.specs.Prelude.{◌≡◌, ℕ, ◌+◌, ◌<◌, ◌≤◌, true, List, [], ◌∷◌, ◌++◌, length}
use Rattle.calls.specs.declared.Call.{Call}
use Rattle.model.specs.Graph.{Event, Graph, Member, before, graph_apply}
use Rattle.histories.specs.Histories.{History, history}

-- newest first: each event comes, by time and then by the order of scheduling, after every event that was taken before it
abbrev pub InOrder : List Event → Type 0
InOrder [] = Unit {0}
InOrder (e ∷ es) = ((x : Event) → Member x es → before x e ≡ true) × InOrder es

-- the time of the event that was taken last, 0 before the first
abbrev pub last_time : List Event → ℕ
last_time [] = 0
last_time (e ∷ es) = e.key.time

-- the agenda has `a` places, `events` are to come and `taken` were taken, by so many schedules and nexts
pub record Orderly (a : ℕ) (events : List Event) (clock serial : ℕ) (taken : List Event) (schedules nexts : ℕ) : Type 0 where
  -- events are taken in order, and those to come all come after those taken
  pub in_order : InOrder taken
  pub ahead : (e x : Event) → Member e events → Member x taken → before x e ≡ true
  -- the clock has the time of the last event taken, and no event to come is before it
  pub on_time : clock ≡ last_time taken
  pub none_missed : (e : Event) → Member e events → clock ≤ e.key.time
  -- the next serial is the number of schedules, so serials stand in the order of scheduling
  pub counted : serial ≡ schedules
  pub used : (e : Event) → Member e events → e.key.serial < serial
  pub used_up : (x : Event) → Member x taken → x.key.serial < serial
  -- each next took one event; those to come are the schedules less the nexts, and never more than the agenda has places
  pub one_each : length taken ≡ nexts
  pub balanced : length events + nexts ≡ schedules
  pub room : length events ≤ a

abbrev pub OrderlyHistory : ℕ → History → Type 0
OrderlyHistory a h = Orderly a h.graph.events h.graph.clock h.graph.serial h.taken h.schedules h.nexts

-- call `c` leads from one graph to another: whatever calls led from an empty graph to the first,
-- with this one they lead to the second, their history is orderly, and the clock does not fall
abbrev pub Continues : ℕ → Call → Graph → Graph → Type 0
Continues a c g g' = (places : ℕ) (cs : List Call) → (history a places cs).graph ≡ g →
    ((history a places (cs ++ c ∷ [])).graph ≡ g') × OrderlyHistory a (history a places (cs ++ c ∷ [])) × (g.clock ≤ g'.clock)

abbrev pub EveryCallContinues : Type 0
EveryCallContinues = (a : ℕ) (c : Call) (g : Graph) → Continues a c g (graph_apply a c g).0
