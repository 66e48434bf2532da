-- What a list of calls has come to: the graph, the events taken, and how many schedules and nexts were granted.
use Rattle.std.specs.Prelude.{ℕ, suc, cond, List, [], ◌∷◌, is_ok, Result}
use Rattle.calls.specs.declared.Call.{Call}
use Rattle.calls.specs.declared.Call.TheVariants.{Make, Load, Store, Read, Write, Copy, Clear, Same, Shape, Schedule, Next, Begin, Step, Count}
use Rattle.calls.specs.declared.Answer.{Answer}
use Rattle.calls.specs.declared.Refusal.{Refusal}
use Rattle.model.specs.Graph.{Event, Graph, empty, split_first, graph_apply}

-- the events taken stand newest first; the others are how many schedules and nexts were granted
pub record History : Type 0 where
  pub graph : Graph
  pub taken : List Event
  pub schedules : ℕ
  pub nexts : ℕ

-- what a granted call does to the events: it adds one, takes the first, or leaves them
pub data Effect : Type 0 where
  adds : Effect
  takes : Effect
  leaves : Effect

abbrev pub effect : Call → Effect
effect (Make p r d) = leaves
effect (Load p q f) = leaves
effect (Store q f p) = leaves
effect (Read q w) = leaves
effect (Write q w v) = leaves
effect (Copy p q) = leaves
effect (Clear p) = leaves
effect (Same p q) = leaves
effect (Shape q) = leaves
effect (Schedule t p) = adds
effect (Next p) = takes
effect Begin = leaves
effect (Step u) = leaves
effect Count = leaves

-- the first of the events joins those taken
abbrev pub with_first : List Event → List Event → List Event
with_first [] taken = taken
with_first (e ∷ es) taken = (split_first e es).0 ∷ taken

abbrev pub taken_by : Effect → List Event → List Event → List Event
taken_by adds es taken = taken
taken_by takes es taken = with_first es taken
taken_by leaves es taken = taken

abbrev pub schedules_by : Effect → ℕ → ℕ
schedules_by adds n = suc n
schedules_by takes n = n
schedules_by leaves n = n

abbrev pub nexts_by : Effect → ℕ → ℕ
nexts_by adds n = n
nexts_by takes n = suc n
nexts_by leaves n = n

-- a call and what the graph makes of it join the history; a refused call leaves it as it was
abbrev pub extend_by : History → Call → Graph × Result Answer Refusal → History
extend_by h c x = record {
  graph = x.0;
  taken = cond (is_ok x.1) (taken_by (effect c) h.graph.events h.taken) h.taken;
  schedules = cond (is_ok x.1) (schedules_by (effect c) h.schedules) h.schedules;
  nexts = cond (is_ok x.1) (nexts_by (effect c) h.nexts) h.nexts;
}

-- `a` is the number of places in the agenda
abbrev pub extend : ℕ → History → Call → History
extend a h c = extend_by h c (graph_apply a c h.graph)

-- no call yet on a graph with so many places
abbrev pub outset : ℕ → History
outset places = record { graph = empty places; taken = []; schedules = 0; nexts = 0 }

abbrev pub history_from : ℕ → History → List Call → History
history_from a h [] = h
history_from a h (c ∷ cs) = history_from a (extend a h c) cs

-- the history of a list of calls from the empty graph on
abbrev pub history : ℕ → ℕ → List Call → History
history a places cs = history_from a (outset places) cs
