-- What a call does to the program's graph: what the definitions say, and its agenda has as many places as before.
use Rattle.std.specs.Prelude.{◌≡◌, Bool, true, false, None, Result, MatchResult}
use Rattle.calls.specs.declared.Call.{Call}
use Rattle.calls.specs.declared.Call.TheVariants.{Make, Load, Store, Read, Write, Copy, Clear, Same, Shape, Schedule, Next, Begin, Step, Count}
use Rattle.calls.specs.declared.Answer.{Answer}
use Rattle.calls.specs.declared.Refusal.{Refusal}
use Rattle.model.specs.Graph.{graph_apply, graph_refusal}
use Rattle.graph.specs.declared.Graph.{Graph}
use Rattle.graph.specs.View.{graph_of}

-- call `c` leads from one graph to another, and answers `r`
abbrev pub Performs : Call → Graph → Graph → Result Answer Refusal → Type 0
Performs c g h r = ((graph_of h, r) ≡ graph_apply g.agenda c (graph_of g)) × (h.agenda ≡ g.agenda)

-- the calls that take memory
abbrev pub grows : Call → Bool
grows (Make p r d) = true
grows (Load p q f) = false
grows (Store q f p) = false
grows (Read q w) = false
grows (Write q w v) = false
grows (Copy p q) = false
grows (Clear p) = false
grows (Same p q) = false
grows (Shape q) = false
grows (Schedule t p) = true
grows (Next p) = false
grows Begin = false
grows (Step u) = false
grows Count = false

-- no memory was left for a call that takes some and that nothing refuses: the graph is as it was
abbrev pub Unperformed : Call → Graph → Graph → Type 0
Unperformed c g h =
    (graph_of h ≡ graph_of g) × (h.agenda ≡ g.agenda) × (grows c ≡ true) × (graph_refusal c (graph_of g) g.agenda ≡ None)

-- the call is performed, and answers what `say` makes of the result; or there was no memory for it
abbrev pub PerformsIfMemory : {A E : Type 0} → (A → Result Answer Refusal) → Call → Graph → Graph → Result A E → Type 0
PerformsIfMemory say c g h r = MatchResult r (λ a. Performs c g h (say a)) (λ _. Unperformed c g h)
