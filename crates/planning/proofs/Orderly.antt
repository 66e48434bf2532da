-- What a call that is performed adds to a history.
use Rattle.std.proofs.Common.{IfOk, Ok, Err, Result, sym, ap, subst, MatchResult}
use Rattle.calls.specs.declared.Call.{Call}
use Rattle.calls.specs.declared.Answer.{Answer}
use Rattle.calls.specs.declared.Refusal.{Refusal}
use Rattle.model.specs.Graph as model
use Rattle.histories.specs.Order.{Continues}
use Rattle.histories.proofs.Steps.{continues}
use Rattle.graph.specs.declared.Graph.{Graph}
use Rattle.graph.specs.View.{graph_of, agenda_of}
use Rattle.graph.specs.Performs.{Performs, Unperformed}

pub performed : {E : Type 0} (r : Result (Result Answer Refusal) E) (c : Call) (g h : Graph) → MatchResult r (Performs c g h) (λ _. Unperformed c g h) →
    IfOk r (λ _. Continues (agenda_of g) c (graph_of g) (graph_of h))
performed (Ok a) c g h does =
    subst (Continues (agenda_of g) c (graph_of g))
    (sym (ap (λ (x : model.Graph × Result Answer Refusal). x.0) does.0))
    (continues (agenda_of g) c (graph_of g))
performed (Err e) c g h does = tt
