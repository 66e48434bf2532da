use Rattle.std.proofs.Common.{map}
use Rattle.model.specs.Graph.{split_first}
use Rattle.graph.specs.View.{event_of}
use Rattle.graph.proofs.Sifting.{Sifted}
use Rattle.graph.proofs.events.take_first.Given as goal

-- the events below the index are passed, and the one in front is the first of them and of the one that stood there
abbrev pub invariant-loop-event : goal.invariant-loop-event
invariant-loop-event l =
    Sifted (split_first (event_of l.initial.first) (map event_of l.initial.event-items))
    (event_of l.first) (map event_of l.event-items) l.event-index
