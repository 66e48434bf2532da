-- What holds at each turn of the loop in `feed`.
use Rattle.lines.proofs.Feeds.{Sofar}
use Rattle.lines.proofs.buffer.LineBuffer.feed.Given as goal

abbrev pub invariant-loop-b : goal.invariant-loop-b
invariant-loop-b g l = Sofar g.H.LineHandler.handled l.initial.handler l.fn.self l.chunk l.b-index l.handler l.self
