-- What `finish` ensures.
use Rattle.std.proofs.Common.{true-eqb, false-eqb}
use Rattle.lines.proofs.Cutting.{ends}
use Rattle.lines.proofs.Feeds.{none_left, one_left}
use Rattle.lines.proofs.buffer.LineBuffer.finish.Goals as goal

pub returns-then-is_empty : goal.returns-then-is_empty
returns-then-is_empty g c =
    let h = none_left g.H.LineHandler.handled c.args.handler.now c.args.self.now (true-eqb _ _ c.if-is_empty.ensures) in
    record { lines = h.1; rest = h.0; whole = λ bs e. ends bs c.args.self.now e }

pub returns : goal.returns
returns g c =
    record {
      lines =
          one_left g.H.LineHandler.handled c.args.handler.now c.handle.new.self c.line.result.now c.args.self.now
          (λ none. false-eqb _ _ c.if-is_empty.ensures none) c.line.ensures.line
          c.in_ok-handle.ensures;
      rest = c.begin_line.ensures;
      whole = λ bs e. ends bs c.args.self.now e;
    }
