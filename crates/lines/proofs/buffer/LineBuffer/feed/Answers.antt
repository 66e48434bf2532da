-- What `feed` ensures, and what its steps need.
use Rattle.std.proofs.Common.{◌∙◌, arith}
use Rattle.lines.proofs.Cutting.{goes_on}
use Rattle.lines.proofs.Feeds.{line_came, byte_came, all_fed, all_kept}
use Rattle.lines.proofs.buffer.LineBuffer.feed.Goals as goal
use Rattle.lines.proofs.buffer.LineBuffer.feed.Goals.{then-b-eq-LINE_FEED+in_ok-handle, else-b-eq-LINE_FEED}

pub loop-b-preserved : goal.loop-b-preserved
loop-b-preserved g c =
    elim c.if-b-eq-LINE_FEED.branch [
      | then-b-eq-LINE_FEED+in_ok-handle w ↦
          line_came _ _ _ _ _ _ _ c.loop-b.invariant
          c.if-b-eq-LINE_FEED.handler w.handle.new.self w.line.result.now c.if-b-eq-LINE_FEED.self
          (omega arith) w.if-b-eq-LINE_FEED.true w.in_ok-handle.ensures w.line.ensures.line w.handler-is (w.self-is ∙ w.begin_line.ensures)
      | else-b-eq-LINE_FEED w ↦
          byte_came _ _ _ _ _ _ _ c.loop-b.invariant
          c.if-b-eq-LINE_FEED.handler c.if-b-eq-LINE_FEED.self
          (omega arith) w.if-b-eq-LINE_FEED.false w.handler-is (w.self-is ∙ w.keep.ensures)
    ]

pub returns : goal.returns
returns g c =
    let rest = all_kept _ _ _ _ _ _ _ c.loop-b.invariant (omega arith) in
    record {
      lines = all_fed _ _ _ _ _ _ _ c.loop-b.invariant (omega arith);
      rest = rest;
      whole = λ bs e. let h = goes_on bs c.args.self.now c.args.chunk.now e in (h.0, rest ∙ h.1);
    }
