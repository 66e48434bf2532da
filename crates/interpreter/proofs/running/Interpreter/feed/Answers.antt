-- What `feed` ensures.
use Rattle.std.proofs.Common.{vec_items}
use Rattle.interpreter.proofs.Chains.{fed_on, on_both}
use Rattle.interpreter.proofs.running.Interpreter.feed.Goals as goal

pub returns : goal.returns
returns g c =
    rw (← c.self.view_is)
    (on_both c.feed.result c.feed.ensures.lines c.feed.ensures.whole
    (λ lines whole s bs written so.
    fed_on g.R.Recorder.took c.self.inside.session c.feed.new.handler (λ x. x.recorder) (λ x. vec_items x.output) s bs written c.self.inside.buffer c.args.chunk.now c.feed.new.self so
    lines (whole bs so.held)))
