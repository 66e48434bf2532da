-- What `finish` ensures.
use Rattle.std.proofs.Common.{vec_items}
use Rattle.interpreter.proofs.Chains.{ended_on, on_both}
use Rattle.interpreter.proofs.running.Interpreter.finish.Goals as goal

pub returns-clause-lines : goal.returns-clause-lines
returns-clause-lines g c =
    rw (← c.self.view_is)
    (on_both c.finish.result c.finish.ensures.lines c.finish.ensures.whole
    (λ lines whole s bs written so.
    ended_on g.R.Recorder.took c.self.inside.session c.finish.new.handler (λ x. x.recorder) (λ x. vec_items x.output) s bs written c.self.inside.buffer so lines
    (whole bs so.held)))
