-- What `call_line` ensures.
use Rattle.std.proofs.Common.{ℕ, List, ◌++◌, ap, ◌∙◌}
use Rattle.calls.specs.Spelling.{call_line}
use Rattle.script.specs.Lines.{meaning}
use Rattle.script.proofs.Meanings.{reads_back}
use Rattle.printing.proofs.lines.call_line.Goals as goal

pub returns-clause-reads : goal.returns-clause-reads
returns-clause-reads c =
    ap meaning (c.put_asked.ensures.line ∙ ap (λ (l : List ℕ). l ++ call_line c.args.call.now) c.in_ok-line.ensures.items) ∙
    reads_back c.args.call.now c.put_asked.ensures.words
