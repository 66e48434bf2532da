-- What `read_line` ensures.
use Rattle.std.proofs.Common.{sym, ap, ◌∙◌}
use Rattle.std.proofs.lemmas.Bool.{le-leb, lt-leb}
use Rattle.script.specs.Lines.{call_or_not}
use Rattle.script.proofs.Meanings.{begins_with, exact, long_means, other_means, remark_means}
use Rattle.script.proofs.reading.read_line.Goals as goal

pub returns-then-line-gt-LONGEST : goal.returns-then-line-gt-LONGEST
returns-then-line-gt-LONGEST c = let e = long_means c.args.line.now (lt-leb _ _ c.if-line-gt-LONGEST.true) in record { value = e; exact = exact _ _ e }

pub returns-then-starts_with : goal.returns-then-starts_with
returns-then-starts_with c =
    let e = remark_means c.args.line.now (le-leb _ _ c.if-line-gt-LONGEST.false) (sym (begins_with c.args.line.now) ∙ sym c.starts_with.ensures.value ∙ c.if-starts_with.true) in
    record { value = e; exact = exact _ _ e }

pub returns-in_default : goal.returns-in_default
returns-in_default c =
    let e = ap call_or_not (sym c.in_default.is ∙ c.call_in.ensures) ∙ other_means c.args.line.now (le-leb _ _ c.if-line-gt-LONGEST.false) (sym (begins_with c.args.line.now) ∙ sym c.starts_with.ensures.value ∙ c.if-starts_with.false) in
    record { value = e; exact = exact _ _ e }

pub returns : goal.returns
returns c =
    let e = ap call_or_not (sym c.in-Some.is ∙ c.call_in.ensures) ∙ other_means c.args.line.now (le-leb _ _ c.if-line-gt-LONGEST.false) (sym (begins_with c.args.line.now) ∙ sym c.starts_with.ensures.value ∙ c.if-starts_with.false) in
    record { value = e; exact = exact _ _ e }
