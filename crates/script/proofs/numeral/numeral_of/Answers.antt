-- What `numeral_of` ensures.
use Rattle.std.proofs.Common.{sym, ◌∙◌, arith, true-eqb}
use Rattle.std.proofs.lemmas.List.{take_rest}
use Rattle.script.proofs.Digits.{plain}
use Rattle.script.proofs.numeral.numeral_of.Goals as goal
use Rattle.script.proofs.numeral.numeral_of.Goals.{else-first-eq-ZERO-via-then-first-eq-ZERO+else-not-is_empty, else-first-eq-ZERO-via-else-first-eq-ZERO}

pub returns : goal.returns
returns c =
    elim c.else-first-eq-ZERO.branch [
      | else-first-eq-ZERO-via-then-first-eq-ZERO+else-not-is_empty w ↦ plain c.args.field.now _ _ (omega arith) (take_rest c.args.field.now 1) (λ z. true-eqb _ _ (sym w.if-not-is_empty.false ∙ w.is_empty.ensures)) c.digits_of.ensures
      | else-first-eq-ZERO-via-else-first-eq-ZERO w ↦ plain c.args.field.now _ _ (omega arith) (take_rest c.args.field.now 1) (λ z. omega arith) c.digits_of.ensures
    ]
