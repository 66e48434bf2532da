-- What `digits_of` ensures.
use Rattle.std.proofs.Common.{rules}
use Rattle.std.proofs.lemmas.Iterator.{YieldsList-from_slice}
use Rattle.script.proofs.Digits.{folded}
use Rattle.script.proofs.numeral.digits_of.Goals as goal

pub returns : goal.returns
returns c = folded _ _ (λ x. x.now) _ _ (λ n x w q k. search rules) 0 _ _ c.args.field.now _ (YieldsList-from_slice c.args.field.now cc) c.try_fold.ensures.ran
