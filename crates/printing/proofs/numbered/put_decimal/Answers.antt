-- What `put_decimal` ensures.
use Rattle.std.proofs.Common.{ℕ, ◌+◌, List, [], ◌∷◌, ◌++◌, vec_items, sym, ap, ◌∙◌, arith}
use Rattle.std.proofs.lemmas.Fmt.{decimal_digit}
use Rattle.printing.proofs.Room.{appended}
use Rattle.printing.proofs.numbered.put_decimal.Goals as goal

pub returns-then-n-lt10-clause-items : goal.returns-then-n-lt10-clause-items
returns-then-n-lt10-clause-items c =
    appended (vec_items c.args.out.now) ((48 + c.args.n) ∷ []) c.push.result (c.push.ensures.succeeds (omega arith)) _ c.push.ensures.items ∙
    ap (λ (l : List ℕ). vec_items c.args.out.now ++ l) (sym (decimal_digit c.args.n c.if-n-lt10.true))
