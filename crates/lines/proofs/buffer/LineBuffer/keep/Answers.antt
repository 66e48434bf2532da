-- What `keep` ensures.
use Rattle.std.proofs.Common.{[], ◌∷◌, ◌++◌, length, sym, ap, ◌∙◌, arith}
use Rattle.std.proofs.lemmas.List.{take_all, take_at, length_push}
use Rattle.lines.proofs.buffer.LineBuffer.keep.Goals as goal

pub returns-then-len-lt-MOST_KEPT : goal.returns-then-len-lt-MOST_KEPT
returns-then-len-lt-MOST_KEPT c =
    c.push.ensures.items ∙ ap (λ l. l ++ c.args.b ∷ []) c.self.view_is ∙
    sym (take_all 81 (c.args.self.now ++ c.args.b ∷ []) (omega (arith, length_push c.args.self.now c.args.b, ap length c.self.view_is)))

pub returns-else-len-lt-MOST_KEPT : goal.returns-else-len-lt-MOST_KEPT
returns-else-len-lt-MOST_KEPT c = sym (take_at c.args.self.now (c.args.b ∷ []) 81 (omega (arith, ap length c.self.view_is)))
