-- What `put_numbered` ensures.
use Rattle.std.proofs.Common.{ℕ, List, ◌++◌, vec_items, ap, ◌∙◌, append_assoc, arith}
use Rattle.calls.specs.Spelling.{tabbed}
use Rattle.printing.proofs.Room.{appended}
use Rattle.printing.proofs.Turns.{all_numbers}
use Rattle.printing.proofs.numbered.put_numbered.Goals as goal

pub returns : goal.returns
returns c =
    appended (vec_items c.loop-number.out) c.args.last.now c.extend_from_slice-2.result (c.extend_from_slice-2.ensures.succeeds (omega arith)) _ c.extend_from_slice-2.ensures.items ∙
    ap (λ (l : List ℕ). l ++ c.args.last.now) (all_numbers c.args.numbers.now _ (vec_items c.loop-number.out) c.loop-number.number-index c.loop-number.invariant.ahead (omega arith)) ∙
    append_assoc (vec_items c.args.out.now ++ c.args.first.now) (tabbed c.args.numbers.now) c.args.last.now ∙
    append_assoc (vec_items c.args.out.now) c.args.first.now (tabbed c.args.numbers.now ++ c.args.last.now)
