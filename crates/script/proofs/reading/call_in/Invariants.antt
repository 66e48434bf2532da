-- What holds at each turn of the loop in `call_in`: of the fields so far there are the numbers.
use Rattle.std.proofs.Common.{◌≡◌, Some, map}
use Rattle.script.specs.Numerals.{numbers}
use Rattle.script.proofs.reading.call_in.Given as goal

abbrev pub invariant-loop-field : goal.invariant-loop-field
invariant-loop-field l =
    (goal.iterator-loop-field).can_next l.field-iterator
    × (goal.iterator-loop-field).is_finite l.field-iterator
    × (numbers (map (λ f. f.now) l.yielded) ≡ Some l.numbers.items)
