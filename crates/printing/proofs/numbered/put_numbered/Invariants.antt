-- What holds at each turn of the loop in `put_numbered`.
use Rattle.std.proofs.Common.{◌≡◌, ◌+◌, ◌-◌, ◌*◌, ◌≤◌, ◌++◌, length, drop, vec_items, vec_len, vec_capacity}
use Rattle.calls.specs.Spelling.{tabbed}
use Rattle.printing.proofs.numbered.put_numbered.Given as goal

abbrev pub invariant-loop-number : goal.invariant-loop-number
invariant-loop-number l =
    record {
      ahead : vec_items l.out ++ tabbed (drop l.number-index l.numbers) ≡ (vec_items l.fn.out ++ l.first) ++ tabbed l.numbers;
      room : vec_len l.out + (11 * (length l.numbers - l.number-index) + length l.last) ≤ vec_capacity l.out;
    }
