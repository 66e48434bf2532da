-- What the steps of reading a line answer.
use Rattle.std.specs.Prelude.{ℕ, ◌+◌, ◌-◌, ◌*◌, cond, ◌&&◌, List, [], ◌∷◌, Some, None, Option, nat_le}
use Rattle.script.specs.Numerals.{digit}

-- the number after one more digit, if it fits
abbrev pub digit_added : ℕ → ℕ → Option ℕ
digit_added n c = cond (digit c && nat_le (10 * n + (c - 48)) 4294967295) (Some (10 * n + (c - 48))) None

abbrev pub and_then : Option ℕ → (ℕ → Option ℕ) → Option ℕ
and_then None k = None
and_then (Some n) k = k n

-- the number after all digits, if each is one and the number fits all along
abbrev pub scanned : ℕ → List ℕ → Option ℕ
scanned n [] = Some n
scanned n (c ∷ cs) = and_then (digit_added n c) (λ m. scanned m cs)
