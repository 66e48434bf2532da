-- The numbers that fields write: decimal, with no sign and no leading zero, of 32 bits.
use Rattle.std.specs.Prelude.{ℕ, ◌+◌, ◌-◌, ◌*◌, Bool, true, false, cond, not, ◌&&◌, List, [], ◌∷◌, Some, None, Option, ◌==◌, nat_le}

abbrev pub digit : ℕ → Bool
digit c = nat_le 48 c && nat_le c 57

abbrev pub all_digits : List ℕ → Bool
all_digits [] = true
all_digits (c ∷ cs) = digit c && all_digits cs

-- one byte at least, and no zero in front of another byte
abbrev pub unpadded : List ℕ → Bool
unpadded [] = false
unpadded (c ∷ []) = true
unpadded (c ∷ d ∷ ds) = not (c == 48)

-- the number that digits write after those of n
abbrev pub value_after : ℕ → List ℕ → ℕ
value_after n [] = n
value_after n (c ∷ cs) = value_after (10 * n + (c - 48)) cs

-- the number that a field writes, if it is one
abbrev pub numeral : List ℕ → Option ℕ
numeral ds = cond (unpadded ds && (all_digits ds && nat_le (value_after 0 ds) 4294967295)) (Some (value_after 0 ds)) None

abbrev pub with_number : Option ℕ → Option (List ℕ) → Option (List ℕ)
with_number None o = None
with_number (Some n) None = None
with_number (Some n) (Some ns) = Some (n ∷ ns)

-- the numbers that fields write, if each is a number
abbrev pub numbers : List (List ℕ) → Option (List ℕ)
numbers [] = Some []
numbers (f ∷ fs) = with_number (numeral f) (numbers fs)
