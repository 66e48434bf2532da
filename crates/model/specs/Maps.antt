-- A set of pages as a 64-bit map: a number whose binary digits are flags.
use Rattle.std.specs.Prelude.{ℕ, ◌/◌, ◌%◌, ◌^◌, Bool, ◌==◌, bit_or}

-- whether flag `s` of the map is set
unfoldable pub has : ℕ → ℕ → Bool
has m s = m / 2 ^ s % 2 == 1

-- the map with flag `s` set
abbrev pub with_flag_set : ℕ → ℕ → ℕ
with_flag_set m s = bit_or m (2 ^ s)
