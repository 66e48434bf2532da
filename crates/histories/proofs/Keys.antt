-- The order of keys.
use Rattle.std.proofs.Common.{◌≡◌, ℕ, ◌<◌, ◌≤◌, true, false, ◌≢◌, ap₂, ⊎_elim, arith}
use Rattle.std.proofs.lemmas.Bool.{cases_Bool}
use Rattle.std.proofs.lemmas.Bool.Decides.{nat_tests}
use Rattle.holders.specs.declared.key.Key.{Key}
use Rattle.holders.specs.Keys.{key_before}

pub not_before_itself : (k : Key) → key_before k k ≡ false
not_before_itself k = grind (arith, nat_tests)

-- what is not before another is handed on
pub not_before_chain : (a b c : Key) → key_before a b ≡ false → key_before b c ≡ false → key_before a c ≡ false
not_before_chain a b c p q = grind (arith, nat_tests)

pub before_one_way : (a b : Key) → key_before a b ≡ true → key_before b a ≡ false
before_one_way a b p = grind (arith, nat_tests)

-- of two different keys one is before the other
pub other_way : (a b : Key) → key_before a b ≡ false → a ≢ b → key_before b a ≡ true
other_way a b p d = ⊎_elim (λ q. q) (λ q. absurd (d (same q))) (cases_Bool (key_before b a))
  where
    key : ℕ → ℕ → Key
    key x y = record { time = x; serial = y }

    same : key_before b a ≡ false → a ≡ b
    same q =
        let t : a.time ≡ b.time = grind (arith, nat_tests) in
        let s : a.serial ≡ b.serial = grind (arith, nat_tests) in
        ap₂ (λ (x y : ℕ). key x y) t s

pub not_before_time : (a b : Key) → key_before a b ≡ false → b.time ≤ a.time
not_before_time a b p = grind (arith, nat_tests)

-- a key that is no later in time, and was used up before, comes before
pub before_new : (a b : Key) → a.time ≤ b.time → a.serial < b.serial → key_before a b ≡ true
before_new a b p q = grind (arith, nat_tests)
