-- The laws of a map of pages: which flags it has, and what setting one more changes.
use Rattle.std.proofs.Common.{◌≡◌, ℕ, zero, suc, ◌+◌, ◌-◌, ◌/◌, ◌%◌, ◌^◌, ◌<◌, Bool, true, false, ◌||◌, eqb, ◌≢◌, sym, refl, ap, ◌∙◌, inl, inr, pow-suc, arith, pow_pos, pow-add}
use native.Mathlib.Nat.{div-eq_of_lt, div_self, mul-mod_left, zero-div}
use lib.Bits.{bit_or, or_shr, or_mod}
use lib.Pow.{pow-lt, shl-shr}
use Rattle.std.proofs.lemmas.Bool.{cases_eq, cases_lt, eq-eqb, ne_eqb, or_left}
use Rattle.model.specs.Maps.{has, with_flag_set}

pub has_none : (s : ℕ) → has 0 s ≡ false
unfolding has
has_none s = ap (λ (x : ℕ). eqb (x % 2) 1) (zero-div (2 ^ s))

digit_or : (x y : ℕ) → x < 2 → y < 2 → eqb (bit_or x y) 1 ≡ (eqb y 1 || eqb x 1)
digit_or zero zero hx hy = refl
digit_or zero (suc zero) hx hy = refl
digit_or zero (suc (suc y)) hx hy = absurd (omega arith)
digit_or (suc zero) zero hx hy = refl
digit_or (suc zero) (suc zero) hx hy = refl
digit_or (suc zero) (suc (suc y)) hx hy = absurd (omega arith)
digit_or (suc (suc x)) y hx hy = absurd (omega arith)

has_or : (a b s : ℕ) → has (bit_or a b) s ≡ (has b s || has a s)
unfolding has
has_or a b s =
    ap (λ (x : ℕ). eqb (x % 2) 1) (or_shr a b s) ∙ ap (λ (x : ℕ). eqb x 1) (or_mod (a / 2 ^ s) (b / 2 ^ s) 1)
    ∙ digit_or (a / 2 ^ s % 2) (b / 2 ^ s % 2) (omega arith) (omega arith)

power_above : (j k : ℕ) → 2 ^ (suc j + k) / 2 ^ k % 2 ≡ 0
power_above j k =
    ap (λ (x : ℕ). x / 2 ^ k % 2) (pow-add 2 (suc j) k) ∙ ap (λ (x : ℕ). x % 2) (shl-shr (2 ^ suc j) k)
    ∙ ap (λ (x : ℕ). x % 2) (pow-suc 2 j) ∙ mul-mod_left (2 ^ j) 2

-- a power of two has one flag
power_flag : (s k : ℕ) → has (2 ^ s) k ≡ eqb k s
unfolding has
power_flag s k =
    elim (cases_eq k s) [
      | inl e ↦
          ap (λ (x : ℕ). eqb (2 ^ s / 2 ^ x % 2) 1) e ∙ ap (λ (x : ℕ). eqb (x % 2) 1) (div_self (pow_pos s)) ∙ sym (eq-eqb k s e)
      | inr ne ↦ other ne ∙ sym (ne_eqb k s ne)
    ]
  where
    other : k ≢ s → eqb (2 ^ s / 2 ^ k % 2) 1 ≡ false
    other ne =
        elim (cases_lt k s) [
          | inl l ↦
              let e : suc (s - k - 1) + k ≡ s = omega arith in
              ap (λ (x : ℕ). eqb (2 ^ x / 2 ^ k % 2) 1) (sym e) ∙ ap (λ (x : ℕ). eqb x 1) (power_above (s - k - 1) k)
          | inr l ↦ let lt : s < k = omega (arith, ne) in ap (λ (x : ℕ). eqb (x % 2) 1) (div-eq_of_lt (pow-lt lt))
        ]

-- the flags of a map with one more
pub has_with : (m s k : ℕ) → has (with_flag_set m s) k ≡ (eqb k s || has m k)
has_with m s k = has_or m (2 ^ s) k ∙ ap (λ (x : Bool). x || has m k) (power_flag s k)

pub has_with_same : (m s : ℕ) → has (with_flag_set m s) s ≡ true
has_with_same m s = has_with m s s ∙ or_left (eqb s s) (has m s) (eq-eqb s s refl)

pub has_with_other : (m s k : ℕ) → k ≢ s → has (with_flag_set m s) k ≡ has m k
has_with_other m s k ne = has_with m s k ∙ ap (λ (x : Bool). x || has m k) (ne_eqb k s ne)
