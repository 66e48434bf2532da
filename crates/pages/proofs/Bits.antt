-- Laws of bit maps.
use Rattle.std.proofs.Common.{◌≡◌, ℕ, zero, suc, ◌+◌, ◌-◌, ◌*◌, ◌/◌, ◌%◌, ◌^◌, ◌<◌, ◌≤◌, Bool, true, false, cond, not, ◌&&◌, ◌||◌, eqb, ◌≢◌, List, [], ◌∷◌, map, get_or, is_some, Some, None, Option, sym, refl, ap, ◌∙◌, subst, ap₂, inl, inr, lt_of_lt_of_le, mod-lt, add-mul, pow-suc, zero-add, one-add, arith, pow_pos, pow_mono, pow-add, shr-shr, shr_lt}
use native.Mathlib.Nat.{div-eq_of_lt, div_self, mul-mod_left, zero-div}
use lib.Arith.{bin_ind, lt-one}
use lib.Bits.{bit_and, bit_or, and_shr, or_shr, and_mod, or_mod, or_lt}
use lib.Count.{ones, ones_step, count_trailing_zeros, under}
use lib.Pow.{shl-shr, split, high, ones_split, pow-lt}
use Rattle.std.specs.List.{range_with_len}
use Rattle.std.proofs.lemmas.Bool.{cases_lt, cases_eq, both_ways, or_right, and_right, ne_eqb}
use Rattle.model.specs.Maps.{has}
use Rattle.model.specs.Pages.{occupied, lowest_free}

-- a digit as a test
digit_and : (x y : ℕ) → x < 2 → y < 2 → eqb (bit_and x y) 1 ≡ (eqb x 1 && eqb y 1)
digit_and zero y hx hy = refl
digit_and (suc zero) zero hx hy = refl
digit_and (suc zero) (suc zero) hx hy = refl
digit_and (suc zero) (suc (suc y)) hx hy = absurd (omega arith)
digit_and (suc (suc x)) y hx hy = absurd (omega arith)

digit_or : (x y : ℕ) → x < 2 → y < 2 → eqb (bit_or x y) 1 ≡ (eqb x 1 || eqb y 1)
digit_or zero y hx hy = refl
digit_or (suc zero) zero hx hy = refl
digit_or (suc zero) (suc zero) hx hy = refl
digit_or (suc zero) (suc (suc y)) hx hy = absurd (omega arith)
digit_or (suc (suc x)) y hx hy = absurd (omega arith)

pub has_and : (a b s : ℕ) → has (bit_and a b) s ≡ (has a s && has b s)
unfolding has
has_and a b s =
    ap (λ (x : ℕ). eqb (x % 2) 1) (and_shr a b s) ∙ ap (λ (x : ℕ). eqb x 1) (and_mod (a / 2 ^ s) (b / 2 ^ s) 1)
    ∙ digit_and (a / 2 ^ s % 2) (b / 2 ^ s % 2) (omega arith) (omega arith)

pub has_or : (a b s : ℕ) → has (bit_or a b) s ≡ (has a s || has b s)
unfolding has
has_or a b s =
    ap (λ (x : ℕ). eqb (x % 2) 1) (or_shr a b s) ∙ ap (λ (x : ℕ). eqb x 1) (or_mod (a / 2 ^ s) (b / 2 ^ s) 1)
    ∙ digit_or (a / 2 ^ s % 2) (b / 2 ^ s % 2) (omega arith) (omega arith)

pub has_none : (s : ℕ) → has 0 s ≡ false
unfolding has
has_none s = ap (λ (x : ℕ). eqb (x % 2) 1) (zero-div (2 ^ s))

-- flags past the end of a map
pub has_past : (m k s : ℕ) → m < 2 ^ k → k ≤ s → has m s ≡ false
unfolding has
has_past m k s h l = ap (λ (x : ℕ). eqb (x % 2) 1) (div-eq_of_lt (lt_of_lt_of_le h (pow_mono l)))

pub has_within : (m k s : ℕ) → m < 2 ^ k → has m s ≡ true → s < k
has_within m k s h e = elim (cases_lt s k) [ inl l ↦ l | inr l ↦ absurd (both_ways (has m s) (has_past m k s h l) e) ]

pub bit_same : (s : ℕ) → has (2 ^ s) s ≡ true
unfolding has
bit_same s = ap (λ (x : ℕ). eqb (x % 2) 1) (div_self (pow_pos s))

bit_above : (j k : ℕ) → 2 ^ (suc j + k) / 2 ^ k % 2 ≡ 0
bit_above j k =
    ap (λ (x : ℕ). x / 2 ^ k % 2) (pow-add 2 (suc j) k) ∙ ap (λ (x : ℕ). x % 2) (shl-shr (2 ^ suc j) k)
    ∙ ap (λ (x : ℕ). x % 2) (pow-suc 2 j) ∙ mul-mod_left (2 ^ j) 2

pub bit_other : (s k : ℕ) → k ≢ s → has (2 ^ s) k ≡ false
unfolding has
bit_other s k ne =
    elim (cases_lt k s) [
      | inl l ↦
          let e : suc (s - k - 1) + k ≡ s = omega arith in
          ap (λ (x : ℕ). eqb (2 ^ x / 2 ^ k % 2) 1) (sym e) ∙ ap (λ (x : ℕ). eqb x 1) (bit_above (s - k - 1) k)
      | inr l ↦ let lt : s < k = omega (arith, ne) in ap (λ (x : ℕ). eqb (x % 2) 1) (div-eq_of_lt (pow-lt lt))
    ]

-- a map with one more flag
pub has_more_same : (m s : ℕ) → has (bit_or m (2 ^ s)) s ≡ true
has_more_same m s = has_or m (2 ^ s) s ∙ or_right (has m s) (has (2 ^ s) s) (bit_same s)

or_false : (x : Bool) → (x || false) ≡ x
or_false true = refl
or_false false = refl

pub has_more_other : (m s k : ℕ) → k ≢ s → has (bit_or m (2 ^ s)) k ≡ has m k
has_more_other m s k ne = has_or m (2 ^ s) k ∙ ap (λ (x : Bool). has m k || x) (bit_other s k ne) ∙ or_false (has m k)

pub more_below : (m s k : ℕ) → m < 2 ^ k → s < k → bit_or m (2 ^ s) < 2 ^ k
more_below m s k h l = or_lt k m (2 ^ s) h (pow-lt l)

-- the lowest flag, and the rest
shr_more : (o a : ℕ) → o / 2 ^ (a + 1) ≡ o / 2 ^ a / 2
shr_more o a = sym (shr-shr o a 1)

half_below : (x n : ℕ) → x < 2 ^ suc n → x / 2 < 2 ^ n
half_below x n h = let p = pow-suc 2 n in omega arith

-- a count of flags
flag_digit : (x : ℕ) → x < 2 → cond (eqb x 1) 1 0 ≡ x
flag_digit zero h = refl
flag_digit (suc zero) h = refl
flag_digit (suc (suc x)) h = absurd (omega arith)

module _ {A : Type 0} where
  occupied_cons : (x : Option A) (xs : List (Option A)) → occupied (x ∷ xs) ≡ cond (is_some x) 1 0 + occupied xs
  occupied_cons None xs = sym (zero-add (occupied xs))
  occupied_cons (Some b) xs = sym (one-add (occupied xs))

  lowest_cons : (x : Option A) (xs : List (Option A)) → lowest_free (x ∷ xs) ≡ cond (is_some x) (suc (lowest_free xs)) 0
  lowest_cons None xs = refl
  lowest_cons (Some b) xs = refl

module _ {A : Type 0} (f : ℕ → Option A) (o : ℕ) (same : (k : ℕ) → is_some (f k) ≡ has o k) where
  pub occupied_ones : (a n : ℕ) → o / 2 ^ a < 2 ^ n → occupied (map f (range_with_len a n)) ≡ ones (o / 2 ^ a)
  unfolding ones has
  occupied_ones a zero h = ap ones (sym (lt-one h))
  occupied_ones a (suc n) h =
      let lt : o / 2 ^ (a + 1) < 2 ^ n = subst (λ (x : ℕ). x < 2 ^ n) (sym (shr_more o a)) (half_below (o / 2 ^ a) n h) in
      occupied_cons (f a) (map f (range_with_len (a + 1) n))
      ∙ ap₂ (λ (x : Bool) (y : ℕ). cond x 1 0 + y) (same a) (occupied_ones (a + 1) n lt)
      ∙ ap₂ (λ (x y : ℕ). x + ones y) (flag_digit (o / 2 ^ a % 2) (omega arith)) (shr_more o a)
      ∙ sym (ones_step (o / 2 ^ a))

  all_set : (k : ℕ) → count_trailing_zeros k (2 ^ k - 1) ≡ 0
  unfolding count_trailing_zeros
  all_set zero = refl
  all_set (suc k) =
      let p = pow-suc 2 k in
      let q = pow_pos k in
      let e : (2 ^ suc k - 1) % 2 ≡ 1 = omega arith in
      ap (λ (x : ℕ). under x (count_trailing_zeros k ((2 ^ suc k - 1) / 2))) e

  pub lowest_trailing : (k a n : ℕ) → n ≤ k → o / 2 ^ a < 2 ^ n
      → lowest_free (map f (range_with_len a n)) ≡ count_trailing_zeros k (2 ^ k - 1 - o / 2 ^ a)
  unfolding count_trailing_zeros has
  lowest_trailing k a zero l h =
      let e : 2 ^ k - 1 ≡ 2 ^ k - 1 - o / 2 ^ a = omega arith in
      sym (all_set k) ∙ ap (count_trailing_zeros k) e
  lowest_trailing zero a (suc n) l h = absurd (omega arith)
  lowest_trailing (suc k) a (suc n) l h =
      let lt : o / 2 ^ (a + 1) < 2 ^ n = subst (λ (x : ℕ). x < 2 ^ n) (sym (shr_more o a)) (half_below (o / 2 ^ a) n h) in
      let p = pow-suc 2 k in
      let m : 2 ^ suc n ≤ 2 ^ suc k = pow_mono l in
      let half : 2 ^ k - 1 - o / 2 ^ (a + 1) ≡ (2 ^ suc k - 1 - o / 2 ^ a) / 2 =
      ap (λ (x : ℕ). 2 ^ k - 1 - x) (shr_more o a) ∙ omega arith in
      let low : (2 ^ suc k - 1 - o / 2 ^ a) % 2 ≡ 1 - o / 2 ^ a % 2 = omega arith in
      lowest_cons (f a) (map f (range_with_len (a + 1) n))
      ∙ ap₂ (λ (x : Bool) (y : ℕ). cond x (suc y) 0) (same a) (lowest_trailing k (a + 1) n (omega arith) lt)
      ∙ flag_under (o / 2 ^ a % 2) (count_trailing_zeros k (2 ^ k - 1 - o / 2 ^ (a + 1))) (omega arith)
      ∙ ap₂ (λ (x y : ℕ). under x (count_trailing_zeros k y)) (sym low) half
    where
      flag_under : (x t : ℕ) → x < 2 → cond (eqb x 1) (suc t) 0 ≡ under (1 - x) t
      flag_under zero t h = refl
      flag_under (suc zero) t h = refl
      flag_under (suc (suc x)) t h = absurd (omega arith)

-- no flag is counted only of the empty map
pub ones_none : (m : ℕ) → ones m ≡ 0 → m ≡ 0
ones_none = bin_ind (λ (n : ℕ). ones n ≡ 0 → n ≡ 0) (λ e. refl) (λ n ih e. let s = ones_step n in let z = ih (omega arith) in omega arith)

pub ones_test : (m : ℕ) → eqb (ones m) 0 ≡ eqb m 0
unfolding ones
ones_test m =
    elim (cases_eq m 0) [
      | inl e ↦ ap (λ (x : ℕ). eqb (ones x) 0) e ∙ sym (ap (λ (x : ℕ). eqb x 0) e)
      | inr n ↦ ne_eqb (ones m) 0 (λ z. n (ones_none m z)) ∙ sym (ne_eqb m 0 n)
    ]

-- ---- a map with one flag less

not_shr : (j k x : ℕ) → x < 2 ^ (j + k) → (2 ^ (j + k) - 1 - x) / 2 ^ k ≡ 2 ^ j - 1 - x / 2 ^ k
not_shr j k x h =
    let y : ℕ = x / 2 ^ k in
    let r : ℕ = x % 2 ^ k in
    let s : y * 2 ^ k + r ≡ x = split x k in
    let rk : r < 2 ^ k = mod-lt x (pow_pos k) in
    let yj : y < 2 ^ j = shr_lt j k h in
    let o : 2 ^ (j + k) - 1 ≡ (2 ^ j - 1) * 2 ^ k + (2 ^ k - 1) = ones_split j k in
    let m : (2 ^ j - 1 - y) * 2 ^ k + y * 2 ^ k ≡ (2 ^ j - 1) * 2 ^ k =
    sym (add-mul (2 ^ j - 1 - y) y (2 ^ k)) ∙ ap (λ (z : ℕ). z * 2 ^ k) (let e : (2 ^ j - 1 - y) + y ≡ 2 ^ j - 1 = omega arith in e) in
    let e : 2 ^ (j + k) - 1 - x ≡ (2 ^ j - 1 - y) * 2 ^ k + (2 ^ k - 1 - r) = omega arith in
    let lo : 2 ^ k - 1 - r < 2 ^ k = omega arith in
    ap (λ (z : ℕ). z / 2 ^ k) e ∙ high (2 ^ j - 1 - y) k lo

not_digit : (x : ℕ) → x < 2 → eqb (1 - x) 1 ≡ not (eqb x 1)
not_digit zero h = refl
not_digit (suc zero) h = refl
not_digit (suc (suc x)) h = absurd (omega arith)

pub has_not : (w x k : ℕ) → x < 2 ^ w → k < w → has (2 ^ w - 1 - x) k ≡ not (has x k)
unfolding has
has_not w x k h l =
    let j : ℕ = w - k - 1 in
    let e : suc j + k ≡ w = omega arith in
    let P : ℕ → Type 0 = λ v. x < 2 ^ v → eqb ((2 ^ v - 1 - x) / 2 ^ k % 2) 1 ≡ not (eqb (x / 2 ^ k % 2) 1) in
    subst P e (by_suc j) h
  where
    by_suc : (j : ℕ) → x < 2 ^ (suc j + k) → eqb ((2 ^ (suc j + k) - 1 - x) / 2 ^ k % 2) 1 ≡ not (eqb (x / 2 ^ k % 2) 1)
    by_suc j g =
        let y : x / 2 ^ k < 2 ^ suc j = shr_lt (suc j) k g in
        let p = pow-suc 2 j in
        let q : (2 ^ suc j - 1 - x / 2 ^ k) % 2 ≡ 1 - x / 2 ^ k % 2 = omega arith in
        ap (λ (z : ℕ). eqb (z % 2) 1) (not_shr (suc j) k x g) ∙ ap (λ (z : ℕ). eqb z 1) q ∙ not_digit (x / 2 ^ k % 2) (omega arith)

and_true : (x : Bool) → (x && true) ≡ x
and_true true = refl
and_true false = refl

pub has_less_same : (m s : ℕ) → s < 64 → has (bit_and m (2 ^ 64 - 1 - 2 ^ s)) s ≡ false
has_less_same m s l =
    has_and m (2 ^ 64 - 1 - 2 ^ s) s
    ∙ and_right (has m s) (has (2 ^ 64 - 1 - 2 ^ s) s) (has_not 64 (2 ^ s) s (pow-lt l) l ∙ ap not (bit_same s))

pub has_less_other : (m s k : ℕ) → s < 64 → k < 64 → k ≢ s → has (bit_and m (2 ^ 64 - 1 - 2 ^ s)) k ≡ has m k
has_less_other m s k l h ne =
    has_and m (2 ^ 64 - 1 - 2 ^ s) k
    ∙ ap (λ (x : Bool). has m k && x) (has_not 64 (2 ^ s) k (pow-lt l) h ∙ ap not (bit_other s k ne))
    ∙ and_true (has m k)

-- ---- the lowest free place is free
pub lowest_none : {A : Type 0} (xs : List (Option A)) → get_or xs (lowest_free xs) None ≡ None
lowest_none [] = refl
lowest_none (None ∷ xs) = refl
lowest_none (Some x ∷ xs) = lowest_none xs

-- a map with a flag is not 0
pub some_flag : (m s : ℕ) → has m s ≡ true → 0 < m
some_flag m s on =
    elim (cases_eq m 0) [
      | inl e ↦ absurd (both_ways (has m s) (ap (λ (x : ℕ). has x s) e ∙ has_none s) on)
      | inr ne ↦ omega (arith, ne)
    ]

-- ---- maps of which one has all flags of the other

-- every flag of `m` is a flag of `o`
abbrev pub Within : ℕ → ℕ → Type 0
Within m o = (k : ℕ) → has m k ≡ true → has o k ≡ true

pub within_with : (m o s : ℕ) → Within m o → Within m (bit_or o (2 ^ s))
within_with m o s w k on = has_or o (2 ^ s) k ∙ ap (λ (x : Bool). x || has (2 ^ s) k) (w k on)

pub within_both : (m o s : ℕ) → Within m o → Within (bit_or m (2 ^ s)) (bit_or o (2 ^ s))
within_both m o s w k on =
    elim (cases_eq k s) [
      | inl e ↦ ap (has (bit_or o (2 ^ s))) e ∙ has_more_same o s
      | inr ne ↦ has_more_other o s k ne ∙ w k (sym (has_more_other m s k ne) ∙ on)
    ]

-- a flag that the wider map lacks
pub within_off : (m o s : ℕ) → Within m o → has o s ≡ false → has m s ≡ false
within_off m o s w off = by (has m s) refl
  where
    by : (b : Bool) → has m s ≡ b → b ≡ false
    by true e = absurd (both_ways (has o s) off (w s e))
    by false e = refl
