-- What is read where there may be none, with the refusal for that.
use Rattle.std.proofs.Common.{◌≡◌, ℕ, zero, suc, Bool, true, false, cond, not, ltb, List, [], ◌∷◌, length, get_or, slice_get, Some, None, Ok, Err, Option, Result, refl, sym, ap, ◌∙◌, arith}
use Rattle.std.specs.Option.{ok_or}
use Rattle.std.proofs.lemmas.Bool.{le-ltb, lt-ltb}
use Rattle.std.proofs.lemmas.Bool.Decides.{nat_tests}
use Rattle.calls.specs.declared.Refusal.{Refusal}
use Rattle.calls.specs.declared.Refusal.TheVariants.{NoSuchPlace}
use Rattle.operations.specs.Parts.{held_at}

both : (i n : ℕ) → ltb i n ≡ ltb (suc i) (suc n)
both i n = grind (arith, nat_tests)

pub asked : (xs : List ℕ) (i : ℕ) (e : Refusal) → ok_or (slice_get xs i) e ≡ cond (ltb i (length xs)) (Ok (get_or xs i 0)) (Err e)
asked [] i e = sym (ap (λ (b : Bool). cond b (Ok 0) (Err e)) (le-ltb i 0 (omega arith)))
asked (x ∷ xs) zero e = sym (ap (λ (b : Bool). cond b (Ok x) (Err e)) (lt-ltb 0 (length (x ∷ xs)) (omega arith)))
asked (x ∷ xs) (suc i) e = asked xs i e ∙ ap (λ (b : Bool). cond b (Ok (get_or xs i 0)) (Err e)) (both i (length xs))

module _ (xs : List ℕ) (i : ℕ) (e : Refusal) where
  pub gone : (x : Refusal) → ok_or (slice_get xs i) e ≡ Err x → not (ltb i (length xs)) ≡ true
  gone x q = by (ltb i (length xs)) (sym (asked xs i e) ∙ q)
    where
      by : (b : Bool) → ◌≡◌ {A = Result ℕ Refusal} (cond b (Ok (get_or xs i 0)) (Err e)) (Err x) → not b ≡ true
      by true r = absurd (cc)
      by false r = refl

  pub there : (x : ℕ) → ok_or (slice_get xs i) e ≡ Ok x → (not (ltb i (length xs)) ≡ false) × (get_or xs i 0 ≡ x)
  there x q = by (ltb i (length xs)) (sym (asked xs i e) ∙ q)
    where
      by : (b : Bool) → ◌≡◌ {A = Result ℕ Refusal} (cond b (Ok (get_or xs i 0)) (Err e)) (Ok x) → (not b ≡ false) × (get_or xs i 0 ≡ x)
      by true r = (refl, cc)
      by false r = absurd (cc)

pub granted : (o : Option ℕ) (e : Refusal) (n : ℕ) → ok_or o e ≡ Ok n → Some n ≡ o
granted None e n q = absurd (cc)
granted (Some m) e n q = cc

pub within : (row : List ℕ) (p n : ℕ) → held_at row p ≡ Ok n → not (ltb p (length row)) ≡ false
within row p n q = by (ltb p (length row)) q
  where
    by : (b : Bool) → ◌≡◌ {A = Result ℕ Refusal} (cond b (Ok (get_or row p 0)) (Err NoSuchPlace)) (Ok n) → not b ≡ false
    by true r = refl
    by false r = absurd (cc)
