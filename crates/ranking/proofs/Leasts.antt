-- The first best item of a row is the one that the definition names.
use Rattle.std.proofs.Common.{◌≡◌, ℕ, zero, suc, ◌<◌, Bool, true, List, [], ◌∷◌, length, get_or, Some, sym, ap, ◌∙◌, subst, ⊎_elim, arith}
use Rattle.std.specs.Cmp.{IsStrictWeakOrder}
use Rattle.std.specs.List.{IsFirstBest}
use Rattle.std.proofs.lemmas.Bool.{cases_Bool, both_ways, cond-true, cond-false, cond_both}
use Rattle.ranking.specs.Orders.{least_place, least_of, Least}
use Rattle.ranking.proofs.Orders.{itself}

module _ {X : Type 0} (before : X → X → Bool) where
  pub least_within : (x : X) (xs : List X) → least_place before x xs < length (x ∷ xs)
  least_within x [] = omega arith
  least_within x (y ∷ ys) =
      let l = least_within y ys in
      cond_both (before (get_or (y ∷ ys) (least_place before y ys) y) x) (suc (least_place before y ys)) 0 (λ b. b < length (x ∷ y ∷ ys)) (λ _. omega arith) (λ _. omega arith)

  pub best_is_least : (x : X) (xs : List X) (b : ℕ) → IsFirstBest before (x ∷ xs) (length (x ∷ xs)) b → b ≡ least_place before x xs
  best_is_least x [] b best = omega (arith, best.0)
  best_is_least x (y ∷ ys) zero best =
      let l = least_within y ys in
      sym (cond-false _ _ _ (best.1 (suc (least_place before y ys)) y (omega arith)))
  best_is_least x (y ∷ ys) (suc b) best =
      let e : b ≡ least_place before y ys = best_is_least y ys b
      ((omega (arith, best.0)), (λ k d l. best.1 (suc k) d (omega arith)), (λ k d l. best.2 (suc k) d (omega arith))) in
      let w : before (get_or (y ∷ ys) (least_place before y ys) y) x ≡ true
      = subst (λ n. before (get_or (y ∷ ys) n y) x ≡ true) e (best.2 zero y (omega arith)) in
      ap suc e ∙ sym (cond-true _ _ _ w)

  pub least_at : (xs : List X) (b : ℕ) → IsFirstBest before xs (length xs) b → Some b ≡ least_of before xs
  least_at [] b best = let no : ⊥ = omega (arith, best.0) in absurd no
  least_at (x ∷ xs) b best = ap (λ n. Some n) (best_is_least x xs b best)

  -- what is least in a row is its first best
  pub best_from_least : IsStrictWeakOrder before → (xs : List X) (b : ℕ) → Least before xs b → IsFirstBest before xs (length xs) b
  best_from_least o xs b least = (
    least.within,
    (λ k d l. ⊎_elim
        (λ (t : before (get_or xs k d) (get_or xs b d) ≡ true).
        let differs : (get_or xs k d ≡ get_or xs b d → ⊥) = λ e. both_ways _ (itself before o (get_or xs b d)) (subst (λ x. before x (get_or xs b d) ≡ true) e t) in
        o.one_way (get_or xs b d) (get_or xs k d) (least.first k d l differs))
        (λ f. f)
        (cases_Bool (before (get_or xs k d) (get_or xs b d)))),
    (λ k d l. let w = least.within in least.first k d (omega arith) (least.lowest k d l)),
  )
