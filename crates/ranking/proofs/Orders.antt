-- What an order gives, and how orders are made.
use Rattle.std.proofs.Common.{◌≡◌, Bool, true, false, Some, None, Option, sym, refl, ◌∙◌, ⊎_elim}
use Rattle.std.specs.Cmp.{IsStrictWeakOrder}
use Rattle.std.proofs.lemmas.Bool.{cases_Bool, both_ways, true≢false, cond-true, cond-false}
use Rattle.ranking.specs.Orders.{then_by, none_last}

module _ {X : Type 0} (before : X → X → Bool) (o : IsStrictWeakOrder before) where
  pub itself : (x : X) → before x x ≡ false
  itself x = ⊎_elim (λ (t : before x x ≡ true). o.one_way x x t) (λ f. f) (cases_Bool (before x x))

module _ {X : Type 0} (first second : X → X → Bool) where
  -- what the later of two says of each order
  pub then_by_parts : (x y : X) → then_by first second x y ≡ false → (first x y ≡ false) × (first y x ≡ false → second x y ≡ false)
  then_by_parts x y h =
      ⊎_elim (λ (t : first x y ≡ true). absurd (true≢false (sym (cond-true _ _ _ t) ∙ h)))
      (λ f. (f, λ n. sym (cond-false _ _ _ f ∙ cond-false _ _ _ n) ∙ h))
      (cases_Bool (first x y))

  pub then_by_from : (x y : X) → first x y ≡ false → (first y x ≡ false → second x y ≡ false) → then_by first second x y ≡ false
  then_by_from x y f n =
      ⊎_elim (λ (t : first y x ≡ true). cond-false _ _ _ f ∙ cond-true _ _ _ t)
      (λ (t : first y x ≡ false). cond-false _ _ _ f ∙ cond-false _ _ _ t ∙ n t)
      (cases_Bool (first y x))

  module _ (o : IsStrictWeakOrder first) (p : IsStrictWeakOrder second) where
    then_one_way : (x y : X) → then_by first second x y ≡ true → then_by first second y x ≡ false
    then_one_way x y h =
        ⊎_elim (λ (t : first x y ≡ true). then_by_from y x (o.one_way x y t) (λ f. absurd (both_ways _ f t)))
        (λ (f : first x y ≡ false).
        ⊎_elim (λ (t : first y x ≡ true). absurd (true≢false (sym h ∙ cond-false _ _ _ f ∙ cond-true _ _ _ t)))
        (λ (n : first y x ≡ false). then_by_from y x n (λ _. p.one_way x y (sym (cond-false _ _ _ f ∙ cond-false _ _ _ n) ∙ h)))
        (cases_Bool (first y x)))
        (cases_Bool (first x y))

    then_chain : (x y z : X) → then_by first second x y ≡ false → then_by first second y z ≡ false → then_by first second x z ≡ false
    then_chain x y z h k =
        let a = then_by_parts x y h in
        let b = then_by_parts y z k in
        then_by_from x z (o.chain x y z a.0 b.0)
        (λ zx. p.chain x y z (a.1 (o.chain y z x b.0 zx)) (b.1 (o.chain z x y zx a.0)))

    -- two orders, the second where the first does not tell, make an order
    pub then_by_ranks : IsStrictWeakOrder (then_by first second)
    then_by_ranks = record { one_way = then_one_way; chain = then_chain }

-- what neither of two orders tells apart
pub then_by_level : {X : Type 0} (first second : X → X → Bool) (x y : X) → then_by first second x y ≡ false → then_by first second y x ≡ false
    → (first x y ≡ false) × (first y x ≡ false) × (second x y ≡ false) × (second y x ≡ false)
then_by_level first second x y h k =
    let a = then_by_parts first second x y h in
    let b = then_by_parts first second y x k in (a.0, b.0, a.1 b.0, b.1 a.0)

module _ {X : Type 0} (before : X → X → Bool) (o : IsStrictWeakOrder before) where
  none_one_way : (x y : Option X) → none_last before x y ≡ true → none_last before y x ≡ false
  none_one_way None y h = absurd (true≢false (sym h))
  none_one_way (Some x) None h = refl
  none_one_way (Some x) (Some y) h = o.one_way x y h

  none_chain : (x y z : Option X) → none_last before x y ≡ false → none_last before y z ≡ false → none_last before x z ≡ false
  none_chain None y z h k = refl
  none_chain (Some x) None z h k = absurd (true≢false h)
  none_chain (Some x) (Some y) None h k = absurd (true≢false k)
  none_chain (Some x) (Some y) (Some z) h k = o.chain x y z h k

  -- an order with none last is an order
  pub none_last_ranks : IsStrictWeakOrder (none_last before)
  none_last_ranks = record { one_way = none_one_way; chain = none_chain }
