-- The first of the events and the others: what is taken out, and what is left.
use Rattle.std.proofs.Common.{◌≡◌, suc, Bool, true, false, cond, ◌≢◌, ◌⊎◌, List, [], ◌∷◌, length, sym, refl, ap, ◌∙◌, subst, inl, inr, ⊎_elim}
use Rattle.model.specs.Graph.{Event, Member, here, there, before, split_first}
use Rattle.histories.proofs.Members.{member_cons, member_eq, member_none}
use Rattle.histories.proofs.Keys.{not_before_itself, not_before_chain, before_one_way}

-- no two events have one key
abbrev pub Distinct : List Event → Type 0
Distinct [] = Unit {0}
Distinct (e ∷ es) = ((x : Event) → Member x es → x.key ≢ e.key) × Distinct es

-- `m` is the least of `all`, and `rest` are the others
pub record Splits (all : List Event) (m : Event) (rest : List Event) : Type 0 where
  pub to : (y : Event) → Member y all → (y ≡ m) ⊎ Member y rest
  pub found : Member m all
  pub from : (y : Event) → Member y rest → Member y all
  pub least : (y : Event) → Member y all → before y m ≡ false
  pub distinct : Distinct all → Distinct (m ∷ rest)
  pub many : length all ≡ suc (length rest)

swap_member : {x y z : Event} {ys : List Event} → Member z (x ∷ y ∷ ys) → Member z (y ∷ x ∷ ys)
swap_member here = there here
swap_member (there here) = here
swap_member (there (there m)) = there (there m)

swap_distinct : (x y : Event) (ys : List Event) → Distinct (x ∷ y ∷ ys) → Distinct (y ∷ x ∷ ys)
swap_distinct x y ys d = (
  (λ z m. ⊎_elim (λ (e : z ≡ x). λ f. d.0 y here (sym f ∙ ap (λ (a : Event). a.key) e)) (λ n. d.1.0 z n) (member_cons m)),
  ((λ z m. d.0 z (there m)), d.1.1),
)

swap_splits : (x y : Event) (ys : List Event) (m : Event) (rest : List Event) → Splits (x ∷ y ∷ ys) m rest → Splits (y ∷ x ∷ ys) m rest
swap_splits x y ys m rest s = record {
  to = λ z i. s.to z (swap_member i);
  found = swap_member s.found;
  from = λ z i. swap_member (s.from z i);
  least = λ z i. s.least z (swap_member i);
  distinct = λ d. s.distinct (swap_distinct y x ys d);
  many = s.many;
}

-- one more that is not before the others' least
more_splits : (b a : Event) (xs : List Event) (m : Event) (rest : List Event) → before b a ≡ false → Splits (a ∷ xs) m rest → Splits (b ∷ a ∷ xs) m (b ∷ rest)
more_splits b a xs m rest l s = record {
  to = λ z i. ⊎_elim (λ (e : z ≡ b). inr (member_eq e)) (λ j. ⊎_elim inl (λ k. inr (there k)) (s.to z j)) (member_cons i);
  found = there s.found;
  from = λ z i. ⊎_elim (λ (e : z ≡ b). member_eq e) (λ j. there (s.from z j)) (member_cons i);
  least = λ z i. ⊎_elim
      (λ (e : z ≡ b). subst (λ (y : Event). before y m ≡ false) (sym e) (not_before_chain b.key a.key m.key l (s.least a here)))
      (λ j. s.least z j)
      (member_cons i);
  distinct = λ d.
      let q = s.distinct d.1 in (
        (λ z i. ⊎_elim
            (λ (e : z ≡ b). λ f. d.0 m s.found (sym f ∙ ap (λ (y : Event). y.key) e))
            (λ j. q.0 z j)
            (member_cons i)),
        ((λ z i. d.0 z (s.from z i)), q.1),
      );
  many = ap suc s.many;
}

pub split_splits : (e : Event) (es : List Event) → Splits (e ∷ es) (split_first e es).0 (split_first e es).1
split_splits e [] = record {
  to = λ y i. ⊎_elim inl (λ j. inr j) (member_cons i);
  found = here;
  from = λ y i. member_none i;
  least = λ y i. ⊎_elim (λ (q : y ≡ e). subst (λ (z : Event). before z e ≡ false) (sym q) (not_before_itself e.key)) member_none (member_cons i);
  distinct = λ d. d;
  many = refl;
}
split_splits e (x ∷ xs) = go (before x e) refl (split_splits x xs) (split_splits e xs)
  where
    go : (t : Bool) → before x e ≡ t → Splits (x ∷ xs) (split_first x xs).0 (split_first x xs).1 → Splits (e ∷ xs) (split_first e xs).0 (split_first e xs).1
        → Splits (e ∷ x ∷ xs) (split_first (cond t x e) xs).0 (cond t e x ∷ (split_first (cond t x e) xs).1)
    go true q a b = more_splits e x xs _ _ (before_one_way x.key e.key q) a
    go false q a b = swap_splits x e xs _ _ (more_splits x e xs _ _ q b)
