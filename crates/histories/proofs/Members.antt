-- Members of a list.
use Rattle.std.proofs.Common.{◌≡◌, ◌<◌, ◌⊎◌, List, [], ◌∷◌, length, sym, refl, subst, inl, inr, arith}
use Rattle.model.specs.Graph.{Member, here, there}

member_some : {A : Type 0} {x : A} {xs : List A} → Member x xs → 0 < length xs
member_some here = omega arith
member_some (there m) = omega arith

pub member_none : {A : Type 0} {P : Type 0} {x : A} → Member x [] → P
member_none m = let l = member_some m in absurd (omega arith)

pub member_cons : {A : Type 0} {x y : A} {ys : List A} → Member x (y ∷ ys) → (x ≡ y) ⊎ Member x ys
member_cons here = inl refl
member_cons (there m) = inr m

pub member_eq : {A : Type 0} {x y : A} {ys : List A} → x ≡ y → Member x (y ∷ ys)
member_eq {A} {x} {y} {ys} e = subst (λ z. Member z (y ∷ ys)) (sym e) here
