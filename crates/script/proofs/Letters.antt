-- A letter and its numbers tell the call, and the call tells them.
use Rattle.std.proofs.Common.{◌≡◌, ℕ, ◌<◌, ◌≤◌, length, cond, eqb, List, [], ◌∷◌, Some, None, Option, refl, ◌∙◌, subst, arith}
use Rattle.std.specs.Option.{option_map}
use Rattle.std.proofs.lemmas.Bool.{eqb-true, cond_both}
use Rattle.calls.specs.declared.Call.{Call}
use Rattle.calls.specs.declared.Call.TheVariants.{Make, Load, Store, Read, Write, Copy, Clear, Same, Shape, Schedule, Next, Begin, Step, Count}
use Rattle.calls.specs.Numbers.{letter_of, numbers_of}
use Rattle.script.proofs.Splitting.{TooMany}
use Rattle.script.specs.Lines.{no_number, one_number, number_pair, number_triple, named_call, call_of_fields}
use Rattle.script.specs.Numerals.{numbers}

-- c is the letter of k, and o its numbers
abbrev pub Told : ℕ → Option (List ℕ) → Call → Type 0
Told c o k = (c ≡ letter_of k) × (o ≡ Some (numbers_of k))

pub letter_names : (k : Call) → named_call (letter_of k) (Some (numbers_of k)) ≡ Some k
letter_names (Make a b d) = refl
letter_names (Load a b d) = refl
letter_names (Store a b d) = refl
letter_names (Read a b) = refl
letter_names (Write a b d) = refl
letter_names (Copy a b) = refl
letter_names (Clear a) = refl
letter_names (Same a b) = refl
letter_names (Shape a) = refl
letter_names (Schedule a b) = refl
letter_names (Next a) = refl
letter_names Begin = refl
letter_names (Step a) = refl
letter_names Count = refl

by_three : (c : ℕ) (K : ℕ → ℕ → ℕ → Call) (same : (a b d : ℕ) → Told c (Some (a ∷ b ∷ d ∷ [])) (K a b d)) (o : Option (List ℕ)) (k : Call) → option_map (λ t. K t.0 t.1 t.2) (number_triple o) ≡ Some k → Told c o k
by_three c K same None k e = cc
by_three c K same (Some []) k e = cc
by_three c K same (Some (a ∷ [])) k e = cc
by_three c K same (Some (a ∷ b ∷ [])) k e = cc
by_three c K same (Some (a ∷ b ∷ d ∷ [])) k e = let h : K a b d ≡ k = cc in subst (Told c (Some (a ∷ b ∷ d ∷ []))) h (same a b d)
by_three c K same (Some (a ∷ b ∷ d ∷ f ∷ ns)) k e = cc

by_two : (c : ℕ) (K : ℕ → ℕ → Call) (same : (a b : ℕ) → Told c (Some (a ∷ b ∷ [])) (K a b)) (o : Option (List ℕ)) (k : Call) → option_map (λ t. K t.0 t.1) (number_pair o) ≡ Some k → Told c o k
by_two c K same None k e = cc
by_two c K same (Some []) k e = cc
by_two c K same (Some (a ∷ [])) k e = cc
by_two c K same (Some (a ∷ b ∷ [])) k e = let h : K a b ≡ k = cc in subst (Told c (Some (a ∷ b ∷ []))) h (same a b)
by_two c K same (Some (a ∷ b ∷ f ∷ ns)) k e = cc

by_one : (c : ℕ) (K : ℕ → Call) (same : (a : ℕ) → Told c (Some (a ∷ [])) (K a)) (o : Option (List ℕ)) (k : Call) → option_map K (one_number o) ≡ Some k → Told c o k
by_one c K same None k e = cc
by_one c K same (Some []) k e = cc
by_one c K same (Some (a ∷ [])) k e = let h : K a ≡ k = cc in subst (Told c (Some (a ∷ []))) h (same a)
by_one c K same (Some (a ∷ f ∷ ns)) k e = cc

by_none : (c : ℕ) (K : Call) (same : Told c (Some []) K) (o : Option (List ℕ)) (k : Call) → option_map (λ _. K) (no_number o) ≡ Some k → Told c o k
by_none c K same None k e = cc
by_none c K same (Some []) k e = let h : K ≡ k = cc in subst (Told c (Some [])) h same
by_none c K same (Some (f ∷ ns)) k e = cc

-- one test of a letter after another
or_else : (c l : ℕ) (x y : Option Call) (o : Option (List ℕ)) (k : Call) → (x ≡ Some k → Told l o k) → (y ≡ Some k → Told c o k) → cond (eqb c l) x y ≡ Some k → Told c o k
or_else c l x y o k here there =
    cond_both (eqb c l) x y (λ z. z ≡ Some k → Told c o k) (λ e h. let t = here h in (eqb-true c l e ∙ t.0, t.1)) (λ e h. there h)

pub told : (c : ℕ) (o : Option (List ℕ)) (k : Call) → named_call c o ≡ Some k → Told c o k
told c o k =
    or_else c 77 _ _ o k (by_three 77 (λ a b d. Make a b d) (λ a b d. (refl, refl)) o k)
    (or_else c 76 _ _ o k (by_three 76 (λ a b d. Load a b d) (λ a b d. (refl, refl)) o k)
    (or_else c 83 _ _ o k (by_three 83 (λ a b d. Store a b d) (λ a b d. (refl, refl)) o k)
    (or_else c 82 _ _ o k (by_two 82 (λ a b. Read a b) (λ a b. (refl, refl)) o k)
    (or_else c 87 _ _ o k (by_three 87 (λ a b d. Write a b d) (λ a b d. (refl, refl)) o k)
    (or_else c 67 _ _ o k (by_two 67 (λ a b. Copy a b) (λ a b. (refl, refl)) o k)
    (or_else c 75 _ _ o k (by_one 75 (λ a. Clear a) (λ a. (refl, refl)) o k)
    (or_else c 81 _ _ o k (by_two 81 (λ a b. Same a b) (λ a b. (refl, refl)) o k)
    (or_else c 72 _ _ o k (by_one 72 (λ a. Shape a) (λ a. (refl, refl)) o k)
    (or_else c 69 _ _ o k (by_two 69 (λ a b. Schedule a b) (λ a b. (refl, refl)) o k)
    (or_else c 78 _ _ o k (by_one 78 (λ a. Next a) (λ a. (refl, refl)) o k)
    (or_else c 66 _ _ o k (by_none 66 Begin (refl, refl) o k)
    (or_else c 71 _ _ o k (by_one 71 (λ a. Step a) (λ a. (refl, refl)) o k)
    (or_else c 84 _ _ o k (by_none 84 Count (refl, refl) o k) (λ e. cc))))))))))))))

-- a call has at most three numbers, so more name none
pub few : (k : Call) → length (numbers_of k) ≤ 3
few (Make a b d) = omega arith
few (Load a b d) = omega arith
few (Store a b d) = omega arith
few (Read a b) = omega arith
few (Write a b d) = omega arith
few (Copy a b) = omega arith
few (Clear a) = omega arith
few (Same a b) = omega arith
few (Shape a) = omega arith
few (Schedule a b) = omega arith
few (Next a) = omega arith
few Begin = omega arith
few (Step a) = omega arith
few Count = omega arith

named_by : (c : ℕ) (o : Option (List ℕ)) (r : Option Call) → TooMany o → named_call c o ≡ r → None ≡ r
named_by c o None many e = refl
named_by c o (Some k) many e = let h : 3 < length (numbers_of k) = subst TooMany (told c o k e).1 many in absurd (omega (arith, few k))

names_none : (c : ℕ) (o : Option (List ℕ)) → TooMany o → None ≡ named_call c o
names_none c o many = named_by c o (named_call c o) many refl

pub too_many_none : (f : List ℕ) (fs : List (List ℕ)) → TooMany (numbers fs) → None ≡ call_of_fields (f ∷ fs)
too_many_none [] fs many = refl
too_many_none (c ∷ []) fs many = names_none c (numbers fs) many
too_many_none (c ∷ d ∷ ds) fs many = refl
