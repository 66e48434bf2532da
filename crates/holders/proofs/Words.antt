-- What is first and what is spare, in words of their own.
use Rattle.std.proofs.Common.{◌≡◌, ℕ, zero, suc, ◌<◌, ◌≤◌, true, false, ltb, List, [], ◌∷◌, get_or, is_some, Some, None, Option, sym, refl, ◌∙◌, subst, ⊎_elim, arith}
use Rattle.std.proofs.lemmas.Bool.{cond-true, cond-false, cases_Bool, both_ways, cases_lt, le-ltb}
use Rattle.ranking.proofs.Orders.{itself, then_by_from}
use Rattle.holders.specs.declared.key.Key.{Key}
use Rattle.holders.specs.Keys.{before_key, keyed, sooner, first_of, spare_of, FirstKeyed, LowestUnkeyed}
use Rattle.holders.proofs.Orders.{bearing_ranks, none_before, before_none, sooner_one}
use Rattle.holders.proofs.Firsts.{first_none}

-- b is the best place of ks
abbrev Best : List (Option Key) → ℕ → Type 0
Best ks b = ((k : ℕ) → before_key (get_or ks k None) (get_or ks b None) ≡ false)
    × (keyed ks b ≡ true → (k : ℕ) → k < b → before_key (get_or ks b None) (get_or ks k None) ≡ true)

later : (k : Option Key) (ks : List (Option Key)) (b : ℕ) → Best ks b → before_key k (get_or ks b None) ≡ false
    → (keyed ks b ≡ true → before_key (get_or ks b None) k ≡ true) → Best (k ∷ ks) (suc b)
later k ks b best kb bk = (all, lower)
  where
    all : (j : ℕ) → before_key (get_or (k ∷ ks) j None) (get_or (k ∷ ks) (suc b) None) ≡ false
    all zero = kb
    all (suc j) = best.0 j

    lower : keyed (k ∷ ks) (suc b) ≡ true → (j : ℕ) → j < suc b → before_key (get_or (k ∷ ks) (suc b) None) (get_or (k ∷ ks) j None) ≡ true
    lower t zero l = bk t
    lower t (suc j) l = best.1 t j (omega arith)

now_best : (k : Option Key) (ks : List (Option Key)) (b : ℕ) → Best ks b → before_key (get_or ks b None) k ≡ false → Best (k ∷ ks) 0
now_best k ks b best bk = (all, λ t j l. let no : ⊥ = omega arith in absurd no)
  where
    all : (j : ℕ) → before_key (get_or (k ∷ ks) j None) (get_or (k ∷ ks) 0 None) ≡ false
    all zero = itself before_key bearing_ranks k
    all (suc j) = bearing_ranks.chain (get_or ks j None) (get_or ks b None) k (best.0 j) bk

best_of_keys : (ks : List (Option Key)) → Best ks (first_of ks)
best_of_keys [] = ((λ k. refl), (λ t k l. let no : ⊥ = omega arith in absurd no))
best_of_keys (k ∷ ks) =
    let b = first_of ks in
    let ih = best_of_keys ks in
    ⊎_elim
    (λ (t : before_key (get_or ks (first_of ks) None) k ≡ true).
    subst (Best (k ∷ ks)) (sym (cond-true _ _ _ t)) (later k ks b ih (bearing_ranks.one_way (get_or ks b None) k t) (λ _. t)))
    (λ (f : before_key (get_or ks (first_of ks) None) k ≡ false).
    ⊎_elim
    (λ (s : is_some k ≡ true). subst (Best (k ∷ ks)) (sym (cond-false _ _ _ f ∙ cond-true _ _ _ s)) (now_best k ks b ih f))
    (λ (s : is_some k ≡ false). subst (Best (k ∷ ks)) (sym (cond-false _ _ _ f ∙ cond-false _ _ _ s))
    (later k ks b ih (none_before k (get_or ks b None) s) (λ kb. before_none (get_or ks b None) k kb s)))
    (cases_Bool (is_some k)))
    (cases_Bool (before_key (get_or ks (first_of ks) None) k))

first_over : (ks : List (Option Key)) (q : ℕ) → keyed ks q ≡ true
    → (keyed ks (first_of ks) ≡ true) × (sooner ks q (first_of ks) ≡ false) × ((q ≡ first_of ks → ⊥) → sooner ks (first_of ks) q ≡ true)
first_over ks q kq =
    let b = first_of ks in
    let best = best_of_keys ks in
    let kb : keyed ks b ≡ true = ⊎_elim (λ (t : keyed ks b ≡ true). t)
    (λ f. absurd (both_ways _ (best.0 q) (before_none (get_or ks q None) (get_or ks b None) kq f))) (cases_Bool (keyed ks b)) in
    let not_after : sooner ks q b ≡ false = then_by_from (λ p q. before_key (get_or ks p None) (get_or ks q None)) ltb q b (best.0 q)
    (λ f. ⊎_elim (λ (l : q < b). absurd (both_ways _ f (best.1 kb q l))) (λ (l : b ≤ q). le-ltb q b l) (cases_lt q b)) in
    (kb, not_after, λ ne. ⊎_elim (λ (t : sooner ks b q ≡ true). t) (λ f. absurd (ne (sooner_one ks q b not_after f))) (cases_Bool (sooner ks b q)))

pub first_stands : (ks : List (Option Key)) (p : ℕ) → p ≡ first_of ks → FirstKeyed ks p
first_stands ks p e = subst (FirstKeyed ks) (sym e) (record { some = first_over ks; none = first_none ks })

spare_more : (x : Key) (ks : List (Option Key)) → ((k : ℕ) → k < spare_of ks → keyed ks k ≡ true) → (k : ℕ) → k < suc (spare_of ks) → keyed (Some x ∷ ks) k ≡ true
spare_more x ks h zero l = refl
spare_more x ks h (suc k) l = h k (omega arith)

spare_lowest : (ks : List (Option Key)) → LowestUnkeyed ks (spare_of ks)
spare_lowest [] = record { unkeyed = refl; below = λ k l. let no : ⊥ = omega arith in absurd no; within = omega arith }
spare_lowest (None ∷ ks) = record { unkeyed = refl; below = λ k l. let no : ⊥ = omega arith in absurd no; within = omega arith }
spare_lowest (Some x ∷ ks) =
    let s = spare_lowest ks in
    record { unkeyed = s.unkeyed; below = spare_more x ks s.below; within = let l = s.within in omega arith }

pub spare_stands : (ks : List (Option Key)) (p : ℕ) → p ≡ spare_of ks → LowestUnkeyed ks p
spare_stands ks p e = subst (LowestUnkeyed ks) (sym e) (spare_lowest ks)
