-- Which place is first, and which is spare, by what is known of it.
use Rattle.std.proofs.Common.{◌≡◌, ℕ, zero, suc, ◌+◌, cond, ◌<◌, ◌≤◌, true, false, List, [], ◌∷◌, length, get_or, is_some, Some, None, Option, sym, refl, ap, ◌∙◌, subst, ⊎_elim, arith}
use Rattle.std.specs.List.{IsFirstBest, position_or_len}
use Rattle.std.specs.Option.{is_none}
use Rattle.std.proofs.lemmas.List.{get_or_past}
use Rattle.std.proofs.lemmas.List.Recursion.{is_position_or_len}
use Rattle.std.proofs.lemmas.Bool.{true≢false, cond-true, cond-false, cases_Bool, cases_lt}
use Rattle.holders.specs.declared.key.Key.{Key}
use Rattle.holders.specs.Keys.{before_key, keyed, sooner, first_of, spare_of}
use Rattle.holders.proofs.Orders.{none_before, before_none, sooner_parts}

pub first_at : (ks : List (Option Key)) (b : ℕ) → is_some (get_or ks b None) ≡ true
    → ((k : ℕ) → before_key (get_or ks k None) (get_or ks b None) ≡ false)
    → ((k : ℕ) → k < b → before_key (get_or ks b None) (get_or ks k None) ≡ true)
    → b ≡ first_of ks
first_at [] b s h t = absurd (true≢false (sym s))
first_at (k ∷ ks) zero s h t = sym (cond-false _ _ _ (h (suc (first_of ks))) ∙ cond-true (is_some k) 0 (suc (first_of ks)) s)
first_at (k ∷ ks) (suc b) s h t =
    let e : b ≡ first_of ks = first_at ks b s (λ j. h (suc j)) (λ j l. t (suc j) (omega arith)) in
    let w : before_key (get_or ks (first_of ks) None) k ≡ true = subst (λ n. before_key (get_or ks n None) k ≡ true) e (t zero (omega arith)) in
    ap suc e ∙ sym (cond-true _ _ _ w)

pub first_none : (ks : List (Option Key)) → ((k : ℕ) → is_some (get_or ks k None) ≡ false) → first_of ks ≡ length ks
first_none [] h = refl
first_none (k ∷ ks) h =
    cond-false _ _ _ (none_before (get_or ks (first_of ks) None) k (h (suc (first_of ks)))) ∙ cond-false (is_some k) 0 (suc (first_of ks)) (h zero) ∙ ap suc (first_none ks (λ j. h (suc j)))

-- the spare place is the first without a key
pub spare_position : (ks : List (Option Key)) → spare_of ks ≡ position_or_len is_none ks
spare_position = is_position_or_len spare_of is_none refl step
  where
    step : (k : Option Key) (ks : List (Option Key)) → spare_of (k ∷ ks) ≡ cond (is_none k) 0 (1 + spare_of ks)
    step None ks = refl
    step (Some k) ks = omega arith

-- the best by the order of keys, where it bears one, is the first
pub first_at_best : (ks : List (Option Key)) (b : ℕ) → IsFirstBest before_key ks (length ks) b → is_some (get_or ks b None) ≡ true → b ≡ first_of ks
first_at_best ks b best s =
    first_at ks b s
    (λ k. ⊎_elim (λ (l : k < length ks). best.1 k None l)
    (λ (l : length ks ≤ k). none_before (get_or ks k None) (get_or ks b None) (ap is_some (get_or_past ks k None l)))
    (cases_lt k (length ks)))
    (λ k l. best.2 k None l)

before_none_none : (a b : Option Key) → is_some b ≡ false → before_key a b ≡ false → is_some a ≡ false
before_none_none None b s h = refl
before_none_none (Some a) None s h = absurd (true≢false h)
before_none_none (Some a) (Some b) s h = absurd (true≢false s)

pub first_none_best : (ks : List (Option Key)) (b : ℕ) → IsFirstBest before_key ks (length ks) b → is_some (get_or ks b None) ≡ false → first_of ks ≡ length ks
first_none_best ks b best s =
    first_none ks
    (λ k. ⊎_elim (λ (l : k < length ks). before_none_none (get_or ks k None) (get_or ks b None) s (best.1 k None l))
    (λ (l : length ks ≤ k). ap is_some (get_or_past ks k None l))
    (cases_lt k (length ks)))

-- a keyed place that comes after no keyed place is the first
pub first_from_sooner : (ks : List (Option Key)) (b : ℕ) → keyed ks b ≡ true
    → ((q : ℕ) → keyed ks q ≡ true → sooner ks q b ≡ false) → b ≡ first_of ks
first_from_sooner ks b kb h =
    first_at ks b kb
    (λ q. ⊎_elim (λ (t : keyed ks q ≡ true). (sooner_parts ks q b (h q t)).0) (λ f. none_before _ _ f) (cases_Bool (keyed ks q)))
    (λ q less. ⊎_elim
    (λ (t : keyed ks q ≡ true). ⊎_elim (λ (y : before_key (get_or ks b None) (get_or ks q None) ≡ true). y)
    (λ f. let le : b ≤ q = (sooner_parts ks q b (h q t)).1 f in let no : ⊥ = omega arith in absurd no)
    (cases_Bool (before_key (get_or ks b None) (get_or ks q None))))
    (λ f. before_none _ _ kb f) (cases_Bool (keyed ks q)))
