-- The order of keys: the laws through which it enters the proof, what comes first and what is spare.
use Rattle.std.proofs.Common.{◌≡◌, ℕ, zero, suc, ◌-◌, ◌<◌, ◌≤◌, Bool, true, false, cond, eqb, leb, List, [], ◌∷◌, length, get_or, is_some, Some, None, Option, sym, refl, ap, ◌∙◌, subst, ap₂, ⊎_elim, arith}
use Rattle.std.proofs.lemmas.Bool.{cases_eq, cases_lt, eq-eqb, le-leb, lt-leb, ne_eqb}
use Rattle.std.proofs.lemmas.Bool.Decides.{nat_tests}
use Rattle.holders.specs.Keys.{before_key, first_of, key_before, spare_of}
use Rattle.holders.specs.declared.key.Key.{Key}
use Rattle.model.specs.Pages.{lowest_free, occupied}
use Rattle.histories.proofs.Keys.{before_one_way, not_before_chain, not_before_itself}
use Rattle.theory.proofs.Lists.{lowest_in, lowest_none, none_some, occupied_most, some_same}

-- of two different keys one is before the other
pub neither_before : (a b : Key) → key_before a b ≡ false → key_before b a ≡ false → a ≡ b
neither_before a b p q =
    let t : a.time ≡ b.time = grind (arith, nat_tests) in
    let s : a.serial ≡ b.serial = grind (arith, nat_tests) in
    ap₂ (λ (x y : ℕ). key x y) t s
  where
    key : ℕ → ℕ → Key
    key x y = record { time = x; serial = y }

-- no place bears a key before this one, or no place bears a key
abbrev pub LeastKey : List (Option Key) → Option Key → Type 0
LeastKey ks None = (d : ℕ) (l : Key) → get_or ks d None ≡ Some l → ⊥
LeastKey ks (Some k) = (d : ℕ) (l : Key) → get_or ks d None ≡ Some l → key_before l k ≡ false

-- the first place has the least key
pub first_is_least : (ks : List (Option Key)) → LeastKey ks (get_or ks (first_of ks) None)
first_is_least [] = λ d l e. none_some l e
first_is_least (k ∷ ks) = go k (get_or ks (first_of ks) None) refl (first_is_least ks)
  where
    each : (P : Key → Type 0) (k : Option Key) → ((l : Key) → k ≡ Some l → P l) → ((d : ℕ) (l : Key) → get_or ks d None ≡ Some l → P l)
        → (d : ℕ) (l : Key) → get_or (k ∷ ks) d None ≡ Some l → P l
    each P k f g zero l e = f l e
    each P k f g (suc d) l e = g d l e

    skip : (x : Option Key) → LeastKey ks x → LeastKey (None ∷ ks) x
    skip None h = each (λ l. ⊥) None (λ l e. none_some l e) h
    skip (Some k) h = each (λ l. key_before l k ≡ false) None (λ l e. none_some l e) h

    -- key `y` is the least of them where it is not after key `k` of the new place
    least : (k y : Key) → key_before k y ≡ false → ((d : ℕ) (l : Key) → get_or ks d None ≡ Some l → key_before l y ≡ false)
        → LeastKey (Some k ∷ ks) (Some y)
    least k y q h = each (λ l. key_before l y ≡ false) (Some k) (λ l e. subst (λ (z : Key). key_before z y ≡ false) (some_same refl e) q) h

    go : (k x : Option Key) → get_or ks (first_of ks) None ≡ x → LeastKey ks x
        → LeastKey (k ∷ ks) (get_or (k ∷ ks) (cond (before_key x k) (suc (first_of ks)) (cond (is_some k) 0 (suc (first_of ks)))) None)
    go None None e h = subst (LeastKey (None ∷ ks)) (sym e) (skip None h)
    go None (Some y) e h = subst (LeastKey (None ∷ ks)) (sym e) (skip (Some y) h)
    go (Some k) None e h = least k k (not_before_itself k) (λ d l m. absurd (h d l m))
    go (Some k) (Some y) e h = pick (key_before y k) refl
      where
        pick : (t : Bool) → key_before y k ≡ t → LeastKey (Some k ∷ ks) (get_or (Some k ∷ ks) (cond t (suc (first_of ks)) 0) None)
        pick true q = subst (LeastKey (Some k ∷ ks)) (sym e) (least k y (before_one_way y k q) h)
        pick false q = least k k (not_before_itself k) (λ d l m. not_before_chain l y k (h d l m) q)

spare_low : (ks : List (Option Key)) → spare_of ks ≡ lowest_free ks
spare_low [] = refl
spare_low (None ∷ ks) = refl
spare_low (Some k ∷ ks) = ap suc (spare_low ks)

pub spare_most : (ks : List (Option Key)) → spare_of ks ≤ length ks
spare_most [] = omega arith
spare_most (None ∷ ks) = omega arith
spare_most (Some k ∷ ks) = let l = spare_most ks in omega arith

spare_room : (ks : List (Option Key)) → spare_of ks < length ks → occupied ks < length ks
spare_room [] l = l
spare_room (None ∷ ks) l = let m = occupied_most ks in omega arith
spare_room (Some k ∷ ks) l = let m = spare_room ks (omega arith) in omega arith

pub spare_none : (ks : List (Option Key)) → get_or ks (spare_of ks) None ≡ None
spare_none ks = ap (λ i. get_or ks i None) (spare_low ks) ∙ lowest_none ks

-- there is no spare place exactly if all are keyed
pub spare_test : (ks : List (Option Key)) → eqb (spare_of ks) (length ks) ≡ leb (length ks) (occupied ks)
spare_test ks =
    ⊎_elim
    (λ (e : spare_of ks ≡ length ks).
    let no : (0 < length ks - occupied ks) → ⊥ = λ l. let m = lowest_in ks l in omega (arith, spare_low ks) in
    let m : length ks ≤ occupied ks = ⊎_elim (λ (l : occupied ks < length ks). absurd (no (omega arith))) (λ l. l) (cases_lt (occupied ks) (length ks)) in
    eq-eqb _ _ e ∙ sym (le-leb _ _ m))
    (λ (d : spare_of ks ≡ length ks → ⊥).
    let m = spare_room ks (omega (arith, spare_most ks, d)) in
    ne_eqb _ _ d ∙ sym (lt-leb _ _ m))
    (cases_eq (spare_of ks) (length ks))
