-- How many places bear a key, and what a change of one key leaves.
use Rattle.std.proofs.Common.{◌≡◌, ℕ, zero, suc, ◌+◌, ◌<◌, true, false, cond, ltb, List, [], ◌∷◌, length, get_or, set, replicate, is_some, Some, None, Option, sym, refl, ap, ◌∙◌, arith}
use Rattle.std.proofs.lemmas.Bool.{true≢false, cond-true, cond-false}
use Rattle.std.proofs.lemmas.List.{get_or-set_other, length-set, set-set}
use Rattle.std.proofs.lemmas.List.Sums.{sum_by-set, count_by-le-length}
use Rattle.holders.specs.declared.key.Key.{Key}
use Rattle.holders.specs.Keys.{before_key, keyed, sooner}
use Rattle.ordered.specs.Heaps.{tally}

pub keyed_within : (ks : List (Option Key)) (p : ℕ) → keyed ks p ≡ true → p < length ks
keyed_within [] p h = absurd (true≢false (sym h))
keyed_within (k ∷ ks) zero h = omega arith
keyed_within (k ∷ ks) (suc p) h = let l = keyed_within ks p h in omega arith

pub tally_none : (n : ℕ) → tally (replicate n None) ≡ 0
tally_none zero = refl
tally_none (suc n) = tally_none n

-- the tally after a change
tally_change : (ks : List (Option Key)) (p : ℕ) (k : Option Key) → p < length ks
    → tally (set ks p k) + cond (keyed ks p) 1 0 ≡ tally ks + cond (is_some k) 1 0
tally_change ks p k l = sum_by-set (λ k. cond (is_some k) 1 0) ks p k None l

pub tally_key : (ks : List (Option Key)) (p : ℕ) (k : Key) → p < length ks → keyed ks p ≡ false → tally (set ks p (Some k)) ≡ tally ks + 1
tally_key ks p k l h = omega (arith, tally_change ks p (Some k) l, cond-false {A = ℕ} (keyed ks p) 1 0 h)

pub tally_unkey : (ks : List (Option Key)) (p : ℕ) → keyed ks p ≡ true → tally (set ks p None) + 1 ≡ tally ks
tally_unkey ks p h = omega (arith, tally_change ks p None (keyed_within ks p h), cond-true {A = ℕ} (keyed ks p) 1 0 h)

pub tally_room : (ks : List (Option Key)) (p : ℕ) → p < length ks → keyed ks p ≡ false → tally ks < length ks
tally_room ks p l h =
    let k : Option Key = Some (record { time = 0; serial = 0 }) in
    omega (arith, tally_change ks p k l, cond-false {A = ℕ} (keyed ks p) 1 0 h, count_by-le-length is_some (set ks p k), length-set ks p k)

-- other places are compared as before a change of the key of p
pub sooner_others : (ks : List (Option Key)) (p : ℕ) (k : Option Key) (q r : ℕ) → (q ≡ p → ⊥) → (r ≡ p → ⊥) → sooner (set ks p k) q r ≡ sooner ks q r
sooner_others ks p k q r nq nr =
    let a : get_or (set ks p k) q None ≡ get_or ks q None = get_or-set_other ks p q k None nq in
    let b : get_or (set ks p k) r None ≡ get_or ks r None = get_or-set_other ks p r k None nr in
    ap (λ x. cond (before_key x (get_or (set ks p k) r None)) true (cond (before_key (get_or (set ks p k) r None) x) false (ltb q r))) a
    ∙ ap (λ y. cond (before_key (get_or ks q None) y) true (cond (before_key y (get_or ks q None)) false (ltb q r))) b

pub keyed_others : (ks : List (Option Key)) (p : ℕ) (k : Option Key) (q : ℕ) → (q ≡ p → ⊥) → keyed (set ks p k) q ≡ keyed ks q
keyed_others ks p k q nq = ap is_some (get_or-set_other ks p q k None nq)

-- a key in place of another
pub rekeyed : (ks ks' ks'' : List (Option Key)) (p : ℕ) (k : Option Key) → ks' ≡ set ks p None → ks'' ≡ set ks' p k → ks'' ≡ set ks p k
rekeyed ks ks' ks'' p k e f = f ∙ ap (λ v. set v p k) e ∙ set-set ks p None k
