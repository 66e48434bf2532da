-- The order of keys and the order of places by their keys.
use Rattle.std.proofs.Common.{◌≡◌, ℕ, ◌≤◌, Bool, true, false, ltb, List, get_or, is_some, Some, None, Option, sym, refl, arith}
use Rattle.std.specs.Cmp.{IsStrictWeakOrder}
use Rattle.std.proofs.lemmas.List.MinMax.{IsStrictWeakOrder-by_number}
use Rattle.std.proofs.lemmas.Bool.{true≢false, ltb-false}
use Rattle.ranking.specs.Orders.{by_number}
use Rattle.ranking.proofs.Orders.{itself, then_by_ranks, then_by_level, then_by_parts, none_last_ranks}
use Rattle.holders.specs.declared.key.Key.{Key}
use Rattle.holders.specs.Keys.{key_before, before_key, sooner}

pub key_ranks : IsStrictWeakOrder key_before
key_ranks = then_by_ranks (by_number (λ (k : Key). k.time)) (by_number (λ (k : Key). k.serial)) (IsStrictWeakOrder-by_number (λ k. k.time)) (IsStrictWeakOrder-by_number (λ k. k.serial))

pub bearing_ranks : IsStrictWeakOrder before_key
bearing_ranks = none_last_ranks key_before key_ranks

pub none_before : (a b : Option Key) → is_some a ≡ false → before_key a b ≡ false
none_before None b s = refl
none_before (Some a) b s = absurd (true≢false s)

pub before_none : (a b : Option Key) → is_some a ≡ true → is_some b ≡ false → before_key a b ≡ true
before_none None b s n = absurd (true≢false (sym s))
before_none (Some a) None s n = refl
before_none (Some a) (Some b) s n = absurd (true≢false n)

module _ (ks : List (Option Key)) where
  -- places by their keys alone
  abbrev bearing : ℕ → ℕ → Bool
  bearing p q = before_key (get_or ks p None) (get_or ks q None)

  pub bearing_at : IsStrictWeakOrder bearing
  bearing_at = record { one_way = λ p q. bearing_ranks.one_way (get_or ks p None) (get_or ks q None); chain = λ p q r. bearing_ranks.chain (get_or ks p None) (get_or ks q None) (get_or ks r None) }

  pub sooner_ranks : IsStrictWeakOrder (sooner ks)
  sooner_ranks = then_by_ranks bearing ltb bearing_at (IsStrictWeakOrder-by_number (λ n. n))

  pub sooner_itself : (p : ℕ) → sooner ks p p ≡ false
  sooner_itself = itself (sooner ks) sooner_ranks

  pub sooner_parts : (p q : ℕ) → sooner ks p q ≡ false → (before_key (get_or ks p None) (get_or ks q None) ≡ false) × (before_key (get_or ks q None) (get_or ks p None) ≡ false → q ≤ p)
  sooner_parts p q h = let a = then_by_parts bearing ltb p q h in (a.0, λ n. ltb-false p q (a.1 n))

  -- of two different places one comes before the other
  pub sooner_one : (p q : ℕ) → sooner ks p q ≡ false → sooner ks q p ≡ false → p ≡ q
  sooner_one p q h k = let a = then_by_level bearing ltb p q h k in omega (arith, ltb-false p q a.2, ltb-false q p a.3)
