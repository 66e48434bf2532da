-- The first size that holds the words is the smallest.
use Rattle.std.proofs.Common.{◌≡◌, ℕ, zero, suc, ◌/◌, ◌<◌, ◌≤◌, Bool, true, false, cond, ◌&&◌, eqb, ltb, leb, List, [], ◌∷◌, map, find, length, get_or, Some, None, unwrap_or, sym, refl, ap, ◌∙◌, subst, arith}
use Rattle.std.proofs.lemmas.Bool.{and_parts, leb-true, leb-false, ne_eqb, eq-eqb, eqb-true, both_ways}
use Rattle.std.specs.Option.{option_map}
use Rattle.model.specs.Classes.{sizes, first_fit, fitting}
use Rattle.pages.specs.declared.class.Class.{Class}
use Rattle.pages.specs.Classes.{class_numbered, size_for, Smallest}

abbrev pub class_of : ℕ → Class
class_of s = record { size = s; blocks = 256 / s }

-- no number of the list is less than `s`
abbrev from_on : ℕ → List ℕ → Bool
from_on s [] = true
from_on s (t ∷ ts) = leb s t && from_on s ts

-- the list rises, and begins above 0
abbrev rises : List ℕ → Bool
rises [] = true
rises (s ∷ ss) = leb 1 s && (from_on s ss && rises ss)

from_at : (s : ℕ) (ss : List ℕ) → from_on s ss ≡ true → (k : ℕ) → k < length ss → s ≤ get_or ss k 0
from_at s [] e k l = absurd (omega arith)
from_at s (t ∷ ts) e zero l = leb-true s t (and_parts (leb s t) (from_on s ts) e).0
from_at s (t ∷ ts) e (suc k) l = from_at s ts (and_parts (leb s t) (from_on s ts) e).1 k (omega arith)

pub record First (ss : List ℕ) (words size : ℕ) : Type 0 where
  pub listed : 0 < size → (k : ℕ) × (k < length ss) × (get_or ss k 0 ≡ size)
  pub holds : 0 < size → words ≤ size
  pub least : (k : ℕ) → k < length ss → words ≤ get_or ss k 0 → (0 < size) × (size ≤ get_or ss k 0)

first_is : (ss : List ℕ) (words : ℕ) → rises ss ≡ true → First ss words (first_fit ss words)
first_is [] words e = record { listed = λ l. absurd (omega arith); holds = λ l. absurd (omega arith); least = λ k l h. absurd (omega arith) }
first_is (s ∷ ss) words e =
    let a = and_parts (leb 1 s) (from_on s ss && rises ss) e in
    let b = and_parts (from_on s ss) (rises ss) a.1 in
    by (leb words s) refl (leb-true 1 s a.0) b.0 (first_is ss words b.1)
  where
    by : (t : Bool) → leb words s ≡ t → 1 ≤ s → from_on s ss ≡ true → First ss words (first_fit ss words) → First (s ∷ ss) words (cond t s (first_fit ss words))
    by true t p q r = record {
      listed = λ l. (0, omega arith, refl);
      holds = λ l. leb-true words s t;
      least = λ k. at k;
    }
      where
        at : (k : ℕ) → k < length (s ∷ ss) → words ≤ get_or (s ∷ ss) k 0 → (0 < s) × (s ≤ get_or (s ∷ ss) k 0)
        at zero l h = (omega arith, omega arith)
        at (suc k) l h = (omega arith, from_at s ss q k (omega arith))
    by false t p q r = record {
      listed = λ l. let i = r.listed l in let u = i.1 in (suc i.0, omega arith, i.2);
      holds = r.holds;
      least = λ k. at k;
    }
      where
        at : (k : ℕ) → k < length (s ∷ ss) → words ≤ get_or (s ∷ ss) k 0 → (0 < first_fit ss words) × (first_fit ss words ≤ get_or (s ∷ ss) k 0)
        at zero l h = let u = leb-false words s t in absurd (omega arith)
        at (suc k) l h = r.least k (omega arith) h

pub smallest : (words size : ℕ) → size ≡ fitting words → Smallest words size
smallest words size e =
    let P : ℕ → Type 0 = λ x. Smallest words x in
    let f = first_is sizes words refl in
    subst P (sym e) (record { listed = f.listed; holds = f.holds; least = f.least })

-- the first class of those sizes that holds the words has the size
first_class : (ss : List ℕ) (words : ℕ) → rises ss ≡ true
    → option_map (λ (c : Class). c.size) (find (λ c. leb words c.size) (map class_of ss)) ≡ cond (eqb (first_fit ss words) 0) None (Some (first_fit ss words))
first_class [] words e = refl
first_class (s ∷ ss) words e =
    let a = and_parts (leb 1 s) (from_on s ss && rises ss) e in
    by (leb words s) (leb-true 1 s a.0) (first_class ss words (and_parts (from_on s ss) (rises ss) a.1).1)
  where
    by : (t : Bool) → 1 ≤ s
        → option_map (λ (c : Class). c.size) (find (λ c. leb words c.size) (map class_of ss)) ≡ cond (eqb (first_fit ss words) 0) None (Some (first_fit ss words))
        → option_map (λ (c : Class). c.size) (cond t (Some (class_of s)) (find (λ c. leb words c.size) (map class_of ss)))
        ≡ cond (eqb (cond t s (first_fit ss words)) 0) None (Some (cond t s (first_fit ss words)))
    by true p r = sym (ap (λ (b : Bool). cond b None (Some s)) (ne_eqb s 0 (λ z. omega arith)))
    by false p r = r

pub fitting_class : (words : ℕ) → option_map (λ (c : Class). c.size) (find (λ c. leb words c.size) (map class_of sizes)) ≡ size_for words
fitting_class words = first_class sizes words refl

pub fitting_size : (words : ℕ) → unwrap_or (size_for words) 0 ≡ fitting words
fitting_size words = at (eqb (fitting words) 0) refl
  where
    at : (t : Bool) → eqb (fitting words) 0 ≡ t → unwrap_or (cond t None (Some (fitting words))) 0 ≡ fitting words
    at true e = sym (eqb-true (fitting words) 0 e)
    at false e = refl

pub size_given : (words size : ℕ) → Some size ≡ size_for words → (size ≡ fitting words) × (size ≡ 0 → ⊥)
size_given words size e = by (eqb (fitting words) 0) refl e
  where
    by : (t : Bool) → eqb (fitting words) 0 ≡ t → Some size ≡ cond t None (Some (fitting words)) → (size ≡ fitting words) × (size ≡ 0 → ⊥)
    by true q r = let z : ◌≡◌ {A = ℕ} 0 1 = cc in absurd (omega arith)
    by false q r =
        let is : size ≡ fitting words = cc in
        (is, λ z. both_ways (eqb (fitting words) 0) q (eq-eqb (fitting words) 0 (sym is ∙ z)))

-- every size of the table is from 4 to 32
abbrev between : List ℕ → Bool
between [] = true
between (s ∷ ss) = (leb 4 s && leb s 32) && between ss

between_at : (ss : List ℕ) → between ss ≡ true → (k : ℕ) → k < length ss → (4 ≤ get_or ss k 0) × (get_or ss k 0 ≤ 32)
between_at [] e k l = absurd (omega arith)
between_at (s ∷ ss) e zero l =
    let a = and_parts (leb 4 s) (leb s 32) (and_parts (leb 4 s && leb s 32) (between ss) e).0 in (leb-true 4 s a.0, leb-true s 32 a.1)
between_at (s ∷ ss) e (suc k) l = between_at ss (and_parts (leb 4 s && leb s 32) (between ss) e).1 k (omega arith)

pub size_between : (k : ℕ) → k < 20 → (4 ≤ get_or sizes k 0) × (get_or sizes k 0 ≤ 32)
size_between k l = between_at sizes refl k l

pub sized : (words size : ℕ) → Smallest words size → (size ≡ 0 → ⊥) → (4 ≤ size) × (size ≤ 32)
sized words size f ne =
    let i = f.listed (omega (arith, ne)) in
    let P : ℕ → Type 0 = λ x. (4 ≤ x) × (x ≤ 32) in
    subst P i.2 (size_between i.0 i.1)

-- ---- a place of the table

pub a_class : (k : ℕ) (c : Class) → Some c ≡ class_numbered k → (ltb k 20 ≡ true) × (c.size ≡ get_or sizes k 0)
a_class k c e = by (ltb k 20) e
  where
    by : (b : Bool) → Some c ≡ cond b (Some (class_of (get_or sizes k 0))) None → (b ≡ true) × (c.size ≡ get_or sizes k 0)
    by true q = let r : c ≡ class_of (get_or sizes k 0) = cc in (refl, ap (λ (x : Class). x.size) r)
    by false q = let z : ◌≡◌ {A = ℕ} 0 1 = cc in absurd (omega arith)
