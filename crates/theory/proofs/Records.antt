-- The records of a graph by number, and what its places lead to.
use Rattle.std.proofs.Common.{◌≡◌, ℕ, zero, suc, ◌+◌, ◌-◌, ◌<◌, ◌≤◌, ◌≢◌, ◌⊎◌, List, [], ◌∷◌, ◌++◌, map, length, get_or, set, replicate, Some, None, Option, sym, refl, ap, ◌∙◌, inl, inr, ⊎_elim, arith}
use Rattle.std.specs.List.{slice_get}
use Rattle.std.proofs.lemmas.List.{get_or-set_same, length-append, length-set}
use Rattle.std.proofs.lemmas.Option.{slice_get-get_or, slice_get_past}
use Rattle.std.proofs.lemmas.Bool.{cases_eq, cases_lt}
use Rattle.model.specs.Pages.{Block}
use Rattle.model.specs.Graph.{Graph, Record, no_such_record, record_at}
use Rattle.theory.proofs.Lists.{none_some, some_same}

-- records, what the places of the holder stand for and what those of the agenda stand for
pub record View : Type 0 where
  pub records : List Record
  pub holder : List ℕ
  pub agenda : List ℕ

-- records are numbered from 1, and 0 is none
abbrev pub find : List Record → ℕ → Option Record
find ns zero = None
find ns (suc k) = slice_get ns k

abbrev pub put_record : List Record → ℕ → Record → List Record
put_record ns zero x = ns
put_record ns (suc k) x = set ns k x

-- what a list of places leads to
pub data Reach (ns : List Record) (ys : List ℕ) : ℕ → Type 0 where
  root : {y : ℕ} → (k : ℕ) → k < length ys → get_or ys k 0 ≡ y → Reach ns ys y
  ref : {x y : ℕ} → Reach ns ys x → (d : Record) → find ns x ≡ Some d → (k : ℕ) → k < length d.refs → get_or d.refs k 0 ≡ y → Reach ns ys y

abbrev pub record_of : (ℕ → ℕ) → Block → Record
record_of own b = record { refs = map own b.refs; words = b.words }

nth_in : (ns : List Record) (k : ℕ) (x : Record) → slice_get ns k ≡ Some x → k < length ns
nth_in ns k x e = ⊎_elim (λ l. l) (λ l. none_some x (sym (slice_get_past ns k l) ∙ e)) (cases_lt k (length ns))

nth_set_same : (ns : List Record) (k : ℕ) (x y : Record) → slice_get ns k ≡ Some x → slice_get (set ns k y) k ≡ Some y
nth_set_same ns k x y e =
    let l = nth_in ns k x e in
    slice_get-get_or (set ns k y) k y (rw (length-set ns k y) l) ∙ ap Some (get_or-set_same ns k y y l)

pub nth_set_other : (ns : List Record) (k j : ℕ) (y : Record) → j ≢ k → slice_get (set ns k y) j ≡ slice_get ns j
nth_set_other [] k j y d = refl
nth_set_other (n ∷ ns) zero zero y d = absurd (d refl)
nth_set_other (n ∷ ns) zero (suc j) y d = refl
nth_set_other (n ∷ ns) (suc k) zero y d = refl
nth_set_other (n ∷ ns) (suc k) (suc j) y d = nth_set_other ns k j y (λ e. d (ap suc e))

pub find_put_same : (ns : List Record) (k : ℕ) (x y : Record) → find ns k ≡ Some x → find (put_record ns k y) k ≡ Some y
find_put_same ns zero x y e = none_some x e
find_put_same ns (suc k) x y e = nth_set_same ns k x y e

pub find_put_other : (ns : List Record) (k j : ℕ) (y : Record) → j ≢ k → find (put_record ns k y) j ≡ find ns j
find_put_other ns zero j y d = refl
find_put_other ns (suc k) zero y d = refl
find_put_other ns (suc k) (suc j) y d = nth_set_other ns k j y (λ e. d (ap suc e))

pub find_in : (ns : List Record) (k : ℕ) (x : Record) → find ns k ≡ Some x → (0 < k) × (k ≤ length ns)
find_in ns zero x e = none_some x e
find_in ns (suc k) x e = let h = nth_in ns k x e in (omega arith, omega arith)

nth_push : (ns : List Record) (k : ℕ) (x y : Record) → slice_get ns k ≡ Some x → slice_get (ns ++ y ∷ []) k ≡ Some x
nth_push [] k x y e = none_some x e
nth_push (n ∷ ns) zero x y e = e
nth_push (n ∷ ns) (suc k) x y e = nth_push ns k x y e

pub find_push : (ns : List Record) (k : ℕ) (x y : Record) → find ns k ≡ Some x → find (ns ++ y ∷ []) k ≡ Some x
find_push ns zero x y e = e
find_push ns (suc k) x y e = nth_push ns k x y e

nth_last : (ns : List Record) (y : Record) → slice_get (ns ++ y ∷ []) (length ns) ≡ Some y
nth_last [] y = refl
nth_last (n ∷ ns) y = nth_last ns y

pub find_last : (ns : List Record) (y : Record) → find (ns ++ y ∷ []) (suc (length ns)) ≡ Some y
find_last ns y = nth_last ns y

pub find_back : (ns : List Record) (k : ℕ) (a y : Record) → find ns k ≡ Some a → (x : ℕ) (d : Record) → find (put_record ns k y) x ≡ Some d
    → (e : Record) × (find ns x ≡ Some e)
find_back ns k a y f x d e =
    ⊎_elim
    (λ (g : x ≡ k). (a, ap (find ns) g ∙ f))
    (λ (g : x ≡ k → ⊥). (d, sym (find_put_other ns k x y g) ∙ e))
    (cases_eq x k)

pub length_put : (ns : List Record) (k : ℕ) (y : Record) → length (put_record ns k y) ≡ length ns
length_put ns zero y = refl
length_put ns (suc k) y = length-set ns k y

abbrev pub blank : ℕ → ℕ → Record
blank r d = record { refs = replicate r 0; words = replicate d 0 }

pub find_there : (rs : List Record) (x : ℕ) → 0 < x → x ≤ length rs → (d : Record) × (find rs x ≡ Some d)
find_there rs zero a b = absurd (omega arith)
find_there rs (suc k) a b = (get_or rs k no_such_record, slice_get-get_or rs k no_such_record (omega arith))

pub push_cases : (ns : List Record) (y : Record) (x : ℕ) (d : Record) → find (ns ++ y ∷ []) x ≡ Some d
    → (find ns x ≡ Some d) ⊎ ((x ≡ suc (length ns)) × (d ≡ y))
push_cases ns y x d e = go (find ns x) refl
  where
    go : (z : Option Record) → find ns x ≡ z → (find ns x ≡ Some d) ⊎ ((x ≡ suc (length ns)) × (d ≡ y))
    go (Some a) f = inl (f ∙ ap Some (some_same (find_push ns x a y f) e))
    go None f =
        let l = find_in (ns ++ y ∷ []) x d e in
        let q : length (ns ++ y ∷ []) ≡ length ns + 1 = length-append ns (y ∷ []) in
        ⊎_elim
        (λ (g : x ≡ suc (length ns)). inr (g, some_same e (ap (find (ns ++ y ∷ [])) g ∙ find_last ns y)))
        (λ (g : x ≡ suc (length ns) → ⊥).
        let z = find_there ns x l.0 (omega (arith, l.1, q, g)) in none_some z.0 (sym f ∙ z.1))
        (cases_eq x (suc (length ns)))

nth_some : (rs : List Record) (k : ℕ) (d : Record) → slice_get rs k ≡ Some d → get_or rs k no_such_record ≡ d
nth_some rs k d e = some_same (slice_get-get_or rs k no_such_record (nth_in rs k d e)) e

nth_none : (rs : List Record) (k : ℕ) → slice_get rs k ≡ None → get_or rs k no_such_record ≡ no_such_record
nth_none [] k e = refl
nth_none (r ∷ rs) zero e = none_some r (sym e)
nth_none (r ∷ rs) (suc k) e = nth_none rs k e

pub record_some : (g : Graph) (o : ℕ) (d : Record) → find g.records o ≡ Some d → record_at g o ≡ d
record_some g zero d e = none_some d e
record_some g (suc o) d e = nth_some g.records o d e

pub record_none : (g : Graph) (o : ℕ) → find g.records o ≡ None → record_at g o ≡ no_such_record
record_none g zero e = refl
record_none g (suc o) e = nth_none g.records o e

pub put_set : (rs : List Record) (o : ℕ) (r : Record) → 0 < o → put_record rs o r ≡ set rs (o - 1) r
put_set rs zero r l = absurd (omega arith)
put_set rs (suc k) r l = ap (λ i. set rs i r) (let q : k ≡ suc k - 1 = omega arith in q)
