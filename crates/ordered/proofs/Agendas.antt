-- What holds of an ordered agenda, and of one whose keys change.
use Rattle.std.proofs.Common.{◌≡◌, ℕ, zero, suc, ◌+◌, ◌-◌, ◌<◌, ◌≤◌, true, false, List, [], ◌∷◌, ◌++◌, length, get_or, set, replicate, is_some, Some, None, Option, sym, refl, ap, ◌∙◌, subst, ⊎_elim, arith}
use Rattle.std.specs.List.{position, position_or_len, swap_remove}
use Rattle.std.specs.Option.{IsSome}
use Rattle.std.specs.Prelude.{◌==◌, not}
use Rattle.std.proofs.lemmas.List.{get_or-set_same, get_or-set_other, get_or-take, get_or_append_left, length-set, length-append, length-take-le}
use Rattle.std.proofs.Math.Seq.{get_or-append_seam}
use Rattle.std.proofs.lemmas.List.Sums.{prefix_len_passes}
use Rattle.std.proofs.lemmas.List.Quantifiers.{position-Some}
use Rattle.std.proofs.lemmas.Grind.{get_or_default_zero}
use Rattle.std.proofs.lemmas.Bool.{cases_Bool, both_ways, cases_lt, cond-true, eqb-true, lt-ltb}
use Rattle.std.proofs.lemmas.Bool.Decides.{nat_tests}
use Rattle.holders.specs.declared.key.Key.{Key}
use Rattle.holders.specs.Keys.{first_of, keyed, sooner}
use Rattle.ordered.specs.Heaps.{tally, at, Heaped, Members, Near, Above, Entered, InOrder, InOrderBut}
use Rattle.ordered.specs.declared.agenda.OrderedAgenda.{OrderedAgenda}
use Rattle.holders.proofs.Orders.{sooner_ranks, sooner_itself}
use Rattle.holders.proofs.Firsts.{first_none, first_from_sooner}
use Rattle.ordered.proofs.Heaps.{root_least}
use Rattle.ordered.proofs.Tallies.{sooner_others, keyed_others, keyed_within, tally_key, tally_unkey, tally_room}
use Rattle.ordered.proofs.Changes.{Changed, add_near, add_members, cut_heaped, cut_near, cut_members}

-- what a removal leaves: a row with a moved entry at i
pub record Removed (ks' : List (Option Key)) (row : List ℕ) (i : ℕ) : Type 0 where
  pub within : i ≤ length row
  pub tallied : length row ≡ tally ks'
  pub entered : Entered ks' row
  pub near : i < length row → InOrderBut ks' row i
  pub in_order : i ≡ length row → InOrder ks' row

-- what an addition leaves: a row with a new entry at i
pub record Added (ks' : List (Option Key)) (row : List ℕ) (i : ℕ) : Type 0 where
  pub tallied : length row ≡ tally ks'
  pub entered : Entered ks' row
  pub near : InOrderBut ks' row i × Above (sooner ks') (at row) (length row) i

changed : (ks ks' : List (Option Key)) (p : ℕ) (k : Option Key) → ks' ≡ set ks p k → Changed (sooner ks) (sooner ks') (keyed ks) (keyed ks') p
changed ks ks' p k e = record {
  order = λ q r nq nr. ap (λ v. sooner v q r) e ∙ sooner_others ks p k q r nq nr;
  bears = λ q nq. ap (λ v. keyed v q) e ∙ keyed_others ks p k q nq;
}

pub none_keyed : (n p : ℕ) → keyed (replicate n None) p ≡ false
none_keyed zero p = refl
none_keyed (suc n) zero = refl
none_keyed (suc n) (suc p) = none_keyed n p

module _ (a : OrderedAgenda) where
  abbrev ks : List (Option Key)
  ks = a.table.keys

  abbrev row : List ℕ
  row = a.entries.items

  pub first_empty : length row ≡ 0 → 64 ≡ first_of ks
  first_empty e =
      sym (first_none ks (λ k. ⊎_elim
      (λ (t : keyed ks k ≡ true). absurd (a.entered.2 k t (λ i l _. let no : ⊥ = omega arith in no)))
      (λ f. f) (cases_Bool (keyed ks k))) ∙ a.table.deep)

  pub first_root : 0 < length row → at row 0 ≡ first_of ks
  first_root pos =
      first_from_sooner ks (at row 0) (a.entered.0 0 pos)
      (λ q kq. ⊎_elim
      (λ (t : sooner ks q (at row 0) ≡ true). absurd (a.entered.2 q kq (λ i l e.
      both_ways _ (root_least (sooner ks) (sooner_ranks ks) (at row) (at row) (length row) a.in_order (sooner_itself ks) (suc i) i (omega arith) l)
      (ap (λ v. sooner ks v (at row 0)) e ∙ t))))
      (λ f. f) (cases_Bool (sooner ks q (at row 0))))

  -- a search for a keyed place finds it
  pub is_found : (p : ℕ) → keyed ks p ≡ true → IsSome (position (λ q. q == p) row)
  is_found p kp =
      let i = position_or_len (λ q. q == p) row in
      ⊎_elim (λ (l : position_or_len (λ q. q == p) row < length row). let o : position (λ q. q == p) row ≡ Some (position_or_len (λ q. q == p) row) = cond-true _ _ _ (lt-ltb _ _ l) in subst IsSome (sym o) refl)
      (λ (l : length row ≤ position_or_len (λ q. q == p) row). absurd (a.entered.2 p kp (λ k kl same.
      let not_here = prefix_len_passes (λ q. not (q == p)) row k 0 (omega arith) in grind (arith, nat_tests))))
      (cases_lt (position_or_len (λ q. q == p) row) (length row))

  pub found_at : (p i : ℕ) → position (λ q. q == p) row ≡ Some i → (i < length row) × (at row i ≡ p)
  found_at p i e = let f = position-Some (λ q. q == p) row i 0 e in (f.0, eqb-true _ _ f.1)

  -- the place p, which stands at i, loses its key, and the last entry takes its place
  module _ (ks' : List (Option Key)) (p i d : ℕ) (kp : keyed ks p ≡ true) (l : i < length row) (here : at row i ≡ p) (e : ks' ≡ set ks p None) where
    abbrev last : ℕ
    last = length row - 1

    abbrev cut : List ℕ
    cut = swap_remove row i d

    cut_length : length cut ≡ last
    cut_length = length-take-le last (set row i (get_or row last d)) (omega (arith, length-set row i (get_or row last d)))

    same_length : length row ≡ last + 1
    same_length = omega arith

    gone : keyed ks' p ≡ false
    gone = ap (λ v. keyed v p) e ∙ ap is_some (get_or-set_same ks p None None (keyed_within ks p kp))

    at_i : i < last → at cut i ≡ at row last
    at_i il = get_or-take last _ i 0 il ∙ get_or-set_same row i (get_or row last d) 0 l ∙ get_or_default_zero row last d (omega arith)

    others : (j : ℕ) → j < last → (j ≡ i → ⊥) → at cut j ≡ at row j
    others j jl ne = get_or-take last _ j 0 jl ∙ get_or-set_other row i j (get_or row last d) 0 ne

    was : Members (keyed ks) (at row) (last + 1)
    was = subst (λ m. Members (keyed ks) (at row) m) same_length a.entered

    ordered : Heaped (sooner ks) (at row) (last + 1)
    ordered = subst (λ m. Heaped (sooner ks) (at row) m) same_length a.in_order

    pub removed : Removed ks' cut i
    removed =
        let ch = changed ks ks' p None e in
        let f : ℕ → ℕ = at row in
        let g : ℕ → ℕ = at cut in
        let w = cut_length in
        record {
          within = omega arith;
          tallied = let t = tally_unkey ks p kp in let q = ap tally e in let u = a.tallied in omega arith;
          entered = subst (λ m. Members (keyed ks') g m) (sym cut_length) (cut_members (sooner ks) (sooner ks') (keyed ks) (keyed ks') p ch f g last i (omega arith) here gone at_i others was);
          near = λ il. subst (λ m. Near (sooner ks') g m i) (sym cut_length) (cut_near (sooner ks) (sooner ks') (keyed ks) (keyed ks') p ch f g last i (omega arith) here gone at_i others was (sooner_ranks ks) ordered (omega arith));
          in_order = λ il. subst (λ m. Heaped (sooner ks') g m) (sym cut_length) (cut_heaped (sooner ks) (sooner ks') (keyed ks) (keyed ks') p ch f g last i (omega arith) here gone at_i others was ordered (omega arith));
        }

  -- there is room for a place that has no key
  pub room : (p : ℕ) → p < 64 → keyed ks p ≡ false → length row < 64
  room p l np = let d = a.table.deep in let t = tally_room ks p (omega arith) np in let u = a.tallied in omega arith

  -- the place p, which had no key, gets one, and stands at the end
  module _ (ks' : List (Option Key)) (p : ℕ) (k : Key) (pl : p < 64) (np : keyed ks p ≡ false) (e : ks' ≡ set ks p (Some k)) where
    abbrev longer : List ℕ
    longer = row ++ p ∷ []

    longer_length : length longer ≡ length row + 1
    longer_length = length-append row (p ∷ [])

    within : p < length ks
    within = let d = a.table.deep in omega arith

    bears : keyed ks' p ≡ true
    bears = ap (λ v. keyed v p) e ∙ ap is_some (get_or-set_same ks p (Some k) None within)

    at_end : at longer (length row) ≡ p
    at_end = get_or-append_seam row p [] 0

    rest : (j : ℕ) → j < length row → at longer j ≡ at row j
    rest j jl = get_or_append_left row (p ∷ []) 0 j jl

    pub added : Added ks' longer (length row)
    added =
        let ch = changed ks ks' p (Some k) e in
        let f : ℕ → ℕ = at row in
        let g : ℕ → ℕ = at longer in
        record {
          tallied = let w = longer_length in let t = tally_key ks p k within np in let q = ap tally e in let u = a.tallied in omega arith;
          entered = subst (λ m. Members (keyed ks') g m) (sym longer_length) (add_members (sooner ks) (sooner ks') (keyed ks) (keyed ks') p ch f g (length row) np bears at_end rest a.entered);
          near = subst (λ m. Near (sooner ks') g m (length row) × Above (sooner ks') g m (length row)) (sym longer_length) (add_near (sooner ks) (sooner ks') (keyed ks) (keyed ks') p ch f g (length row) np bears at_end rest a.entered a.in_order);
        }
