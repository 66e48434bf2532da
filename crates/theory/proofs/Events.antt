-- The events and the keyed places of the agenda, one to one.
use Rattle.std.proofs.Common.{◌≡◌, ℕ, suc, ◌<◌, false, List, ◌∷◌, length, get_or, set, Some, None, Option, sym, refl, ap, ◌∙◌, subst, ap₂, ⊎_elim, arith}
use Rattle.std.proofs.lemmas.List.{get_or-set_other, get_or-set_same, length-set}
use Rattle.std.proofs.lemmas.Bool.{cases_eq}
use Rattle.holders.specs.Keys.{first_of, key_before, spare_of}
use Rattle.holders.specs.declared.key.Key.{Key}
use Rattle.model.specs.Pages.{occupied}
use Rattle.model.specs.Refusals.{first_keyed, keyed_at}
use Rattle.model.specs.Graph.{Event, Member, there}
use Rattle.histories.proofs.Members.{member_cons, member_eq}
use Rattle.theory.proofs.Lists.{none_some, occupied_drop, occupied_fill, set_cases, some_in, some_same}
use Rattle.histories.proofs.Splits.{Distinct, Splits}
use Rattle.theory.proofs.Keys.{LeastKey, first_is_least, neither_before, spare_none}

-- an event that is not before another
abbrev pub Late : Key → Key → Type 0
Late a b = key_before a b ≡ false

abbrev pub event : Key → ℕ → Event
event k x = record { key = k; names = x }

-- the first keyed place, with its key
pub record Due (ks : List (Option Key)) (k : Key) (i : ℕ) : Type 0 where
  pub key : get_or ks i None ≡ Some k
  pub first : (d : ℕ) (l : Key) → get_or ks d None ≡ Some l → Late l k

abbrev pub Found : List (Option Key) → Option (Key × ℕ) → Type 0
Found ks None = LeastKey ks None
Found ks (Some x) = Due ks x.0 x.1

pub first_found : (ks : List (Option Key)) → Found ks (first_keyed ks)
first_found ks = go (get_or ks (first_of ks) None) refl (first_is_least ks)
  where
    go : (x : Option Key) → get_or ks (first_of ks) None ≡ x → LeastKey ks x → Found ks (keyed_at x (first_of ks))
    go None e h = h
    go (Some k) e h = record { key = e; first = h }

pub record Met (keys : List (Option Key)) (named : List ℕ) (e : Event) : Type 0 where
  pub at : ℕ
  pub key : Key
  pub is : get_or keys at None ≡ Some key
  pub same : event key (get_or named at 0) ≡ e

-- `named` is what the agenda's places stand for, and `next` is the next serial
pub record Agenda (keys : List (Option Key)) (named : List ℕ) (events : List Event) (next : ℕ) : Type 0 where
  pub planned : (i : ℕ) (k : Key) → get_or keys i None ≡ Some k → Member (event k (get_or named i 0)) events
  pub met : (e : Event) → Member e events → Met keys named e
  pub apart : (i j : ℕ) (k l : Key) → get_or keys i None ≡ Some k → get_or keys j None ≡ Some l → k ≡ l → i ≡ j
  pub distinct : Distinct events
  pub below : (i : ℕ) (k : Key) → get_or keys i None ≡ Some k → k.serial < next
  pub empty : (i : ℕ) → get_or keys i None ≡ None → get_or named i 0 ≡ 0
  pub full : (i : ℕ) (k : Key) → get_or keys i None ≡ Some k → 0 < get_or named i 0
  pub many : length events ≡ occupied keys
  pub wide : length keys ≡ length named

module _ {ks : List (Option Key)} {named : List ℕ} {es : List Event} {next : ℕ} (a : Agenda ks named es next) where
  -- one more event, in the lowest place without a key
  module _ (t v : ℕ) (l : spare_of ks < length ks) (pos : 0 < v) where
    abbrev pub new_key : Key
    new_key = record { time = t; serial = next }

    abbrev schedule_place : ℕ
    schedule_place = spare_of ks

    abbrev schedule_keys : List (Option Key)
    schedule_keys = set ks schedule_place (Some new_key)

    abbrev schedule_names : List ℕ
    schedule_names = set named schedule_place v

    schedule_here : get_or schedule_names schedule_place 0 ≡ v
    schedule_here = get_or-set_same named schedule_place v 0 (omega (arith, a.wide, l))

    schedule_other : (j : ℕ) → (j ≡ schedule_place → ⊥) → get_or schedule_names j 0 ≡ get_or named j 0
    schedule_other j d = get_or-set_other named schedule_place j v 0 d

    pub schedule_agenda : Agenda (set ks (spare_of ks) (Some (record { time = t; serial = next }))) (set named (spare_of ks) v) (event (record { time = t; serial = next }) v ∷ es) (suc next)
    schedule_agenda = record {
      planned = λ j k e. ⊎_elim
          (λ p.
          let q : new_key ≡ k = some_same refl p.1 in
          member_eq (ap₂ event (sym q) (ap (λ i. get_or schedule_names i 0) p.0 ∙ schedule_here)))
          (λ p. there (subst (λ x. Member (event k x) es) (sym (schedule_other j p.0)) (a.planned j k p.1)))
          (set_cases ks schedule_place j (Some new_key) (Some k) l e);
      met = λ e m. ⊎_elim
          (λ (q : e ≡ event new_key v). record { at = schedule_place; key = new_key; is = get_or-set_same ks schedule_place (Some new_key) None l; same = ap (event new_key) schedule_here ∙ sym q })
          (λ i.
          let x = a.met e i in
          let d : x.at ≡ schedule_place → ⊥ = λ q. none_some x.key (sym (spare_none ks) ∙ ap (λ j. get_or ks j None) (sym q) ∙ x.is) in
          record { at = x.at; key = x.key; is = get_or-set_other ks schedule_place x.at (Some new_key) None d ∙ x.is; same = ap (event x.key) (schedule_other x.at d) ∙ x.same })
          (member_cons m);
      apart = λ i j k m e f q. ⊎_elim
          (λ x. ⊎_elim
          (λ y. x.0 ∙ sym y.0)
          (λ y. let z = a.below j m y.1 in let u : next ≡ k.serial = ap (λ (b : Key). b.serial) (some_same {x = Some k} (sym x.1) refl) in let w = ap (λ (b : Key). b.serial) q in absurd (omega (arith, z, u, w)))
          (set_cases ks schedule_place j (Some new_key) (Some m) l f))
          (λ x. ⊎_elim
          (λ y. let z = a.below i k x.1 in let u : next ≡ m.serial = ap (λ (b : Key). b.serial) (some_same {x = Some m} (sym y.1) refl) in let w = ap (λ (b : Key). b.serial) q in absurd (omega (arith, z, u, w)))
          (λ y. a.apart i j k m x.1 y.1 q)
          (set_cases ks schedule_place j (Some new_key) (Some m) l f))
          (set_cases ks schedule_place i (Some new_key) (Some k) l e);
      distinct = ((λ x m. let y = a.met x m in λ f. let z = a.below y.at y.key y.is in let u = ap (λ (b : Event). b.key.serial) y.same in let w = ap (λ (b : Key). b.serial) f in omega (arith, z, u, w)), a.distinct);
      below = λ i k e. ⊎_elim
          (λ x. let u : next ≡ k.serial = ap (λ (b : Key). b.serial) (some_same {x = Some k} (sym x.1) refl) in omega (arith, u))
          (λ x. let z = a.below i k x.1 in omega (arith, z))
          (set_cases ks schedule_place i (Some new_key) (Some k) l e);
      empty = λ i e. ⊎_elim
          (λ x. none_some new_key (sym x.1))
          (λ x. schedule_other i x.0 ∙ a.empty i x.1)
          (set_cases ks schedule_place i (Some new_key) None l e);
      full = λ i k e. ⊎_elim
          (λ x. subst (λ y. 0 < y) (sym (ap (λ j. get_or schedule_names j 0) x.0 ∙ schedule_here)) pos)
          (λ x. subst (λ y. 0 < y) (sym (schedule_other i x.0)) (a.full i k x.1))
          (set_cases ks schedule_place i (Some new_key) (Some k) l e);
      many = ap suc a.many ∙ sym (occupied_fill ks schedule_place new_key l (spare_none ks));
      wide = length-set ks schedule_place (Some new_key) ∙ a.wide ∙ sym (length-set named schedule_place v);
    }

  -- the first event and the first place are the same
  module _ {k : Key} {i : ℕ} (due : Due ks k i) {m : Event} {rest : List Event} (sp : Splits es m rest) where
    due_key : get_or ks i None ≡ Some k
    due_key = due.key

    due_in : i < length ks
    due_in = some_in ks i k due_key

    pub first_same : event k (get_or named i 0) ≡ m
    first_same =
        let x = a.met m sp.found in
        let same : x.key ≡ m.key = ap (λ (e : Event). e.key) x.same in
        let key : x.key ≡ k = neither_before x.key k (due.first x.at x.key x.is)
        (subst (λ (y : Key). Late k y) (sym same) (sp.least (event k (get_or named i 0)) (a.planned i k due_key))) in
        let at : x.at ≡ i = a.apart x.at i x.key k x.is due_key key in
        sym (ap₂ event key (ap (λ j. get_or named j 0) at)) ∙ x.same

    next_other : (j : ℕ) → (j ≡ i → ⊥) → get_or (set named i 0) j 0 ≡ get_or named j 0
    next_other j d = get_or-set_other named i j 0 0 d

    next_here : get_or (set named i 0) i 0 ≡ 0
    next_here = get_or-set_same named i 0 0 (let l = due_in in omega (arith, a.wide, l))

    first_key : m.key ≡ k
    first_key = sym (ap (λ (e : Event). e.key) first_same)

    pub next_agenda : Agenda (set ks i None) (set named i 0) rest next
    next_agenda = record {
      planned = λ j l e. ⊎_elim
          (λ x. none_some l x.1)
          (λ x. ⊎_elim
          (λ (q : event l (get_or named j 0) ≡ m).
          absurd (x.0 (a.apart j i l k x.1 due_key (ap (λ (e : Event). e.key) q ∙ first_key))))
          (λ q. subst (λ y. Member (event l y) rest) (sym (next_other j x.0)) q)
          (sp.to (event l (get_or named j 0)) (a.planned j l x.1)))
          (set_cases ks i j None (Some l) due_in e);
      met = λ e r.
          let x = a.met e (sp.from e r) in
          let d : x.at ≡ i → ⊥ = λ q.
          let key : x.key ≡ k = some_same x.is (ap (λ j. get_or ks j None) q ∙ due_key) in
          (sp.distinct a.distinct).0 e r (sym (ap (λ (y : Event). y.key) x.same) ∙ key ∙ sym first_key) in
          record { at = x.at; key = x.key; is = get_or-set_other ks i x.at None None d ∙ x.is; same = ap (event x.key) (next_other x.at d) ∙ x.same };
      apart = λ p q b c e f g. ⊎_elim
          (λ x. none_some b x.1)
          (λ x. ⊎_elim (λ y. none_some c y.1) (λ y. a.apart p q b c x.1 y.1 g) (set_cases ks i q None (Some c) due_in f))
          (set_cases ks i p None (Some b) due_in e);
      distinct = (sp.distinct a.distinct).1;
      below = λ j l e. ⊎_elim (λ x. none_some l x.1) (λ x. a.below j l x.1) (set_cases ks i j None (Some l) due_in e);
      empty = λ j e. ⊎_elim
          (λ (q : j ≡ i). ap (λ p. get_or (set named i 0) p 0) q ∙ next_here)
          (λ (q : j ≡ i → ⊥). next_other j q ∙ a.empty j (sym (get_or-set_other ks i j None None q) ∙ e))
          (cases_eq j i);
      full = λ j l e. ⊎_elim
          (λ x. none_some l x.1)
          (λ x. subst (λ y. 0 < y) (sym (next_other j x.0)) (a.full j l x.1))
          (set_cases ks i j None (Some l) due_in e);
      many = let u = sp.many in let v = occupied_drop ks i k due_key in omega (arith, u, v, a.many);
      wide = length-set ks i None ∙ a.wide ∙ sym (length-set named i 0);
    }
