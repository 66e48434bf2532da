-- The wanted records: nil among them, those of the places, what a wanted record refers to, and all that are made later.
use Rattle.std.proofs.Common.{◌≡◌, ℕ, ◌<◌, ◌≤◌, List, length, get_or, Some, None, sym, refl, ap, ◌∙◌, subst, inl, inr, ⊎_elim}
use Rattle.std.proofs.lemmas.List.{get_or_past}
use Rattle.std.proofs.lemmas.Bool.{cases_lt}
use Rattle.model.specs.Pages.{Block, forward_of}
use Rattle.model.specs.Graph.{Record}
use Rattle.theory.proofs.Lists.{In, in_map}
use Rattle.theory.proofs.Memory.{Mem, form}
use Rattle.theory.proofs.Records.{find, record_of}
use Rattle.theory.proofs.StandsFor.{NilOr, StandsFor}

pub record Closed (T : ℕ → Type 0) (ns : List Record) (ys : List ℕ) : Type 0 where
  pub none : T 0
  pub roots : (y : ℕ) → In ys y → T y
  pub refs : (x : ℕ) (d : Record) (y : ℕ) → T x → find ns x ≡ Some d → In d.refs y → T y
  pub more : (x : ℕ) → length ns < x → T x

module _ {T : ℕ → Type 0} {own : ℕ → ℕ} {M : Mem} {L : ℕ → Type 0} {ns : List Record} {xs ys : List ℕ} (s : StandsFor M L own ns xs ys)
    (k : Closed T ns ys) where
  pub place_wanted : (r : ℕ) → In xs r → T (own r)
  place_wanted r i = k.roots (own r) (subst (λ l. In l (own r)) s.holds (in_map own xs i))

  pub wanted_at : (p : ℕ) → T (own (get_or xs p 0))
  wanted_at p =
      ⊎_elim
      (λ (l : p < length xs). place_wanted (get_or xs p 0) (record { at = p; inside = l; is = refl }))
      (λ (l : length xs ≤ p). subst T (sym (ap own (get_or_past xs p 0 l) ∙ s.none)) k.none)
      (cases_lt p (length xs))

  pub ref_wanted : (n : ℕ) (b : Block) (r : ℕ) → L n → M n ≡ Some b → b.forward ≡ n → T (own n) → In b.refs r → T (own r)
  ref_wanted n b r l e f t i = k.refs (own n) (record_of own b) (own r) t (s.contents n b l e f) (in_map own b.refs i)

  pub form_wanted : M 0 ≡ None → (r : ℕ) → NilOr L r → T (own r) → T (own (form M r))
  form_wanted z r (inl e) t = subst (λ j. T (own j)) (e ∙ sym (ap forward_of (ap M e ∙ z))) t
  form_wanted z r (inr l) t =
      let x = s.there r l in
      subst T (sym (ap own (ap forward_of x.1) ∙ x.3)) t
