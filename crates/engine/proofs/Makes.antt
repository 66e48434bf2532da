-- A granted make is a new block, and then an overwrite of the place.
use Rattle.std.proofs.Common.{◌≡◌, ℕ, ◌+◌, Bool, false, cond, ltb, [], ◌∷◌, Some, None, Ok, Option, Result, sym, ap, ◌∙◌, arith}
use Rattle.calls.specs.declared.Answer.{Answer}
use Rattle.calls.specs.declared.Answer.TheVariants.{Done}
use Rattle.calls.specs.declared.Call.TheVariants.{Make}
use Rattle.calls.specs.declared.Refusal.{Refusal}
use Rattle.calls.specs.declared.Refusal.TheVariants.{NoSuchPlace, TooLarge, NoRoom}
use Rattle.model.specs.Classes.{fitting}
use Rattle.model.specs.State.{State, Heap, with_heap}
use Rattle.model.specs.Making.{overwrite, page_to_take, ready_pages, free_number, with_new}
use Rattle.model.specs.Refusals.{is_none, no_place, first_refusal}
use Rattle.model.specs.Calls.{if_some, made_in, decided, apply}
use Rattle.collector.specs.View.{new_heap}
use Rattle.heap.specs.View.{new_number}

module _ (s : State) (p r d n : ℕ) where
  abbrev number_if : Bool → Option ℕ → Option ℕ
  number_if large o = if_some (cond large None o) (λ g. Some (free_number (ready_pages s.heap.pages g (fitting (2 + r + d))) g)) None

  abbrev heap_if : Bool → Option ℕ → Heap
  heap_if large o = if_some (cond large None o) (λ g. with_new s.heap g (fitting (2 + r + d)) r d) s.heap

  abbrev apply_if : Bool → Bool → Option ℕ → State × Result Answer Refusal
  apply_if outside large o = decided (first_refusal ((outside, NoSuchPlace) ∷ (large, TooLarge) ∷ (is_none o, NoRoom) ∷ [])) s (if_some o (made_in s p r d) s) Done

  -- where the place is one of the row and the record is not too large
  given_page : (o : Option ℕ) → Some n ≡ number_if false o → apply_if false false o ≡ (overwrite (with_heap s (heap_if false o)) p n, Ok Done)
  given_page None e = let z : ◌≡◌ {A = ℕ} 0 1 = cc in absurd (omega arith)
  given_page (Some g) e =
      let q : free_number (ready_pages s.heap.pages g (fitting (2 + r + d))) g ≡ n = cc in
      ap (λ m. (overwrite (with_heap s (with_new s.heap g (fitting (2 + r + d)) r d)) p m, Ok Done)) q

  pub make_granted : no_place s p ≡ false → ltb 30 (r + d) ≡ false → Some n ≡ new_number s.heap.pages r d
      → apply (Make p r d) s ≡ (overwrite (with_heap s (new_heap s.heap r d)) p n, Ok Done)
  make_granted within small e =
      let o = page_to_take s.heap.pages (fitting (2 + r + d)) in
      ap (λ x. apply_if x (ltb 30 (r + d)) o) within
      ∙ ap (λ x. apply_if false x o) small
      ∙ given_page o (e ∙ ap (λ x. number_if x o) small)
      ∙ sym (ap (λ x. (overwrite (with_heap s (heap_if x o)) p n, Ok Done)) small)
