-- The runs that show that the law speaks of something, by computation.
use Rattle.std.proofs.Common.{◌≡◌, ℕ, zero, suc, List, [], ◌∷◌, ◌++◌, replicate, refl, ap, ◌∙◌, ⊎_elim, arith}
use Rattle.calls.specs.declared.Call.TheVariants.{Clear, Step, Store}
use Rattle.model.specs.Maps.{has}
use Rattle.model.specs.Pages.{Page, block_at, forward_of, uncut}
use Rattle.model.specs.Graph.{Event, Graph, Member, Reached, from_event, from_place, from_ref, here, record_at, there}
use Rattle.model.specs.Runs.{run_from, start}
use Rattle.theory.proofs.RunBounds.{fresh_none}
use Rattle.histories.proofs.Members.{member_cons, member_none}
use Rattle.theory.specs.Examples.{OldNumberForwarded, Freed, KeptForEvents, MadeInPageToBeSwept, MadeInSweptPage, Moved, OverwrittenInMarking, OverwrittenInRoots, before_its_root, before_its_scan, collected}

all_uncut : (run_from (start 1 1) collected).state.heap.pages ≡ replicate 64 uncut
all_uncut = refl

pub freed : Freed
freed = record {
  before = (1, (omega arith, refl), refl);
  ended = refl;
  after = λ h.
      let q = ap (λ (ps : List Page). forward_of (block_at ps h.0)) all_uncut ∙ ap forward_of (fresh_none h.0) in
      omega (arith, h.1.0, h.1.1, q);
}

pub moved : Moved
unfolding has
moved = record { ended = refl; old = refl; new = refl; granted = refl; answered = refl }

pub old_number_forwarded : OldNumberForwarded
unfolding has
old_number_forwarded = record { copy = refl; same = refl; ended = refl; place = refl; answered = refl }

pub kept_for_events : KeptForEvents
kept_for_events = record { first = refl; left = refl; time = refl }

-- a record that no place, no event and no reference names is not reached
unnamed : (g : Graph) (o : ℕ) → (Member o g.places → ⊥) → ((e : Event) → Member e g.events → ⊥) → ((x : ℕ) → Member o (record_at g x).refs → ⊥)
    → Reached g o → ⊥
unnamed g o p q r (from_place l m) = p m
unnamed g o p q r (from_event {e} m) = q e m
unnamed g o p q r (from_ref {o = x} l m n) = r x n

not_in : (o x y : ℕ) → (o ≡ x → ⊥) → (o ≡ y → ⊥) → Member o (x ∷ y ∷ []) → ⊥
not_in o x y a b m = ⊎_elim a (λ n. ⊎_elim b member_none (member_cons n)) (member_cons m)

pub overwritten_in_roots : OverwrittenInRoots
overwritten_in_roots = record {
  during = refl;
  reached = from_place (omega arith) (there here);
  ended = refl;
  unreached = unnamed _ 1 (not_in 1 0 0 (λ e. omega arith) (λ e. omega arith)) (λ e m. member_none m) refs;
  held = (1, (omega arith, refl), refl);
}
  where
    refs : (x : ℕ) → Member 1 (record_at (run_from (start 2 1) (before_its_root ++ Clear 1 ∷ Step 1000 ∷ [])).graph x).refs → ⊥
    refs zero m = member_none m
    refs (suc zero) m = member_none m
    refs (suc (suc x)) m = member_none m

pub overwritten_in_marking : OverwrittenInMarking
overwritten_in_marking = record {
  during = refl;
  reached = from_ref (omega arith) (from_place {o = 1} (omega arith) here) here;
  ended = refl;
  unreached = unnamed _ 2 (not_in 2 1 0 (λ e. omega arith) (λ e. omega arith)) (λ e m. member_none m) refs;
  held = (2, (omega arith, refl), refl);
}
  where
    refs : (x : ℕ) → Member 2 (record_at (run_from (start 2 1) (before_its_scan ++ Store 0 0 1 ∷ Step 1000 ∷ [])).graph x).refs → ⊥
    refs zero m = member_none m
    refs (suc zero) m = ⊎_elim (λ (e : 2 ≡ 0). omega arith) member_none (member_cons m)
    refs (suc (suc zero)) m = member_none m
    refs (suc (suc (suc x))) m = member_none m

pub made_in_page_to_be_swept : MadeInPageToBeSwept
made_in_page_to_be_swept = record { during = refl; at = refl; page = refl; ended = refl; held = (2, (omega arith, refl), refl); answered = refl }

pub made_in_swept_page : MadeInSweptPage
made_in_swept_page = record { during = refl; at = refl; page = refl; ended = refl; held = (2, (omega arith, refl), refl); answered = refl }
