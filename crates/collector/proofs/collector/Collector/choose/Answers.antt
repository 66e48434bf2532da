use Rattle.std.proofs.Common.{◌≡◌, ℕ, ◌<◌, List, get_or, Some, None, Option, sym, refl, ap, ◌∙◌, subst, ap₂, arith, length}
use Rattle.model.specs.Classes.{sizes}
use Rattle.model.specs.Pages.{Page}
use Rattle.model.specs.Units.{source_page}
use Rattle.heap.specs.View.{view}
use Rattle.heap.proofs.Views.{long}
use Rattle.collector.specs.declared.collector.Collector.{Collector}
use Rattle.collector.specs.declared.phase.Phase.{Phase}
use Rattle.collector.specs.declared.phase.Phase.TheVariants.{Moving}
use Rattle.collector.specs.Sound.{left, pressed, Placed}
use Rattle.collector.specs.Moving.{next_of}
use Rattle.collector.proofs.Phases.{placed_at, left_at}
use Rattle.pages.specs.Choices.{movable, source_of}
use Rattle.collector.proofs.Moves.{picked_open, choose_left, closed_placed, done_left, done_pressed, done_placed, spent_next, source_in}
use Rattle.collector.proofs.collector.Collector.choose.Goals as goal

-- the choice, in the moving phase
chosen_in : (h : Collector) (k : ℕ) (r : Option ℕ) → h.phase ≡ Moving k None → r ≡ source_of (view h.tracing.heap) k h.targets
    → r ≡ movable (get_or sizes k 0) (view h.tracing.heap) (source_page (view h.tracing.heap) (get_or sizes k 0) h.targets)
chosen_in h k r e q = q ∙ source_in (view h.tracing.heap) k h.targets (placed_at h (Moving k None) e).0

-- after the class
module _ (h : Collector) (k : ℕ) (ph : Phase) (qs : List Page) (e : h.phase ≡ Moving k None) (is : ph ≡ next_of k) (v : qs ≡ view h.tracing.heap) where
  done : left ph qs (length h.tracing.work.items) < left h.phase (view h.tracing.heap) (length h.tracing.work.items)
  done =
      let a = placed_at h (Moving k None) e in
      let w = left_at h (Moving k None) e in
      let s = spent_next k (view h.tracing.heap) in
      let d = done_left (view h.tracing.heap) (view h.tracing.heap) k (length h.tracing.work.items) None a.0 (omega arith) in
      let x = ap₂ (λ (y : Phase) (ps : List Page). left y ps (length h.tracing.work.items)) is v in
      omega arith

pub invariant_of-self : goal.invariant_of-self
invariant_of-self c =
    let h = c.args.self.now in
    let k : ℕ = c.args.class in
    let ph : Phase = c.after_class-self.result in
    let qs : List Page = view c.close_source.new.self in
    let is : ph ≡ next_of k = c.after_class-self.ensures in
    let d = done h k ph qs c.requires is c.in-None.ensures.view in
    let f = h.fuel in
    let p = ap (λ (x : Phase). pressed x qs (length h.tracing.work.items)) is ∙ done_pressed qs k (length h.tracing.work.items) in
    record {
      spare = omega arith;
      fuel = omega arith;
      sited = let P : Phase → Type 0 = λ x. Placed x qs in subst P (sym is) (done_placed qs k);
    }

pub invariant_of-self-in-Some : goal.invariant_of-self-in-Some
invariant_of-self-in-Some c =
    let h = c.args.self.now in
    let k : ℕ = c.args.class in
    let g : ℕ = c.in-Some.g in
    let n = long h.tracing.heap in
    let p = picked_open k h.targets (view h.tracing.heap) g (sym (chosen_in h k (Some g) c.requires c.in-Some.ensures.source)) in
    let q = p.0 in
    let a = (placed_at h (Moving k None) c.requires).0 in
    let l = choose_left h.tracing.heap c.close_source.new.self k g (length h.tracing.work.items) a (omega arith) p.1 c.in-Some.ensures.view in
    let w = left_at h (Moving k None) c.requires in
    let f = h.fuel in
    record {
      spare = omega arith;
      fuel = omega arith;
      sited = closed_placed (view h.tracing.heap) (view c.close_source.new.self) k g n a (omega arith) p.1 c.in-Some.ensures.view;
    }

pub returns-in-None-clause-advance : goal.returns-in-None-clause-advance
returns-in-None-clause-advance c =
    record { units = refl; left = done c.args.self.now c.args.class c.after_class-self.result (view c.close_source.new.self) c.requires c.after_class-self.ensures c.in-None.ensures.view }

pub returns-in-Some-clause-advance : goal.returns-in-Some-clause-advance
returns-in-Some-clause-advance c =
    let h = c.args.self.now in
    let k : ℕ = c.args.class in
    let g : ℕ = c.in-Some.g in
    let n = long h.tracing.heap in
    let p = picked_open k h.targets (view h.tracing.heap) g (sym (chosen_in h k (Some g) c.requires c.in-Some.ensures.source)) in
    let q = p.0 in
    let a = (placed_at h (Moving k None) c.requires).0 in
    let l = choose_left h.tracing.heap c.close_source.new.self k g (length h.tracing.work.items) a (omega arith) p.1 c.in-Some.ensures.view in
    let w = left_at h (Moving k None) c.requires in
    record { units = refl; left = omega arith }
