use Rattle.std.proofs.Common.{◌≡◌, ℕ, ◌<◌, false, List, get_or, Some, None, sym, refl, ap, ◌∙◌, subst, ap₂, arith, length}
use Rattle.model.specs.Classes.{sizes}
use Rattle.model.specs.Maps.{with_flag_set}
use Rattle.model.specs.Pages.{Page, number, page_at, block_at, put_block, lowest_free}
use Rattle.model.specs.State.{moving, with_pages, with_phase, Phase as Stage}
use Rattle.model.specs.Units.{target_page, move_to, moved, close_page, lowest_current_block, with_forward}
use Rattle.heap.specs.View.{view, target_of, target_number, moved_to}
use Rattle.heap.proofs.Views.{long, few_slots}
use Rattle.collector.specs.declared.collector.Collector.{Collector}
use Rattle.collector.specs.declared.phase.Phase.{Phase}
use Rattle.collector.specs.declared.phase.Phase.TheVariants.{Moving}
use Rattle.collector.specs.Sound.{left, pressed, Placed}
use Rattle.collector.specs.Moving.{next_of}
use Rattle.collector.specs.View.{heap_of, stage}
use Rattle.collector.proofs.Phases.{placed_at, left_at}
use Rattle.collector.proofs.Moves.{Target, Moved, done_left, done_pressed, done_placed, done_stage, reopen_spent, to_move, block_there, target, apart, moved_left, moved_placed, target_in, no_target, a_target}
use Rattle.collector.proofs.collector.Collector.move_one.Goals as goal

-- the class is done, and the source is open again
module _ (h : Collector) (k g : ℕ) (ph : Phase) (qs : List Page) (e : h.phase ≡ Moving k (Some g)) (is : ph ≡ next_of k) (v : qs ≡ close_page (view h.tracing.heap) g false) where
  done : left ph qs (length h.tracing.work.items) < left h.phase (view h.tracing.heap) (length h.tracing.work.items)
  done =
      let a = placed_at h (Moving k (Some g)) e in
      let b = a.1.0 in
      let n = long h.tracing.heap in
      let w = left_at h (Moving k (Some g)) e in
      let s = reopen_spent (view h.tracing.heap) qs k g (omega arith) v in
      let d = done_left (view h.tracing.heap) qs k (length h.tracing.work.items) (Some g) a.0 s in
      let x = ap (λ (y : Phase). left y qs (length h.tracing.work.items)) is in
      omega arith

-- the block at hand
module _ (h : Collector) (k g s : ℕ) (e : h.phase ≡ Moving k (Some g)) (slot : lowest_current_block g 0 (page_at (view h.tracing.heap) g).slots ≡ Some s) where
  block : Moved (view h.tracing.heap) g s
  block = to_move (view h.tracing.heap) g s slot

  low : g < 64
  low = (placed_at h (Moving k (Some g)) e).1.0

  short : s < 64
  short = let w = block.within in let f = few_slots h.tracing.heap g low in omega arith

  there : block_at (view h.tracing.heap) (number g s) ≡ Some block.block
  there = block_there (view h.tracing.heap) g s short block

  target_is : target_of (view h.tracing.heap) (number g s) (block_at (view h.tracing.heap) (number g s)) ≡ target_page (view h.tracing.heap) (get_or sizes k 0)
  target_is = target_in (view h.tracing.heap) k g s block.block short there (placed_at h (Moving k (Some g)) e).1.1 (placed_at h (Moving k (Some g)) e).1.2

  -- no page takes it
  stays_put : None ≡ target_number (target_of (view h.tracing.heap) (number g s) (block_at (view h.tracing.heap) (number g s))) → target_page (view h.tracing.heap) (get_or sizes k 0) ≡ None
  stays_put q = sym target_is ∙ no_target (target_of (view h.tracing.heap) (number g s) (block_at (view h.tracing.heap) (number g s))) q

  -- it moves to page `t`
  module _ (t : ℕ) (q : Some t ≡ target_number (target_of (view h.tracing.heap) (number g s) (block_at (view h.tracing.heap) (number g s)))) where
    figure : ℕ
    figure = (a_target (target_of (view h.tracing.heap) (number g s) (block_at (view h.tracing.heap) (number g s))) t q).0

    found : target_page (view h.tracing.heap) (get_or sizes k 0) ≡ Some ((a_target (target_of (view h.tracing.heap) (number g s) (block_at (view h.tracing.heap) (number g s))) t q).0, t)
    found = sym target_is ∙ (a_target (target_of (view h.tracing.heap) (number g s) (block_at (view h.tracing.heap) (number g s))) t q).1

    chosen : Target (get_or sizes k 0) (view h.tracing.heap) t
    chosen = target (get_or sizes k 0) (view h.tracing.heap) ((a_target (target_of (view h.tracing.heap) (number g s) (block_at (view h.tracing.heap) (number g s))) t q).0, t) found

    goal_low : t < 64
    goal_low = let l = chosen.low in let n = long h.tracing.heap in omega arith

    goal_slot : lowest_free (page_at (view h.tracing.heap) t).slots < 64
    goal_slot = let r = chosen.room in let f = few_slots h.tracing.heap t goal_low in omega arith

    differ : g ≡ t → ⊥
    differ = apart (get_or sizes k 0) (view h.tracing.heap) t g chosen (placed_at h (Moving k (Some g)) e).1.1

    abbrev copy : ℕ
    copy = number t (lowest_free (page_at (view h.tracing.heap) t).slots)

    module _ (qs : List Page) (v : qs ≡ moved_to (view h.tracing.heap) (number g s) (target_of (view h.tracing.heap) (number g s) (block_at (view h.tracing.heap) (number g s)))) where
      moves : qs ≡ moved (view h.tracing.heap) (number g s) (number t (lowest_free (page_at (view h.tracing.heap) t).slots)) (block_at (view h.tracing.heap) (number g s))
      moves = v ∙ ap (moved_to (view h.tracing.heap) (number g s)) (target_is ∙ found)

      ended : qs ≡ put_block (put_block (view h.tracing.heap) copy (with_forward block.block copy)) (number g s) (with_forward block.block copy)
      ended = moves ∙ ap (moved (view h.tracing.heap) (number g s) copy) there

      falls : left h.phase qs (length h.tracing.work.items) < left h.phase (view h.tracing.heap) (length h.tracing.work.items)
      falls =
          let a = moved_left (view h.tracing.heap) (long h.tracing.heap) g s t (lowest_free (page_at (view h.tracing.heap) t).slots) low short goal_low goal_slot differ block k (length h.tracing.work.items) qs ended in
          let b = left_at h (Moving k (Some g)) e in
          let c = ap (λ (y : Phase). left y qs (length h.tracing.work.items)) e in
          omega arith

      stands : Placed h.phase qs
      stands =
          let P : Phase → Type 0 = λ x. Placed x qs in
          subst P (sym e)
          (moved_placed (view h.tracing.heap) (long h.tracing.heap) g s t (lowest_free (page_at (view h.tracing.heap) t).slots) low short goal_low goal_slot differ block k qs ended
          (placed_at h (Moving k (Some g)) e))

-- the number of the block is small
pub overflow_add-n : goal.overflow_add-n
overflow_add-n c =
    let a = low c.args.self.now c.args.class c.args.g c.args.s c.requires.phase c.requires.slot in
    let b = short c.args.self.now c.args.class c.args.g c.args.s c.requires.phase c.requires.slot in
    omega arith

pub overflow_add-n-2 : goal.overflow_add-n-2
overflow_add-n-2 c =
    let a = low c.args.self.now c.args.class c.args.g c.args.s c.requires.phase c.requires.slot in
    let b = short c.args.self.now c.args.class c.args.g c.args.s c.requires.phase c.requires.slot in
    omega arith

pub overflow_cast-n : goal.overflow_cast-n
overflow_cast-n c =
    let a = low c.args.self.now c.args.class c.args.g c.args.s c.requires.phase c.requires.slot in
    let b = short c.args.self.now c.args.class c.args.g c.args.s c.requires.phase c.requires.slot in
    omega arith

pub invariant_of-self : goal.invariant_of-self
invariant_of-self c =
    let h = c.args.self.now in
    let k : ℕ = c.args.class in
    let g : ℕ = c.args.g in
    let ph : Phase = c.after_class-self.result in
    let qs : List Page = view c.reopen.new.self in
    let is : ph ≡ next_of k = c.after_class-self.ensures in
    let put = stays_put h k g c.args.s c.requires.phase c.requires.slot c.in-None.ensures.target in
    let v : qs ≡ close_page (view h.tracing.heap) g false =
    c.reopen.ensures ∙ ap (λ (ps : List Page). close_page ps g false) (c.in-None.ensures.view ∙ ap (moved_to (view h.tracing.heap) (number g c.args.s)) (target_is h k g c.args.s c.requires.phase c.requires.slot ∙ put)) in
    let d = done h k g ph qs c.requires.phase is v in
    let f = h.fuel in
    let p = ap (λ (x : Phase). pressed x qs (length h.tracing.work.items)) is ∙ done_pressed qs k (length h.tracing.work.items) in
    record {
      spare = omega arith;
      fuel = omega arith;
      sited = let P : Phase → Type 0 = λ x. Placed x qs in subst P (sym is) (done_placed qs k);
    }

pub returns-in-None : goal.returns-in-None
returns-in-None c =
    let h = c.args.self.now in
    let k : ℕ = c.args.class in
    let g : ℕ = c.args.g in
    let put = stays_put h k g c.args.s c.requires.phase c.requires.slot c.in-None.ensures.target in
    let v : view c.reopen.new.self ≡ close_page (view h.tracing.heap) g false =
    c.reopen.ensures ∙ ap (λ (ps : List Page). close_page ps g false) (c.in-None.ensures.view ∙ ap (moved_to (view h.tracing.heap) (number g c.args.s)) (target_is h k g c.args.s c.requires.phase c.requires.slot ∙ put)) in
    record {
      heap =
          ap₂ (λ (x : Phase) (ps : List Page). with_phase (with_pages (heap_of h) ps) (stage x h.targets)) c.after_class-self.ensures v
          ∙ ap (with_phase (with_pages (heap_of h) (close_page (view h.tracing.heap) g false))) (done_stage k h.targets)
          ∙ ap (move_to (heap_of h) k h.targets g c.args.s) (sym put);
      advance = record { units = refl; left = done h k g c.after_class-self.result (view c.reopen.new.self) c.requires.phase c.after_class-self.ensures v };
    }

pub invariant_of-self-in-Some : goal.invariant_of-self-in-Some
invariant_of-self-in-Some c =
    let h = c.args.self.now in
    let qs : List Page = view c.move_block.new.self in
    let l = falls h c.args.class c.args.g c.args.s c.requires.phase c.requires.slot c.in-Some.t c.in-Some.ensures.target qs c.in-Some.ensures.view in
    let f = h.fuel in
    let p = ap (λ (y : Phase). pressed y qs (length h.tracing.work.items)) c.requires.phase in
    record {
      spare = omega arith;
      fuel = omega arith;
      sited = stands h c.args.class c.args.g c.args.s c.requires.phase c.requires.slot c.in-Some.t c.in-Some.ensures.target qs c.in-Some.ensures.view;
    }

pub returns-in-Some : goal.returns-in-Some
returns-in-Some c =
    let h = c.args.self.now in
    let k : ℕ = c.args.class in
    let g : ℕ = c.args.g in
    let s : ℕ = c.args.s in
    let t : ℕ = c.in-Some.t in
    let qs : List Page = view c.move_block.new.self in
    let V = moves h k g s c.requires.phase c.requires.slot t c.in-Some.ensures.target qs c.in-Some.ensures.view in
    let flag = c.with_flag-self.ensures.0 (goal_low h k g s c.requires.phase c.requires.slot t c.in-Some.ensures.target) in
    let S : stage h.phase c.with_flag-self.result ≡ moving k (Some g) (with_flag_set h.targets t) = ap₂ stage c.requires.phase flag in
    record {
      heap =
          ap₂ (λ (x : Stage) (y : List Page). with_phase (with_pages (heap_of h) y) x) S V
          ∙ ap (move_to (heap_of h) k h.targets g s) (sym (found h k g s c.requires.phase c.requires.slot t c.in-Some.ensures.target));
      advance = record { units = refl; left = falls h k g s c.requires.phase c.requires.slot t c.in-Some.ensures.target qs c.in-Some.ensures.view };
    }
