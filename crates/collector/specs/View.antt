-- What a collector stands for, and what its calls make of that.
use Rattle.std.specs.Prelude.{◌≡◌, ℕ, suc, ◌+◌, ◌<◌, cond, length, Some, None, Option, nat_lt, slice_index, slice_set}
use Rattle.model.specs.Classes.{fitting}
use Rattle.model.specs.Pages.{block_at, refs_of}
use Rattle.model.specs.State.{Heap, idle, roots, marking, sweeping, moving, with_phase}
use Rattle.model.specs.State.{Phase as Stage}
use Rattle.model.specs.Units.{grey, with_refs, marking_unit, sweeping_unit, moving_unit, one_more}
use Rattle.model.specs.Making.{barrier, with_new}
use Rattle.model.specs.Calls.{alter, if_some}
use Rattle.heap.specs.View.{view, new_page}
use Rattle.collector.specs.declared.phase.Phase.{Phase}
use Rattle.collector.specs.declared.phase.Phase.TheVariants.{Idle, Roots, Marking, Sweeping, Moving}
use Rattle.collector.specs.declared.collector.Collector.{Collector}
use Rattle.collector.specs.Sound.{left}
use Rattle.collector.specs.Tracing.{traced}

abbrev pub stage : Phase → ℕ → Stage
stage Idle targets = idle
stage (Roots i) targets = roots i
stage Marking targets = marking
stage (Sweeping g) targets = sweeping g
stage (Moving k s) targets = moving k s targets

abbrev pub heap_of : Collector → Heap
heap_of c = traced c.tracing (stage c.phase c.targets) c.units

abbrev pub left_of : Collector → ℕ
left_of c = left c.phase (view c.tracing.heap) (length c.tracing.work.items)

-- the collection goes on by one unit, which is not counted yet
pub record Advances (old new : Collector) : Type 0 where
  pub units : new.units ≡ old.units
  pub left : left_of new < left_of old

-- the heap with a new record of `r` references and `d` words, if there is room for it
abbrev pub new_heap : Heap → ℕ → ℕ → Heap
new_heap h r d = if_some (new_page h.pages r d) (λ g. with_new h g (fitting (2 + r + d)) r d) h

-- the heap after reference `f` of block `n` was written, behind the barrier
abbrev pub stored_in : Heap → ℕ → ℕ → ℕ → Heap
stored_in h n f v =
    alter (barrier h (slice_index (refs_of (block_at h.pages n)) f)) n (λ b. with_refs b (slice_set b.refs f v))
    (block_at (barrier h (slice_index (refs_of (block_at h.pages n)) f)).pages n)

-- the place that the next unit takes a root from
abbrev pub root_of : Stage → Option ℕ
root_of idle = None
root_of (roots i) = Some i
root_of marking = None
root_of (sweeping g) = None
root_of (moving k s targets) = None

-- one unit of the roots, of which there are so many: `n` is greyed
abbrev pub root_unit_by : Heap → ℕ → ℕ → Stage → Heap
root_unit_by h places n idle = h
root_unit_by h places n (roots i) = one_more (with_phase (grey h n) (cond (nat_lt (suc i) places) (roots (suc i)) marking))
root_unit_by h places n marking = h
root_unit_by h places n (sweeping g) = h
root_unit_by h places n (moving k s targets) = h

-- one unit of marking, sweeping or moving
abbrev pub own_unit : Heap → Stage → Heap
own_unit h idle = h
own_unit h (roots i) = h
own_unit h marking = one_more (marking_unit h h.work)
own_unit h (sweeping g) = one_more (sweeping_unit h g)
own_unit h (moving k s targets) = one_more (moving_unit h k s targets)
