-- What the blocks and the work list stand for, and what a scan makes of that.
use Rattle.std.specs.Prelude.{ℕ, ◌+◌, length, reverse}
use Rattle.model.specs.Pages.{current}
use Rattle.model.specs.State.{Heap, Phase, with_pages}
use Rattle.model.specs.Units.{grey}
use Rattle.heap.specs.Blocks.{write_ref}
use Rattle.heap.specs.View.{view}
use Rattle.collector.specs.declared.tracing.Tracing.{Tracing}
use Rattle.collector.specs.Counts.{white}

-- the heap at a phase and after so many units: the work list has the newest first
abbrev pub traced : Tracing → Phase → ℕ → Heap
traced t at units = record { pages = view t.heap; work = reverse t.work.items; phase = at; units = units }

-- the length of the work list together with the blocks that are not marked
abbrev pub tally : Tracing → ℕ
tally t = length t.work.items + white (view t.heap)

-- reference `f` of block `n`, which is `r`, gets its current form, which is greyed
abbrev pub rescan_at : Heap → ℕ → ℕ → ℕ → Heap
rescan_at h n f r = grey (with_pages h (write_ref h.pages n f (current h.pages r))) r
