-- What the phase of a collector says.
use Rattle.std.proofs.Common.{◌≡◌, length, ap, subst}
use Rattle.heap.specs.View.{view}
use Rattle.collector.specs.declared.collector.Collector.{Collector}
use Rattle.collector.specs.declared.phase.Phase.{Phase}
use Rattle.collector.specs.Sound.{left, Placed}
use Rattle.collector.specs.View.{left_of}

pub placed_at : (h : Collector) (ph : Phase) → h.phase ≡ ph → Placed ph (view h.tracing.heap)
placed_at h ph e = let P : Phase → Type 0 = λ x. Placed x (view h.tracing.heap) in subst P e h.sited

pub left_at : (h : Collector) (ph : Phase) → h.phase ≡ ph → left_of h ≡ left ph (view h.tracing.heap) (length h.tracing.work.items)
left_at h ph e = ap (λ (x : Phase). left x (view h.tracing.heap) (length h.tracing.work.items)) e
