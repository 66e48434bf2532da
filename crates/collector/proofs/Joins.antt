-- What the calls and the units of a store do to its heap is what a collector does.
use Rattle.std.proofs.Common.{◌≡◌, ℕ, ◌+◌, ◌-◌, Bool, true, false, cond, ltb, length, get_or, set, Option, refl, ap, ◌∙◌}
use Rattle.model.specs.Classes.{fitting}
use Rattle.model.specs.Pages.{current}
use Rattle.model.specs.State.{State, Heap, Phase, roots, marking, sweeping, moving, with_heap, with_holder, with_agenda, with_phase}
use Rattle.model.specs.Units.{grey, one_more, by_phase, after_root, unit}
use Rattle.model.specs.Making.{barrier, overwrite, with_new}
use Rattle.model.specs.Calls.{made_in, stored}
use Rattle.collector.specs.Joins.{root_place}
use Rattle.collector.specs.View.{stored_in, root_unit_by, own_unit}

pub makes : (s : State) (p r d g : ℕ) → (made_in s p r d g).heap ≡ barrier (with_new s.heap g (fitting (2 + r + d)) r d) (get_or s.holder p 0)
makes s p r d g = refl

pub stores : (s : State) (n f v : ℕ) → (stored s n f v).heap ≡ stored_in s.heap n f v
stores s n f v = refl

pub overwrites : (s : State) (p n : ℕ) → (overwrite s p n).heap ≡ barrier s.heap (get_or s.holder p 0)
overwrites s p n = refl

abbrev after : State → Phase → Heap
after s ph = one_more (by_phase s ph).heap

root_heap : (s : State) (i : ℕ) → after s (roots i) ≡ one_more (with_phase (grey s.heap (current s.heap.pages (root_place s i))) (after_root s i))
root_heap s i = by (ltb i (length s.holder))
  where
    by : (b : Bool)
        → one_more (with_phase (cond b
        (let n = current s.heap.pages (get_or s.holder i 0) in with_heap (with_holder s (set s.holder i n)) (grey s.heap n))
        (let j = i - length s.holder in
        let n = current s.heap.pages (get_or s.agenda j 0) in with_heap (with_agenda s (set s.agenda j n)) (grey s.heap n))).heap (after_root s i))
        ≡ one_more (with_phase (grey s.heap (current s.heap.pages (cond b (get_or s.holder i 0) (get_or s.agenda (i - length s.holder) 0)))) (after_root s i))
    by true = refl
    by false = refl

pub scans_root : (s : State) (i : ℕ) → s.heap.phase ≡ roots i
    → (unit s).heap ≡ root_unit_by s.heap (length s.holder + length s.agenda) (current s.heap.pages (root_place s i)) (roots i)
scans_root s i e = ap (after s) e ∙ root_heap s i

pub marks : (s : State) → s.heap.phase ≡ marking → (unit s).heap ≡ own_unit s.heap marking
marks s e = ap (after s) e

pub sweeps : (s : State) (g : ℕ) → s.heap.phase ≡ sweeping g → (unit s).heap ≡ own_unit s.heap (sweeping g)
sweeps s g e = ap (after s) e

pub moves : (s : State) (k : ℕ) (o : Option ℕ) (targets : ℕ) → s.heap.phase ≡ moving k o targets → (unit s).heap ≡ own_unit s.heap (moving k o targets)
moves s k o targets e = ap (after s) e
