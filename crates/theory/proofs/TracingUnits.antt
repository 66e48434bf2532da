-- The units of roots and of marking: each lowers what is left by both bounds.
use Rattle.std.proofs.Common.{◌≡◌, ℕ, suc, ◌≤◌, Bool, true, false, cond, ltb, leb, List, [], ◌∷◌, length, sym, refl, ap, ◌∙◌, subst, arith}
use Rattle.std.proofs.lemmas.Bool.{cond_both, cond-true, ltb-true, le-leb}
use Rattle.model.specs.Pages.{Page, block_at, refs_of}
use Rattle.model.specs.State.{roots, marking, Heap, with_work, with_phase}
use Rattle.model.specs.Units.{grey, scan, marking_unit}
use Rattle.theory.proofs.PageShapes.{PagesOk, frame_ok}
use Rattle.theory.proofs.Counts.{Weight, current_block, current_or_marked, current_unmarked, from, marked, marked_husk, marked_or_husk, total, total_mono, unmarked}
use Rattle.theory.proofs.GreyCounts.{Greyed, greyed, greyed_scan}
use Rattle.theory.proofs.Potential.{Bound, Lowered, Stage, Tracing, by_blocks, by_room, to_keep, to_sweep, to_trace}

-- greying keeps what tracing keeps, and what is left of it
pub tracing_greyed : (h k : Heap) → Greyed h k → Tracing h.pages h.work → Tracing k.pages k.work
tracing_greyed h k g t = record {
  room = omega (arith, g.pays unmarked (λ i. refl), t.room);
  husks = g.keeps marked_husk (λ i. refl) ∙ t.husks;
  straight = g.straight;
}

pub trace_greyed : (b : Bound) (h k : Heap) → Greyed h k → to_trace b k.pages k.work ≡ to_trace b h.pages h.work
trace_greyed by_room h k g = omega (arith, g.pays unmarked (λ i. refl))
trace_greyed by_blocks h k g = omega (arith, g.pays current_unmarked (λ i. refl), g.keeps current_or_marked (λ i. refl))

pub pages_greyed : (h k : Heap) → Greyed h k → PagesOk h.pages → PagesOk k.pages
pages_greyed h k g o = frame_ok h.pages k.pages g.frame o

-- a place is scanned, of `n`
pub root_lowers : (n : ℕ) (h : Heap) (x i : ℕ) → PagesOk h.pages → Tracing h.pages h.work
    → Lowered n h (roots i) (with_phase (grey h x) (cond (ltb (suc i) n) (roots (suc i)) marking))
root_lowers n h x i o t =
    cond_both (ltb (suc i) n) (roots (suc i)) marking (λ ph. Lowered n h (roots i) (with_phase (grey h x) ph))
    (λ e. record { sound = record { pages = pages; stage = traced }; units = g.units; less = λ b. omega (arith, ltb-true (suc i) n e, trace_greyed b h (grey h x) g) })
    (λ e. record { sound = record { pages = pages; stage = traced }; units = g.units; less = λ b. omega (arith, trace_greyed b h (grey h x) g) })
  where
    g : Greyed h (grey h x)
    g = greyed h x t.straight

    pages : PagesOk (grey h x).pages
    pages = pages_greyed h (grey h x) g o

    traced : Tracing (grey h x).pages (grey h x).work
    traced = tracing_greyed h (grey h x) g t

-- before the first page is swept
from_start : (f f' : Weight) (ps : List Page) → total (from 0 f f') ps ≤ total f ps
from_start f f' ps =
    total_mono (from 0 f f') f ps (λ g l m c. let e = cond-true (leb 0 g) (f g m c) (f' g m c) (le-leb 0 g (omega arith)) in omega arith)

sweep_start : (b : Bound) (ps : List Page) → to_sweep b 0 ps ≤ to_keep b ps
sweep_start by_room ps = omega arith
sweep_start by_blocks ps =
    omega (arith, from_start marked current_block ps, total_mono marked current_or_marked ps (λ g l. by))
  where
    by : (m c : Bool) → marked 0 m c ≤ current_or_marked 0 m c
    by true true = omega arith
    by true false = omega arith
    by false c = omega arith

-- the newest block of the work list is scanned, or marking ends
pub mark_lowers : (n : ℕ) (h : Heap) (w : List ℕ) → h.work ≡ w → h.phase ≡ marking → PagesOk h.pages → Tracing h.pages h.work
    → Lowered n h marking (marking_unit h w)
mark_lowers n h [] e p o t = record {
  sound = record { pages = o; stage = record { listed = ap length e; swept = omega (arith, from_start marked_husk marked_or_husk h.pages, t.husks) } };
  units = refl;
  less = λ b. omega (arith, sweep_start b h.pages);
}
mark_lowers n h (m ∷ w) e p o t =
    let j : Heap = with_work h w in
    let k : Heap = scan (refs_of (block_at h.pages m)) j m 0 in
    let g : Greyed j k = greyed_scan (refs_of (block_at h.pages m)) j m 0 t.straight in
    let q : k.phase ≡ marking = g.phase ∙ p in
    let l : length h.work ≡ suc (length w) = ap length e in
    let u : Tracing h.pages w = record { room = omega (arith, t.room); husks = t.husks; straight = t.straight } in
    record {
      sound = record { pages = pages_greyed j k g o; stage = subst (Stage k.pages k.work) (sym q) (tracing_greyed j k g u) };
      units = g.units;
      less = λ b. rw q (omega (arith, trace_greyed b j k g));
    }
