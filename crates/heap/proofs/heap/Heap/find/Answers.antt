use Rattle.std.proofs.Common.{◌≡◌, ℕ, ◌-◌, ◌/◌, ◌%◌, ◌<◌, ◌≤◌, Bool, true, false, sym, ap, ◌∙◌, subst, inl, inr, arith}
use Rattle.std.specs.Bool.{then_some}
use Rattle.std.proofs.lemmas.Bool.{cases_lt}
use Rattle.model.specs.Maps.{has}
use Rattle.model.specs.Pages.{page_of, slot_of}
use Rattle.pages.specs.Entries.{entry_at}
use Rattle.pages.proofs.Pages.{held_low}
use Rattle.heap.specs.declared.heap.Heap.{Heap}
use Rattle.heap.specs.Blocks.{Finds}
use Rattle.heap.proofs.Found.{found, missed, block_past}
use Rattle.heap.proofs.heap.Heap.find.Goals as goal

-- what the table says of the block of a number that is not 0
at : (h : Heap) (n : ℕ) → 0 < n → (b : Bool) → b ≡ has (entry_at h.pages.entries (page_of n)).occupied (slot_of n)
    → Finds h.pages.entries h.words n (then_some b (page_of n, slot_of n))
at h n some true is =
    let l = (held_low h.pages.entries (page_of n) (slot_of n) h.count (sym is)).0 in
    found h.pages.entries h.words h.count h.tall h.fits n some (omega arith) (sym is)
at h n some false is = elim (cases_lt n 4097) [
  | inl l ↦ missed h.pages.entries h.words h.count h.tall h.fits n some (omega arith) (sym is)
  | inr l ↦ let k = h.count in block_past h.pages.entries h.words n (omega arith)
]

pub returns : goal.returns
returns c =
    let h = c.args.self.now in
    let n : ℕ = c.args.n in
    let place : ℕ = c.in_ok-place.field-0 in
    let some : 1 ≤ n = c.in_ok-place.ensures.0 in
    let is : place ≡ n - 1 = c.in_ok-place.ensures.1 in
    subst (Finds h.pages.entries h.words n)
    (sym (c.then_some.ensures ∙ ap (λ (x : ℕ). then_some {T = ℕ × ℕ} c.holds.result (x / 64, x % 64)) is))
    (at h n some c.holds.result (c.holds.ensures ∙ ap (λ (x : ℕ). has (entry_at h.pages.entries (x / 64)).occupied (x % 64)) is))
