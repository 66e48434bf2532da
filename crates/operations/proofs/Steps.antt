-- So many units of a collection.
use Rattle.std.proofs.Common.{◌≡◌, ℕ, zero, suc, true, false, cond, sym, refl, ap, ◌∙◌}
use Rattle.model.specs.State.{State, running}
use Rattle.model.specs.Units.{unit, steps, done_in}
use Rattle.operations.specs.Parts.{unit_if_running}

-- a store at rest makes no step
pub rests : (u : ℕ) (s : State) → running s.heap.phase ≡ false → (steps u s ≡ s) × (done_in u s ≡ 0)
rests zero s e = (refl, refl)
rests (suc u) s e = (ap (λ b. cond b (steps u (unit s)) s) e, ap (λ b. cond b (suc (done_in u (unit s))) 0) e)

pub goes : (u : ℕ) (s t : State) → running s.heap.phase ≡ true → t ≡ unit_if_running s → (steps (suc u) s ≡ steps u t) × (done_in (suc u) s ≡ suc (done_in u t))
goes u s t e q =
    let r : unit s ≡ t = sym (q ∙ ap (λ b. cond b (unit s) s) e) in
    (ap (λ b. cond b (steps u (unit s)) s) e ∙ ap (steps u) r, ap (λ b. cond b (suc (done_in u (unit s))) 0) e ∙ ap (λ x. suc (done_in u x)) r)
