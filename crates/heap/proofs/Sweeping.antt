-- Sweeping leaves exactly the marked blocks.
use Rattle.std.proofs.Common.{◌≡◌, ℕ, zero, suc, Bool, true, false, cond, eqb, List, [], ◌∷◌, length, get_or, set, Some, None, Option, sym, refl, ap, ◌∙◌, inl, inr, arith, get_or-set_same}
use Rattle.std.proofs.lemmas.List.{get_or_past, set_past}
use Rattle.std.proofs.lemmas.Bool.{cases_lt, eqb-true}
use Rattle.model.specs.Pages.{Block, Page, uncut, page_at, occupied}
use Rattle.model.specs.Units.{survivor, survivors, swept}
use Rattle.heap.specs.View.{unmarked, LeavesMarked}

survivors_at : (xs : List (Option Block)) (s : ℕ) → get_or (survivors xs) s None ≡ survivor (get_or xs s None)
survivors_at [] s = refl
survivors_at (x ∷ xs) zero = refl
survivors_at (x ∷ xs) (suc s) = survivors_at xs s

none_occupied : (xs : List (Option Block)) → occupied xs ≡ 0 → (s : ℕ) → get_or xs s None ≡ None
none_occupied [] e s = refl
none_occupied (None ∷ xs) e zero = refl
none_occupied (None ∷ xs) e (suc s) = none_occupied xs e s
none_occupied (Some b ∷ xs) e s = absurd (omega arith)

-- a slot of a swept page has what survives
swept_at : (p : Page) (s : ℕ) → get_or (swept p).slots s None ≡ survivor (get_or p.slots s None)
swept_at p s = by (eqb (occupied (survivors p.slots)) 0) refl
  where
    by : (b : Bool) → eqb (occupied (survivors p.slots)) 0 ≡ b
        → get_or (cond b uncut (record { size = p.size; closed = false; slots = survivors p.slots })).slots s None ≡ survivor (get_or p.slots s None)
    by true e = sym (none_occupied (survivors p.slots) (eqb-true (occupied (survivors p.slots)) 0 e) s) ∙ survivors_at p.slots s
    by false e = survivors_at p.slots s

pub leaves_marked : (ps qs : List Page) (g : ℕ) → qs ≡ set ps g (swept (page_at ps g)) → LeavesMarked ps qs g
leaves_marked ps qs g e = record {
  stay = λ s b is m. at s ∙ ap survivor is ∙ kept b b.marked m;
  go = λ s b is m. at s ∙ ap survivor is ∙ freed b b.marked m;
  none_new = λ s is. at s ∙ ap survivor is;
}
  where
    at : (s : ℕ) → get_or (page_at qs g).slots s None ≡ survivor (get_or (page_at ps g).slots s None)
    at s = ap (λ (xs : List Page). get_or (page_at xs g).slots s None) e ∙ elim (cases_lt g (length ps)) [
      | inl l ↦ ap (λ (p : Page). get_or p.slots s None) (get_or-set_same ps g (swept (page_at ps g)) uncut l) ∙ swept_at (page_at ps g) s
      | inr l ↦
          ap (λ (xs : List Page). get_or (page_at xs g).slots s None) (set_past ps g (swept (page_at ps g)) l)
          ∙ ap (λ (p : Page). get_or p.slots s None) (get_or_past ps g uncut l)
          ∙ sym (ap (λ (p : Page). survivor (get_or p.slots s None)) (get_or_past ps g uncut l))
    ]

    kept : (b : Block) (t : Bool) → t ≡ true → cond t (Some (unmarked b)) None ≡ Some (unmarked b)
    kept b t q = ap (λ (x : Bool). cond x (Some (unmarked b)) None) q

    freed : (b : Block) (t : Bool) → t ≡ false → cond t (Some (unmarked b)) None ≡ None
    freed b t q = ap (λ (x : Bool). cond x (Some (unmarked b)) None) q
