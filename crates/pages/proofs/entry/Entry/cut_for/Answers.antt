use Rattle.std.proofs.Common.{◌≡◌, ℕ, ◌/◌, ◌^◌, ◌≤◌, Bool, true, false, ◌≢◌, sym, refl, ap, ◌∙◌, subst, inl, inr, arith, pow_mono}
use native.Mathlib.Nat.{div-le_of_le-mul}
use mir.Val.{bool_byte}
use Rattle.std.proofs.lemmas.Nat.{le-div}
use Rattle.std.proofs.lemmas.Bool.{cases_eq, both_ways}
use Rattle.model.specs.Maps.{has}
use Rattle.model.specs.Pages.{Page}
use Rattle.pages.specs.View.{filled, block_of, region}
use Rattle.pages.proofs.Bits.{Within, has_none, bit_same, bit_other}
use Rattle.pages.proofs.Views.{take_page, cut_page}
use Rattle.pages.proofs.entry.Entry.cut_for.Goals as goal

first : (b : Bool) → Within (bool_byte b) 1
first true k on = on
first false k on = absurd (both_ways (has 0 k) (has_none k) on)

at_first : (b : Bool) → has (bool_byte b) 0 ≡ b
at_first true = bit_same 0
at_first false = has_none 0

past_first : (b : Bool) (k : ℕ) → k ≢ 0 → has (bool_byte b) k ≡ has 0 k
past_first true k ne = bit_other 0 k ne ∙ sym (has_none k)
past_first false k ne = refl

some_blocks : (size : ℕ) → 4 ≤ size → size ≤ 256 → 1 ≤ 256 / size
some_blocks size a b = le-div 1 256 size (omega arith) (omega arith)

pub invariant_of-result : goal.invariant_of-result
invariant_of-result c =
    let size : ℕ = c.args.size in
    let l = c.requires.0 in
    let some = some_blocks size c.requires.0 c.requires.1 in
    let two : 2 ^ 1 ≤ 2 ^ (256 / size) = pow_mono some in
    let few : 256 / size ≤ 64 = div-le_of_le-mul size (omega arith) in
    record {
      below = omega arith;
      few = few;
      within = (let W : ℕ → Type 0 = λ x. Within x 1 in subst W (sym c.from.ensures) (first c.args.marked));
      blank = (λ z. absurd (omega arith));
      inhabited = (λ h. omega arith);
    }

pub returns : goal.returns
returns c =
    let size : ℕ = c.args.size in
    let m : Bool = c.args.marked in
    let some = some_blocks size c.requires.0 c.requires.1 in
    record {
      view = λ ws.
          take_page size false 0 0 1 c.from.result ws 0 m some (bit_same 0) (ap (λ (x : ℕ). has x 0) c.from.ensures ∙ at_first m)
          (λ k h ne. bit_other 0 k ne ∙ sym (has_none k)) (λ k h ne. ap (λ (x : ℕ). has x k) c.from.ensures ∙ past_first m k ne)
          ∙ ap (λ (p : Page). filled p 0 (block_of m (region size ws 0))) (cut_page size 0 ws);
      one = λ k on. elim (cases_eq k 0) [ inl e ↦ e | inr ne ↦ absurd (both_ways (has 1 k) (bit_other 0 k ne) on) ];
      size = refl;
    }
