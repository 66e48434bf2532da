use Rattle.std.proofs.Common.{◌≡◌, ℕ, true, sym, ap, ◌∙◌, inl, inr, arith}
use Rattle.std.proofs.lemmas.Bool.{cases_eq}
use Rattle.model.specs.Maps.{has, with_flag_set}
use Rattle.pages.proofs.Bits.{has_more_other, some_flag}
use Rattle.pages.proofs.entry.Entry.mark.Goals as goal

pub invariant_of-self : goal.invariant_of-self
invariant_of-self c =
    let e = c.args.self.now in
    let s : ℕ = c.args.s in
    let is : c.with_flag-self.result ≡ with_flag_set e.marked s = c.with_flag-self.ensures.0 c.requires.0 in
    let kept : (k : ℕ) → has c.with_flag-self.result k ≡ true → has e.occupied k ≡ true =
    λ k on. elim (cases_eq k s) [
      | inl q ↦ ap (has e.occupied) q ∙ c.requires.1
      | inr ne ↦ e.within k (sym (has_more_other e.marked s k ne) ∙ sym (ap (λ (m : ℕ). has m k) is) ∙ on)
    ] in
    let some = some_flag e.occupied s c.requires.1 in
    record {
      below = e.below;
      few = e.few;
      within = kept;
      blank = (λ z. let o = (e.blank z).1 in absurd (omega arith));
      inhabited = e.inhabited;
    }
