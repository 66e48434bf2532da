use Rattle.std.proofs.Common.{◌≡◌, ℕ, ◌/◌, ◌^◌, ◌<◌, true, ◌≢◌, sym, refl, ap, ◌∙◌, subst, arith}
use Rattle.model.specs.Maps.{has, with_flag_set}
use Rattle.pages.specs.declared.entry.Entry.{Entry}
use Rattle.pages.proofs.Bits.{Within, within_with, within_both, within_off, more_below, has_more_same, has_more_other, some_flag}
use Rattle.pages.proofs.Views.{take_page}
use Rattle.pages.proofs.entry.Entry.take.Goals as goal

module _ (e : Entry) (s o : ℕ) (low : s < 256 / e.size) (is : o ≡ with_flag_set e.occupied s) where
  more_fit : o < 2 ^ (256 / e.size)
  more_fit = let P : ℕ → Type 0 = λ x. x < 2 ^ (256 / e.size) in subst P (sym is) (more_below e.occupied s (256 / e.size) e.below low)

  on : has o s ≡ true
  on = ap (λ (x : ℕ). has x s) is ∙ has_more_same e.occupied s

  others : (k : ℕ) → k ≢ s → has o k ≡ has e.occupied k
  others k ne = ap (λ (x : ℕ). has x k) is ∙ has_more_other e.occupied s k ne

  cut_yet : (A : Type 0) → e.size ≡ 0 → A
  cut_yet A z = let q : 256 / e.size ≡ 0 = ap (λ (x : ℕ). 256 / x) z in absurd (omega arith)

small : (e : Entry) (s : ℕ) → s < 256 / e.size → s < 64
small e s h = let f = e.few in omega arith

pub invariant_of-self : goal.invariant_of-self
invariant_of-self c =
    let e = c.args.self.now in
    let s : ℕ = c.args.s in
    let o : ℕ = c.with_flag-self.result in
    let is = c.with_flag-self.ensures.0 (small e s c.requires.0) in
    let m = c.with_flag-self-then-marked.ensures.0 (small e s c.requires.0) in
    let P : ℕ → Type 0 = λ x. Within x o in
    let Q : ℕ → Type 0 = λ x. Within (with_flag_set e.marked s) x in record {
      below = more_fit e s o c.requires.0 is;
      few = e.few;
      within = subst P (sym m) (subst Q (sym is) (within_both e.marked e.occupied s e.within));
      blank = cut_yet e s o c.requires.0 is _;
      inhabited = (λ l. some_flag o s (on e s o c.requires.0 is));
    }

pub invariant_of-self-else-marked : goal.invariant_of-self-else-marked
invariant_of-self-else-marked c =
    let e = c.args.self.now in
    let s : ℕ = c.args.s in
    let o : ℕ = c.with_flag-self.result in
    let is = c.with_flag-self.ensures.0 (small e s c.requires.0) in
    let Q : ℕ → Type 0 = λ x. Within e.marked x in record {
      below = more_fit e s o c.requires.0 is;
      few = e.few;
      within = subst Q (sym is) (within_with e.marked e.occupied s e.within);
      blank = cut_yet e s o c.requires.0 is _;
      inhabited = (λ l. some_flag o s (on e s o c.requires.0 is));
    }

pub returns-then-marked : goal.returns-then-marked
returns-then-marked c =
    let e = c.args.self.now in
    let s : ℕ = c.args.s in
    let o : ℕ = c.with_flag-self.result in
    let n : ℕ = c.with_flag-self-then-marked.result in
    let is = c.with_flag-self.ensures.0 (small e s c.requires.0) in
    let m = c.with_flag-self-then-marked.ensures.0 (small e s c.requires.0) in
    record {
      view = λ ws.
          take_page e.size e.closed e.occupied e.marked o n ws s c.args.marked c.requires.0 (on e s o c.requires.0 is)
          (ap (λ (x : ℕ). has x s) m ∙ has_more_same e.marked s ∙ sym c.if-marked.true)
          (λ k h ne. others e s o c.requires.0 is k ne) (λ k h ne. ap (λ (x : ℕ). has x k) m ∙ has_more_other e.marked s k ne);
      more = λ k h ne. sym (others e s o c.requires.0 is k ne) ∙ h;
      size = refl;
    }

pub returns-else-marked : goal.returns-else-marked
returns-else-marked c =
    let e = c.args.self.now in
    let s : ℕ = c.args.s in
    let o : ℕ = c.with_flag-self.result in
    let is = c.with_flag-self.ensures.0 (small e s c.requires.0) in
    record {
      view = λ ws.
          take_page e.size e.closed e.occupied e.marked o e.marked ws s c.args.marked c.requires.0 (on e s o c.requires.0 is)
          (within_off e.marked e.occupied s e.within c.requires.1 ∙ sym c.if-marked.false)
          (λ k h ne. others e s o c.requires.0 is k ne) (λ k h ne. refl);
      more = λ k h ne. sym (others e s o c.requires.0 is k ne) ∙ h;
      size = refl;
    }
