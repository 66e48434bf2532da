-- An entry is added to a heap, or taken out of it.
use Rattle.std.proofs.Common.{◌≡◌, ℕ, ◌+◌, ◌<◌, Bool, true, false, sym, ap, ◌∙◌, subst, ⊎_elim, arith}
use Rattle.std.specs.Cmp.{IsStrictWeakOrder}
use Rattle.std.proofs.lemmas.Bool.{cases_eq, both_ways}
use Rattle.ordered.specs.Heaps.{up, Heaped, Members, Near, Above}
use Rattle.ordered.proofs.Heaps.{at_entries}

-- what holds before and after the key of p changes
pub record Changed (lt lt' : ℕ → ℕ → Bool) (key key' : ℕ → Bool) (p : ℕ) : Type 0 where
  pub order : (q r : ℕ) → (q ≡ p → ⊥) → (r ≡ p → ⊥) → lt' q r ≡ lt q r
  pub bears : (q : ℕ) → (q ≡ p → ⊥) → key' q ≡ key q

module _ (lt lt' : ℕ → ℕ → Bool) (key key' : ℕ → Bool) (p : ℕ) (ch : Changed lt lt' key key' p) (f g : ℕ → ℕ) (n : ℕ) where
  -- p is added at the end
  module _ (no : key p ≡ false) (yes : key' p ≡ true) (gn : g n ≡ p) (ge : (j : ℕ) → j < n → g j ≡ f j)
      (mem : Members key f n) where
    other : (j : ℕ) → j < n → f j ≡ p → ⊥
    other j l e = both_ways _ no (sym (ap key e) ∙ mem.0 j l)

    pub add_near : Heaped lt f n → Near lt' g (n + 1) n × Above lt' g (n + 1) n
    add_near h = (
      (
        (λ j q l jn un.
            let jl : j < n = omega arith in
            let ul : up j < n = omega arith in
            at_entries lt' (ge j jl) (ge (up j) ul) (ch.order _ _ (other j jl) (other (up j) ul) ∙ h j q jl)),
        (λ j q l e z. let bad : ⊥ = omega arith in absurd bad),
      ),
      (λ j q l e. let bad : ⊥ = omega arith in absurd bad),
    )

    pub add_members : Members key' g (n + 1)
    add_members = (
      (λ i l. ⊎_elim (λ (e : i ≡ n). ap (λ v. key' (g v)) e ∙ ap key' gn ∙ yes)
          (λ ne. let il : i < n = omega arith in ap key' (ge i il) ∙ ch.bears (f i) (other i il) ∙ mem.0 i il)
          (cases_eq i n)),
      (λ i j (il, jl, e).
          ⊎_elim (λ (a : i ≡ n). ⊎_elim (λ (b : j ≡ n). a ∙ sym b)
          (λ nb. absurd (other j (omega arith) (sym (ge j (omega arith)) ∙ sym e ∙ ap g a ∙ gn)))
          (cases_eq j n))
          (λ na. ⊎_elim (λ (b : j ≡ n). absurd (other i (omega arith) (sym (ge i (omega arith)) ∙ e ∙ ap g b ∙ gn)))
          (λ nb. mem.1 i j (omega arith, omega arith, sym (ge i (omega arith)) ∙ e ∙ ge j (omega arith)))
          (cases_eq j n))
          (cases_eq i n)),
      (λ q kq none.
          ⊎_elim (λ (e : q ≡ p). none n (omega arith) (gn ∙ sym e))
          (λ ne. mem.2 q (sym (ch.bears q ne) ∙ kq)
          (λ i l e. none i (omega arith) (ge i (omega arith) ∙ e)))
          (cases_eq q p)),
    )

  -- the entry p at a is taken out: the last entry, at n, takes its place
  module _ (a : ℕ) (al : a < n + 1) (fa : f a ≡ p) (gone : key' p ≡ false)
      (ga : a < n → g a ≡ f n) (ge : (j : ℕ) → j < n → (j ≡ a → ⊥) → g j ≡ f j) (mem : Members key f (n + 1)) where
    else : (j : ℕ) → j < n + 1 → (j ≡ a → ⊥) → f j ≡ p → ⊥
    else j l ne e = ne (mem.1 j a (l, al, e ∙ sym fa))

    pub cut_heaped : Heaped lt f (n + 1) → a ≡ n → Heaped lt' g n
    cut_heaped h e j q l =
        at_entries lt' (ge j l (omega arith)) (ge (up j) (omega arith) (omega arith))
        (ch.order _ _ (else j (omega arith) (omega arith)) (else (up j) (omega arith) (omega arith)) ∙ h j q (omega arith))

    pub cut_near : IsStrictWeakOrder lt → Heaped lt f (n + 1) → a < n → Near lt' g n a
    cut_near o h an = (
      (λ j q l ja ua.
          at_entries lt' (ge j l ja) (ge (up j) (omega arith) ua)
          (ch.order _ _ (else j (omega arith) ja) (else (up j) (omega arith) ua) ∙ h j q (omega arith))),
      (λ j q l e z.
          let ja : (j ≡ a → ⊥) = omega arith in
          let ua : (up a ≡ a → ⊥) = omega arith in
          at_entries lt' (ge j l ja) (ge (up a) (omega arith) ua)
          (ch.order _ _ (else j (omega arith) ja) (else (up a) (omega arith) ua)
          ∙ o.chain _ (f a) _ (subst (λ v. lt (f j) (f v) ≡ false) e (h j q (omega arith))) (h a z (omega arith)))),
    )

    pub cut_members : Members key' g n
    cut_members = (
      (λ i l. ⊎_elim (λ (e : i ≡ a). ap (λ v. key' (g v)) e ∙ ap key' (ga (omega arith)) ∙ ch.bears (f n) (else n (omega arith) (omega arith)) ∙ mem.0 n (omega arith))
          (λ ne. ap key' (ge i l ne) ∙ ch.bears (f i) (else i (omega arith) ne) ∙ mem.0 i (omega arith))
          (cases_eq i a)),
      (λ i j (il, jl, e).
          ⊎_elim (λ (x : i ≡ a). ⊎_elim (λ (y : j ≡ a). x ∙ sym y)
          (λ ny. let z : n ≡ j = mem.1 n j (omega arith, omega arith, sym (ga (omega arith)) ∙ sym (ap g x) ∙ e ∙ ge j jl ny) in omega arith)
          (cases_eq j a))
          (λ nx. ⊎_elim (λ (y : j ≡ a). let z : i ≡ n = mem.1 i n (omega arith, omega arith, sym (ge i il nx) ∙ e ∙ ap g y ∙ ga (omega arith)) in omega arith)
          (λ ny. mem.1 i j (omega arith, omega arith, sym (ge i il nx) ∙ e ∙ ge j jl ny))
          (cases_eq j a))
          (cases_eq i a)),
      (λ q kq none.
          let qp : (q ≡ p → ⊥) = λ e. both_ways _ gone (sym (ap key' e) ∙ kq) in
          mem.2 q (sym (ch.bears q qp) ∙ kq)
          (λ i l e.
          ⊎_elim (λ (x : i ≡ a). qp (sym e ∙ ap f x ∙ fa))
          (λ nx. ⊎_elim (λ (y : i ≡ n). none a (omega arith) (ga (omega arith) ∙ sym (ap f y) ∙ e))
          (λ ny. none i (omega arith) (ge i (omega arith) nx ∙ e))
          (cases_eq i n))
          (cases_eq i a))),
    )
