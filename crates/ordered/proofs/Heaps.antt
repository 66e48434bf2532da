-- One step of a heap.
use Rattle.std.proofs.Common.{◌≡◌, ℕ, zero, suc, ◌<◌, Bool, true, false, ◌⊎◌, sym, refl, ap, ◌∙◌, subst, inl, inr, ⊎_elim, arith}
use Rattle.std.specs.Cmp.{IsStrictWeakOrder}
use Rattle.std.proofs.lemmas.Bool.{cases_eq}
use Rattle.std.proofs.lemmas.List.Edits.{Swapped}
use Rattle.ordered.specs.Heaps.{up, Heaped, Members, Near, Above, Under}

-- a test at other entries
pub at_entries : (lt : ℕ → ℕ → Bool) {a b c d : ℕ} {t : Bool} → a ≡ c → b ≡ d → lt c d ≡ t → lt a b ≡ t
at_entries lt p q h = cc

module _ (lt : ℕ → ℕ → Bool) (o : IsStrictWeakOrder lt) (f g : ℕ → ℕ) (n : ℕ) where
  chained : (x y z : ℕ) → lt x y ≡ false → lt y z ≡ false → lt x z ≡ false
  chained = o.chain

  pub rise_step : (i : ℕ) → 0 < i → i < n → Near lt f n i × Above lt f n i → lt (f i) (f (up i)) ≡ true
      → Swapped f g i (up i) → Near lt g n (up i) × Above lt g n (up i)
  rise_step i pos in-n inv less sw =
      let u = up i in
      let u-i : (u ≡ i → ⊥) = omega arith in
      let near = inv.0.0 in
      let near2 = inv.0.1 in
      let gi = sw.0 in
      let gu = sw.1 in
      let ge = sw.2 in
      -- siblings of i, under u
      let sib : (j : ℕ) → 0 < j → j < n → up j ≡ u → (j ≡ i → ⊥) → lt (f j) (f u) ≡ false
      = λ j p l e ne. subst (λ v. lt (f j) (f v) ≡ false) e (near j p l ne (λ q. u-i (sym e ∙ q))) in (
        (
          (λ j p l ju uu.
              let ji : (j ≡ i → ⊥) = λ e. uu (ap up e) in
              ⊎_elim (λ (e : up j ≡ i). at_entries lt (ge j ji ju) (ap g e ∙ gi) (near2 j p l e pos))
              (λ ne. at_entries lt (ge j ji ju) (ge (up j) ne uu) (near j p l ji ne))
              (cases_eq (up j) i)),
          (λ j p l e up0.
              let guu : g (up u) ≡ f (up u) = ge (up u) (omega arith) (omega arith) in
              let fu : lt (f u) (f (up u)) ≡ false = near u up0 (omega arith) u-i (omega arith) in
              ⊎_elim (λ (q : j ≡ i). at_entries lt (ap g q ∙ gi) guu fu)
              (λ ne. at_entries lt (ge j ne (omega arith)) guu (chained _ _ _ (sib j p l e ne) fu))
              (cases_eq j i)),
        ),
        (λ j p l e.
            let ui : lt (f u) (f i) ≡ false = o.one_way _ _ less in
            ⊎_elim (λ (q : j ≡ i). at_entries lt (ap g q ∙ gi) gu ui)
            (λ ne. at_entries lt (ge j ne (omega arith)) gu (chained _ _ _ (sib j p l e ne) ui))
            (cases_eq j i)),
      )

  pub sink_step : (i m : ℕ) → 0 < m → m < n → up m ≡ i → Near lt f n i × Under lt f i
      → ((j : ℕ) → 0 < j → j < n → up j ≡ i → lt (f j) (f m) ≡ false)
      → lt (f m) (f i) ≡ true → Swapped f g m i → Near lt g n m × Under lt g m
  sink_step i m pos in-n um inv least less sw =
      let mi : (m ≡ i → ⊥) = omega arith in
      let near = inv.0.0 in
      let near2 = inv.0.1 in
      let gm = sw.0 in
      let gi = sw.1 in
      let ge = sw.2 in (
        (
          (λ j p l jm um'.
              ⊎_elim (λ (e : j ≡ i).
              let i0 : 0 < i = omega arith in
              at_entries lt (ap g e ∙ gi) (ap (λ v. g (up v)) e ∙ ge (up i) (omega arith) (omega arith)) (near2 m pos in-n um i0))
              (λ ji. ⊎_elim (λ (e : up j ≡ i). at_entries lt (ge j jm ji) (ap g e ∙ gi) (least j p l e))
              (λ ne. at_entries lt (ge j jm ji) (ge (up j) um' ne) (near j p l ji ne))
              (cases_eq (up j) i))
              (cases_eq j i)),
          (λ j p l e m0.
              let jm : (j ≡ m → ⊥) = omega arith in
              let ji : (j ≡ i → ⊥) = omega arith in
              at_entries lt (ge j jm ji) (ap g um ∙ gi) (subst (λ v. lt (f j) (f v) ≡ false) e (near j p l ji (omega arith)))),
        ),
        (λ m0. at_entries lt gm (ap g um ∙ gi) (o.one_way _ _ less)),
      )

  pub rise_end : (i : ℕ) → Near lt f n i × Above lt f n i → Under lt f i → Heaped lt f n
  rise_end i inv under j p l =
      ⊎_elim (λ (e : j ≡ i). subst (λ v. lt (f v) (f (up v)) ≡ false) (sym e) (under (omega arith)))
      (λ ji. ⊎_elim (λ (e : up j ≡ i). subst (λ v. lt (f j) (f v) ≡ false) (sym e) (inv.1 j p l e))
      (λ ne. inv.0.0 j p l ji ne)
      (cases_eq (up j) i))
      (cases_eq j i)

  pub sink_end : (i : ℕ) → Near lt f n i × Under lt f i → Above lt f n i → Heaped lt f n
  sink_end i inv above = rise_end i (inv.0, above) inv.1

  -- the root comes after none
  pub root_least : Heaped lt f n → ((x : ℕ) → lt x x ≡ false) → (fuel j : ℕ) → j < fuel → j < n → lt (f j) (f 0) ≡ false
  root_least h r zero j lf l = let no : ⊥ = omega arith in absurd no
  root_least h r (suc fuel) j lf l =
      ⊎_elim (λ (e : j ≡ 0). subst (λ v. lt (f v) (f 0) ≡ false) (sym e) (r (f 0)))
      (λ ne. let p : 0 < j = omega arith in
      chained _ _ _ (h j p l) (root_least h r fuel (up j) (omega arith) (omega arith)))
      (cases_eq j 0)

Paired : ℕ → ℕ → ℕ → ℕ → Type 0
Paired a b i j = ((i ≡ a) × (j ≡ b)) ⊎ (((i ≡ b) × (j ≡ a)) ⊎ ((i ≡ a → ⊥) × (i ≡ b → ⊥) × (j ≡ i)))

module _ (n a b : ℕ) (an : a < n) (bn : b < n) where
  moved : (f g : ℕ → ℕ) → Swapped f g a b → (i : ℕ) → i < n → (j : ℕ) × (j < n) × (g i ≡ f j) × Paired a b i j
  unfolding Paired
  moved f g sw i l =
      ⊎_elim (λ (e : i ≡ a). (b, bn, ap g e ∙ sw.0, inl (e, refl)))
      (λ ne. ⊎_elim (λ (e : i ≡ b). (a, an, ap g e ∙ sw.1, inr (inl (e, refl))))
      (λ nb. (i, l, sw.2 i ne nb, inr (inr (ne, nb, refl))))
      (cases_eq i b))
      (cases_eq i a)

  paired_one : (i j k : ℕ) → Paired a b i k → Paired a b j k → i ≡ j
  unfolding Paired
  paired_one i j k p q =
      ⊎_elim (λ x. ⊎_elim (λ y. omega arith) (⊎_elim (λ y. omega arith) (λ y. omega arith)) q)
      (⊎_elim (λ x. ⊎_elim (λ y. omega arith) (⊎_elim (λ y. omega arith) (λ y. omega arith)) q)
      (λ x. ⊎_elim (λ y. omega arith) (⊎_elim (λ y. omega arith) (λ y. omega arith)) q)) p

  pub members_swap : (key : ℕ → Bool) (f g : ℕ → ℕ) → Swapped f g a b → Members key f n → Members key g n
  members_swap key f g sw (inside, once, whole) = (
    (λ i l. let m = moved f g sw i l in ap key m.2 ∙ inside m.0 m.1),
    (λ i j (il, jl, e).
        let m = moved f g sw i il in
        let k = moved f g sw j jl in
        let s : m.0 ≡ k.0 = once m.0 k.0 (m.1, k.1, sym m.2 ∙ e ∙ k.2) in
        paired_one i j k.0 (subst (λ v. Paired a b i v) s m.3) k.3),
    (λ p kp none. whole p kp (λ i l e.
        let back : Swapped g f a b = (sym sw.1, sym sw.0, (λ m x y. sym (sw.2 m x y))) in
        let m = moved g f back i l in none m.0 m.1 (sym m.2 ∙ e))),
  )
