-- A turn of `feed`.
use Rattle.std.proofs.Common.{◌≡◌, ℕ, ◌+◌, ◌<◌, ◌≤◌, ⊎_elim, lit≤, eqb, List, [], ◌∷◌, ◌++◌, length, get_or, take, drop, sym, refl, ap, ◌∙◌, subst, append_assoc, append-nil, arith}
use Rattle.std.specs.List.{FoldsTo}
use Rattle.std.proofs.lemmas.List.{at_drop_more, at_drop_all, length-take}
use Rattle.std.proofs.lemmas.Bool.{cases_Bool, cond-true, cond-false, eq-eqb, ne_eqb}
use Rattle.lines.specs.Feeding.{fed, kept}
use Rattle.lines.specs.Lines.{if_some}

-- from where the handler was at first and h₀ was held, i bytes of the chunk led to where it is and h is held
pub record Sofar {S : Type 0} (handled : S → List ℕ → S → Type 0) (first : S) (h₀ chunk : List ℕ) (i : ℕ) (at : S) (h : List ℕ) : Type 0 where
  pub lines : List (List ℕ)
  pub calls : FoldsTo handled first lines at
  pub ahead : lines ++ fed h (drop i chunk) ≡ fed h₀ chunk
  pub rest : kept h (drop i chunk) ≡ kept h₀ chunk

module _ {S : Type 0} (handled : S → List ℕ → S → Type 0) where
  chained_more : (p : S) (xs : List (List ℕ)) (q : S) (x : List ℕ) (r : S) → FoldsTo handled p xs q → handled q x r → FoldsTo handled p (xs ++ x ∷ []) r
  chained_more p [] q x r e t = (r, subst (λ (z : S). handled z x r) (sym e) t, refl)
  chained_more p (y ∷ ys) q x r e t = (e.0, e.1, chained_more e.0 ys q x r e.2 t)

  pub starts : (s : S) (h chunk : List ℕ) → Sofar handled s h chunk 0 s h
  starts s h chunk = record { lines = []; calls = refl; ahead = refl; rest = refl }

  module _ (first : S) (h₀ chunk : List ℕ) (i : ℕ) (at : S) (h : List ℕ) (so : Sofar handled first h₀ chunk i at h) where
    pub line_more : (next : S) (h' : List ℕ) → i < length chunk → get_or chunk i 0 ≡ 10 → handled at h next → h' ≡ [] → Sofar handled first h₀ chunk (i + 1) next h'
    line_more next h' lt feed t none =
        subst (Sofar handled first h₀ chunk (i + 1) next) (sym none)
        (record {
          lines = so.lines ++ h ∷ [];
          calls = chained_more first so.lines at h next so.calls t;
          ahead = append_assoc so.lines (h ∷ []) (fed [] (drop (i + 1) chunk)) ∙ ap (λ (l : List (List ℕ)). so.lines ++ l) (sym (at_drop_more (fed h) chunk i 0 lt ∙ cond-true (eqb (get_or chunk i 0) 10) _ _ (eq-eqb _ _ feed))) ∙ so.ahead;
          rest = sym (at_drop_more (kept h) chunk i 0 lt ∙ cond-true (eqb (get_or chunk i 0) 10) _ _ (eq-eqb _ _ feed)) ∙ so.rest;
        })

    -- the same of what the calls answered
    pub line_came : (next last : S) (ℓ h' : List ℕ) → i < length chunk → get_or chunk i 0 ≡ 10 → handled at ℓ last → ℓ ≡ h → next ≡ last → h' ≡ [] → Sofar handled first h₀ chunk (i + 1) next h'
    line_came next last ℓ h' lt feed t same is none =
        line_more next h' lt feed (subst (λ (z : S). handled at h z) (sym is) (subst (λ (l : List ℕ). handled at l last) same t)) none

    pub byte_more : (h' : List ℕ) → i < length chunk → (get_or chunk i 0 ≡ 10 → ⊥) → h' ≡ take 81 (h ++ get_or chunk i 0 ∷ []) → Sofar handled first h₀ chunk (i + 1) at h'
    byte_more h' lt other is =
        subst (Sofar handled first h₀ chunk (i + 1) at) (sym is)
        (record {
          lines = so.lines;
          calls = so.calls;
          ahead = ap (λ (l : List (List ℕ)). so.lines ++ l) (sym (at_drop_more (fed h) chunk i 0 lt ∙ cond-false (eqb (get_or chunk i 0) 10) _ _ (ne_eqb _ _ other))) ∙ so.ahead;
          rest = sym (at_drop_more (kept h) chunk i 0 lt ∙ cond-false (eqb (get_or chunk i 0) 10) _ _ (ne_eqb _ _ other)) ∙ so.rest;
        })

    pub byte_came : (next : S) (h' : List ℕ) → i < length chunk → (get_or chunk i 0 ≡ 10 → ⊥) → next ≡ at → h' ≡ take 81 (h ++ get_or chunk i 0 ∷ []) → Sofar handled first h₀ chunk (i + 1) next h'
    byte_came next h' lt other same is = subst (λ (z : S). Sofar handled first h₀ chunk (i + 1) z h') (sym same) (byte_more h' lt other is)

    pub all_fed : length chunk ≤ i → FoldsTo handled first (fed h₀ chunk) at
    all_fed end =
        subst (λ (l : List (List ℕ)). FoldsTo handled first l at)
        (sym (append-nil so.lines) ∙ ap (λ (l : List (List ℕ)). so.lines ++ l) (sym (at_drop_all (fed h) chunk i end)) ∙ so.ahead)
        so.calls

    pub all_kept : length chunk ≤ i → h ≡ kept h₀ chunk
    all_kept end = sym (at_drop_all (kept h) chunk i end) ∙ so.rest

  -- the end of the input, where the line so far is empty, and where it is not
  pub none_left : (s : S) (h : List ℕ) → length h ≡ 0 → (h ≡ []) × FoldsTo handled s (if_some h) s
  none_left s [] e = (refl, refl)
  none_left s (b ∷ bs) e = absurd (omega arith)

  pub one_left : (s t : S) (ℓ h : List ℕ) → (length h ≡ 0 → ⊥) → ℓ ≡ h → handled s ℓ t → FoldsTo handled s (if_some h) t
  one_left s t ℓ [] some same step = absurd (some refl)
  one_left s t ℓ (b ∷ bs) some same step = (t, subst (λ (l : List ℕ). handled s l t) same step, refl)

-- what is held is never more than 81 bytes
pub kept_short : (h bs : List ℕ) → length h ≤ 81 → length (kept h bs) ≤ 81
kept_short h [] l = l
kept_short h (b ∷ bs) l =
    ⊎_elim
    (λ t. subst (λ ks. length ks ≤ 81) (sym (cond-true (eqb b 10) _ _ t)) (kept_short [] bs (lit≤ tt)))
    (λ f. subst (λ ks. length ks ≤ 81) (sym (cond-false (eqb b 10) _ _ f)) (kept_short (take 81 (h ++ b ∷ [])) bs (let e = length-take 81 (h ++ b ∷ []) in omega arith)))
    (cases_Bool (eqb b 10))
