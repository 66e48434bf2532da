-- Runs of lines, one after another.
use Rattle.std.proofs.Common.{◌≡◌, ℕ, List, [], ◌∷◌, ◌++◌, sym, refl, ap, ◌∙◌, subst, append_assoc, append-nil, Ok, Err, Result}
use Rattle.std.specs.Result.{OnOk}
use Rattle.std.specs.List.{FoldsTo}
use Rattle.script.specs.Lines.{meaning}
use Rattle.lines.specs.Feeding.{fed}
use Rattle.lines.specs.Lines.{all_lines, if_some, lines_of, rest_of}
use Rattle.interpreter.specs.Runs.{Does, Runs, Stands, Took}

module _ {S : Type 0} (took : Took S) where
  pub starts : (s t : S) (h : List ℕ) → s ≡ t → h ≡ rest_of [] → Stands took s [] [] t h
  starts s t h e none = record { ran = (e, refl); held = none }

  runs_append : (s : S) (ls : List (List ℕ)) (out : List ℕ) (t : S) (ms : List (List ℕ)) (more : List ℕ) (u : S) → Runs took s ls out t → Runs took t ms more u → Runs took s (ls ++ ms) (out ++ more) u
  runs_append s [] out t ms more u p q =
      subst (λ (o : List ℕ). Runs took s ms (o ++ more) u) (sym p.1) (subst (λ (x : S). Runs took x ms more u) (sym p.0) q)
  runs_append s (l ∷ ls) out t ms more u p q =
      (p.0, p.1, p.2 ++ more, p.3, runs_append p.0 ls p.2 t ms more u p.4 q, ap (λ (o : List ℕ). o ++ more) p.5 ∙ append_assoc p.1 p.2 more)

  -- of states that have a recorder and an output, lines that are handled one by one make a run
  module _ {X : Type 0} (recorder : X → S) (output : X → List ℕ) where
    abbrev pub Handled : X → List ℕ → X → Type 0
    Handled x line y = (out : List ℕ) × Does took (recorder x) (meaning line) out (recorder y) × (output y ≡ output x ++ out)

    abbrev Ran : X → List (List ℕ) → X → Type 0
    Ran x ls y = (out : List ℕ) × Runs took (recorder x) ls out (recorder y) × (output y ≡ output x ++ out)

    pub runs : (x : X) (ls : List (List ℕ)) (y : X) → FoldsTo Handled x ls y → Ran x ls y
    runs x [] y e = ([], (ap recorder e, refl), sym (ap output e) ∙ sym (append-nil (output x)))
    runs x (l ∷ ls) y e =
        let h = e.1 in
        let more = runs e.0 ls y e.2 in (
          h.0 ++ more.0,
          (recorder e.0, h.0, more.0, h.1, more.1, refl),
          more.2 ∙ ap (λ (o : List ℕ). o ++ more.0) h.2 ∙ append_assoc (output x) h.0 more.0,
        )

  -- after a chunk
  pub fed_on : {X : Type 0} (x y : X) (recorder : X → S) (output : X → List ℕ) (s : S) (bs written h chunk h' : List ℕ) → Stands took s bs written (recorder x) h → FoldsTo (Handled recorder output) x (fed h chunk) y → (lines_of (bs ++ chunk) ≡ lines_of bs ++ fed h chunk) × (h' ≡ rest_of (bs ++ chunk)) → (out : List ℕ) × Stands took s (bs ++ chunk) (written ++ out) (recorder y) h' × (output y ≡ output x ++ out)
  fed_on x y recorder output s bs written h chunk h' so calls whole =
      let r = runs recorder output x (fed h chunk) y calls in (
        r.0,
        record {
          ran =
              subst (λ (ls : List (List ℕ)). Runs took s ls (written ++ r.0) (recorder y)) (sym whole.0)
              (runs_append s (lines_of bs) written (recorder x) (fed h chunk) r.0 (recorder y) so.ran r.1);
          held = whole.1;
        },
        r.2,
      )

  -- after the end of the input
  pub ended_on : {X : Type 0} (x y : X) (recorder : X → S) (output : X → List ℕ) (s : S) (bs written h : List ℕ) → Stands took s bs written (recorder x) h → FoldsTo (Handled recorder output) x (if_some h) y → all_lines bs ≡ lines_of bs ++ if_some h → (out : List ℕ) × Runs took s (all_lines bs) (written ++ out) (recorder y) × (output y ≡ output x ++ out)
  ended_on x y recorder output s bs written h so calls whole =
      let r = runs recorder output x (if_some h) y calls in (
        r.0,
        subst (λ (ls : List (List ℕ)). Runs took s ls (written ++ r.0) (recorder y)) (sym whole)
            (runs_append s (lines_of bs) written (recorder x) (if_some h) r.0 (recorder y) so.ran r.1),
        r.2,
      )

-- what holds of a result that is not an error, from two facts of it
pub on_both : {T E A B P : Type 0} (r : Result T E) → OnOk r A → OnOk r B → (A → B → P) → OnOk r P
on_both (Ok v) a b f = f a b
on_both (Err e) a b f = tt
