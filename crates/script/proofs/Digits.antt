-- The numbers of a line, digit by digit.
use denote.Param.Members.{Mut}
use Rattle.std.specs.Fn.{Called}
use Rattle.std.specs.Iterator.{AlwaysYields, Yields, YieldsThen}
use Rattle.std.specs.List.{FoldsTo}
use Rattle.std.specs.Option.{MatchOption}
use Rattle.std.proofs.lemmas.Iterator.{YieldsList}
use Rattle.std.proofs.Common.{subst, ◌≡◌, ℕ, ◌+◌, ◌-◌, ◌*◌, ◌≤◌, Bool, true, false, cond, not, eqb, ◌&&◌, leb, List, [], ◌∷◌, length, get_or, drop, Some, None, Option, sym, refl, ap, ◌∙◌, arith}
use Rattle.std.proofs.lemmas.Bool.{cond-true, ne_eqb, leb-true, leb-false, le-leb, lt-leb}
use Rattle.script.specs.Numerals.{digit, all_digits, unpadded, value_after, numeral}
use Rattle.script.specs.Scanning.{digit_added, and_then, scanned}

pub value_grows : (n : ℕ) (ds : List ℕ) → n ≤ value_after n ds
value_grows n [] = omega arith
value_grows n (c ∷ cs) = omega (arith, value_grows (10 * n + (c - 48)) cs)

turn : (d a l g : Bool) (m : ℕ) (k : ℕ → Option ℕ) (v : ℕ) → (l ≡ true → k m ≡ cond (a && g) (Some v) None) → (l ≡ false → g ≡ false) → and_then (cond (d && l) (Some m) None) k ≡ cond ((d && a) && g) (Some v) None
turn true a true g m k v p q = p refl
turn true true false g m k v p q = sym (ap (λ (x : Bool). cond x (Some v) None) (q refl))
turn true false false g m k v p q = refl
turn false a true g m k v p q = refl
turn false a false g m k v p q = refl

pub reads_is : (n : ℕ) (ds : List ℕ) → n ≤ 4294967295 → scanned n ds ≡ cond (all_digits ds && leb (value_after n ds) 4294967295) (Some (value_after n ds)) None
reads_is n [] h = sym (ap (λ (x : Bool). cond x (Some n) None) (le-leb n 4294967295 h))
reads_is n (c ∷ cs) h =
    turn (digit c) (all_digits cs) (leb (10 * n + (c - 48)) 4294967295) (leb (value_after (10 * n + (c - 48)) cs) 4294967295) _ _ _
    (λ e. reads_is (10 * n + (c - 48)) cs (leb-true _ _ e))
    (λ e. lt-leb _ _ (omega (arith, value_grows (10 * n + (c - 48)) cs, leb-false _ _ e)))

both : (w x : Bool) (o : Option ℕ) → cond w (cond x o None) None ≡ cond (w && x) o None
both true x o = refl
both false x o = refl

pub numeral_is : (ds : List ℕ) → numeral ds ≡ cond (unpadded ds) (scanned 0 ds) None
numeral_is ds = sym (both (unpadded ds) _ _) ∙ ap (λ (x : Option ℕ). cond (unpadded ds) x None) (sym (reads_is 0 ds (omega arith)))

-- a fold that may break off, over the digits of a field: each call of the closure f adds a digit
module _ {S A F : Type 0} (E : Type 0) (steps : S → Option A → S → Type 0) (v : A → ℕ) (g : Mut F (ℕ × (A × Unit {0})) (Option ℕ)) (f : F)
    (adds : (n : ℕ) (x : A) (w : Option ℕ) (q : F) → Called g f (n, (x, tt)) w q → (q ≡ f) × (w ≡ digit_added n (v x))) where
  abbrev Turn : F × ℕ → A → F × ℕ → Type 0
  Turn p x q = (w : Option ℕ) × Called g p.0 (p.1, (x, tt)) w q.0 × (w ≡ Some q.1)

  abbrev Ends : F → ℕ → Option ℕ → Option A → Type 0
  Ends h m r o = MatchOption o (r ≡ Some m) (λ x. (w : Option ℕ) × (k : F) × (e : E) × Called g h (m, (x, tt)) w k × (w ≡ None) × (r ≡ None))

  ended : (n : ℕ) (t u : S) (ds : List ℕ) (o : Option A) (r : Option ℕ) → AlwaysYields steps v t ds → steps t o u → Ends f n r o → r ≡ scanned n ds
  ended n t u [] None r ahead last end = end
  ended n t u [] (Some x) r ahead last end = absurd (ahead x u last)
  ended n t u (d ∷ ds) None r ahead last end = absurd (ahead.0 u last)
  ended n t u (d ∷ ds) (Some x) r ahead last end =
      let none : digit_added n (v x) ≡ None = sym (adds n x end.0 end.1 end.3).1 ∙ end.4 in
      end.5 ∙ sym (ap (λ (o : Option ℕ). and_then o (λ m. scanned m ds)) (sym (ap (digit_added n) (ahead.1 x u last).0) ∙ none))

  went : (n : ℕ) (s : S) (ds : List ℕ) (xs : List A) (t u : S) (o : Option A) (h : F) (m : ℕ) (r : Option ℕ) → AlwaysYields steps v s ds → Yields steps s xs t → steps t o u → FoldsTo Turn (f, n) xs (h, m) → Ends h m r o → r ≡ scanned n ds
  went n s ds [] t u o h m r ahead so last folds end =
      ended n t u ds o r (subst (λ (z : S). AlwaysYields steps v z ds) so ahead) last
      (subst (λ (p : F × ℕ). Ends p.0 p.1 r o) (sym folds) end)
  went n s [] (x ∷ xs) t u o h m r ahead so last folds end = absurd (ahead x so.0 so.1)
  went n s (d ∷ ds) (x ∷ xs) t u o h m r ahead so last folds end =
      let on = ahead.1 x so.0 so.1 in
      let call = folds.1 in
      let is = adds n x call.0 folds.0.0 call.1 in
      let digit : digit_added n d ≡ Some folds.0.1 = sym (ap (digit_added n) on.0) ∙ sym is.1 ∙ call.2 in
      went folds.0.1 so.0 ds xs t u o h m r on.1 so.2 last (subst (λ (z : F). FoldsTo Turn (z, folds.0.1) xs (h, m)) is.0 folds.2) end ∙
      sym (ap (λ (o : Option ℕ). and_then o (λ m. scanned m ds)) digit)

  pub folded : (n : ℕ) (s u : S) (ds : List ℕ) (r : Option ℕ) → YieldsList steps v s ds
      → (xs : List A) × (o : Option A) × (h : F) × (m : ℕ) × YieldsThen steps s xs o u × FoldsTo Turn (f, n) xs (h, m) × Ends h m r o → r ≡ scanned n ds
  folded n s u ds r all ran = went n s ds ran.0 ran.4.0 u ran.1 ran.2 ran.3 r all.runs ran.4.1 ran.4.2 ran.5 ran.6

-- a numeral by its parts
pub plain : (ds rest : List ℕ) (r : Option ℕ) → 1 ≤ length ds → rest ≡ drop 1 ds → (get_or ds 0 0 ≡ 48 → length rest ≡ 0) → r ≡ scanned 0 ds → r ≡ numeral ds
plain [] rest r some e single is = absurd (omega arith)
plain (c ∷ []) rest r some e single is = is ∙ sym (numeral_is (c ∷ []))
plain (c ∷ d ∷ ds) rest r some e single is =
    is ∙ sym (numeral_is (c ∷ d ∷ ds) ∙ cond-true (not (eqb c 48)) _ _ (ap not (ne_eqb c 48 (λ h. omega (arith, single h, ap length e)))))
