-- A turn of the loop that writes numbers.
use Rattle.std.proofs.Common.{◌≡◌, ℕ, ◌+◌, ◌<◌, ◌≤◌, List, ◌∷◌, ◌++◌, length, get_or, drop, decimal, sym, ap, ◌∙◌, append_assoc, append-nil}
use Rattle.std.proofs.lemmas.List.{at_drop_more, at_drop_all}
use Rattle.calls.specs.Spelling.{tabbed}

module _ (ns all before : List ℕ) (i : ℕ) (ahead : before ++ tabbed (drop i ns) ≡ all) where
  pub number_more : (after : List ℕ) → i < length ns → after ≡ before ++ (9 ∷ decimal (get_or ns i 0)) → after ++ tabbed (drop (i + 1) ns) ≡ all
  number_more after lt e =
      ap (λ (l : List ℕ). l ++ tabbed (drop (i + 1) ns)) e ∙
      append_assoc before (9 ∷ decimal (get_or ns i 0)) (tabbed (drop (i + 1) ns)) ∙
      ap (λ (l : List ℕ). before ++ l) (sym (at_drop_more tabbed ns i 0 lt)) ∙
      ahead

  pub all_numbers : length ns ≤ i → before ≡ all
  all_numbers le = sym (append-nil before) ∙ ap (λ (l : List ℕ). before ++ l) (sym (at_drop_all tabbed ns i le)) ∙ ahead
