-- Lines byte by byte: the lines that bytes end where h is held, and what is held then.
use Rattle.std.specs.Prelude.{ℕ, cond, List, [], ◌∷◌, ◌++◌, take, ◌==◌}

abbrev pub fed : List ℕ → List ℕ → List (List ℕ)
fed h [] = []
fed h (b ∷ bs) = cond (b == 10) (h ∷ fed [] bs) (fed (take 81 (h ++ b ∷ [])) bs)

abbrev pub kept : List ℕ → List ℕ → List ℕ
kept h [] = h
kept h (b ∷ bs) = cond (b == 10) (kept [] bs) (kept (take 81 (h ++ b ∷ [])) bs)
