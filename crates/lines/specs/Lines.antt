-- The lines of an input. Each is cut to 81 bytes, one more than a line may have, so that a line which is too long is still seen to be.
use Rattle.std.specs.Prelude.{ℕ, List, [], ◌∷◌, map, take}
use Rattle.script.specs.Fields.{parted}

-- all parts but the last, and the last
abbrev pub but_last : List (List ℕ) → List (List ℕ)
but_last [] = []
but_last (f ∷ []) = []
but_last (f ∷ g ∷ gs) = f ∷ but_last (g ∷ gs)

abbrev pub last_part : List (List ℕ) → List ℕ
last_part [] = []
last_part (f ∷ []) = f
last_part (f ∷ g ∷ gs) = last_part (g ∷ gs)

-- the lines that an input ends by line feeds, and what follows the last line feed
abbrev pub lines_of : List ℕ → List (List ℕ)
lines_of bs = map (take 81) (but_last (parted 10 bs))

abbrev pub rest_of : List ℕ → List ℕ
rest_of bs = take 81 (last_part (parted 10 bs))

-- a line, if it is not empty
abbrev pub if_some : List ℕ → List (List ℕ)
if_some [] = []
if_some (b ∷ bs) = (b ∷ bs) ∷ []

-- parts, but an empty one at the end
abbrev pub without_empty_end : List (List ℕ) → List (List ℕ)
without_empty_end [] = []
without_empty_end (f ∷ []) = if_some f
without_empty_end (f ∷ g ∷ gs) = f ∷ without_empty_end (g ∷ gs)

-- the lines of a whole input: what follows the last line feed is a line too, if it is not empty
abbrev pub all_lines : List ℕ → List (List ℕ)
all_lines bs = map (take 81) (without_empty_end (parted 10 bs))
