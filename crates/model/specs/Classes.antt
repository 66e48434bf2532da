-- The size classes: how many words a block may have, and how many blocks a page is cut into.
use Rattle.std.specs.Prelude.{ℕ, ◌+◌, ◌/◌, min, max, Bool, false, cond, ◌&&◌, List, [], ◌∷◌, ◌==◌, nat_le}

-- words of a block, smallest class first
abbrev pub sizes : List ℕ
sizes = 4 ∷ 5 ∷ 6 ∷ 7 ∷ 8 ∷ 9 ∷ 10 ∷ 11 ∷ 12 ∷ 13 ∷ 14 ∷ 15 ∷ 16 ∷ 18 ∷ 20 ∷ 22 ∷ 24 ∷ 27 ∷ 30 ∷ 32 ∷ []

-- blocks of a page that is cut into blocks of `size` words: a page has 256 words
abbrev pub blocks : ℕ → ℕ
blocks size = 256 / size

-- the first of `ss` that holds `words`, or 0
abbrev pub first_fit : List ℕ → ℕ → ℕ
first_fit [] words = 0
first_fit (s ∷ ss) words = cond (nat_le words s) s (first_fit ss words)

-- the smallest size of a block that holds `words`
abbrev pub fitting : ℕ → ℕ
fitting words = first_fit sizes words

-- the size after `s`: an eighth more, one word at least, never above 32
abbrev pub next_size : ℕ → ℕ
next_size s = min 32 (s + max 1 (s / 8))

-- each size of the list is the next after the one before it, and the last is 32
abbrev pub by_rule : List ℕ → Bool
by_rule [] = false
by_rule (s ∷ []) = s == 32
by_rule (s ∷ t ∷ ss) = t == next_size s && by_rule (t ∷ ss)
