-- A binary heap of numbers: the entry at each index, and how many entries count. Assumes nothing.
use Rattle.std.specs.Prelude.{◌≡◌, ℕ, ◌-◌, ◌/◌, ◌<◌, Bool, true, false, List, length, Option, ◌≢◌, slice_index}
use Rattle.std.specs.List.{count_by}
use Rattle.std.specs.Option.{is_some}
use Rattle.holders.specs.declared.key.Key.{Key}
use Rattle.holders.specs.Keys.{keyed, sooner}

-- the index above another in the heap
abbrev pub up : ℕ → ℕ
up j = (j - 1) / 2

-- how many places bear a key
abbrev pub tally : List (Option Key) → ℕ
tally ks = count_by is_some ks

abbrev pub at : List ℕ → ℕ → ℕ
at row i = slice_index row i

-- no entry comes before the one above it
abbrev pub Heaped : (ℕ → ℕ → Bool) → (ℕ → ℕ) → ℕ → Type 0
Heaped lt f n = (j : ℕ) → 0 < j → j < n → lt (f j) (f (up j)) ≡ false

-- each entry is a keyed place
abbrev pub Inside : (ℕ → Bool) → (ℕ → ℕ) → ℕ → Type 0
Inside key f n = (i : ℕ) → i < n → key (f i) ≡ true

-- no place is entered twice
abbrev pub Once : (ℕ → ℕ) → ℕ → Type 0
Once f n = (i j : ℕ) → (i < n) × (j < n) × (f i ≡ f j) → i ≡ j

-- no keyed place is missing
abbrev pub Whole : (ℕ → Bool) → (ℕ → ℕ) → ℕ → Type 0
Whole key f n = (p : ℕ) → key p ≡ true → ((i : ℕ) → i < n → f i ≢ p) → ⊥

abbrev pub Members : (ℕ → Bool) → (ℕ → ℕ) → ℕ → Type 0
Members key f n = Inside key f n × Once f n × Whole key f n

-- in order but for the index i, whose entry may be wrong both ways
abbrev pub Near : (ℕ → ℕ → Bool) → (ℕ → ℕ) → ℕ → ℕ → Type 0
Near lt f n i = ((j : ℕ) → 0 < j → j < n → (j ≢ i) → (up j ≢ i) → lt (f j) (f (up j)) ≡ false)
    × ((j : ℕ) → 0 < j → j < n → up j ≡ i → 0 < i → lt (f j) (f (up i)) ≡ false)

-- the entry at i comes before none below it
abbrev pub Above : (ℕ → ℕ → Bool) → (ℕ → ℕ) → ℕ → ℕ → Type 0
Above lt f n i = (j : ℕ) → 0 < j → j < n → up j ≡ i → lt (f j) (f i) ≡ false

-- the entry at i does not come before the one above it
abbrev pub Under : (ℕ → ℕ → Bool) → (ℕ → ℕ) → ℕ → Type 0
Under lt f i = 0 < i → lt (f i) (f (up i)) ≡ false

-- the entries of the row are the keyed places, each once
abbrev pub Entered : List (Option Key) → List ℕ → Type 0
Entered ks row = Members (keyed ks) (at row) (length row)

-- no entry of the row comes before the one above it
abbrev pub InOrder : List (Option Key) → List ℕ → Type 0
InOrder ks row = Heaped (sooner ks) (at row) (length row)

-- the same but for the index i
abbrev pub InOrderBut : List (Option Key) → List ℕ → ℕ → Type 0
InOrderBut ks row i = Near (sooner ks) (at row) (length row) i
