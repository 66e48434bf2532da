-- When a call is refused: for each call its conditions, in the order in which they count.
use Rattle.std.specs.Prelude.{ℕ, ◌+◌, Bool, true, false, cond, not, List, [], ◌∷◌, length, Some, None, Option, ◌==◌, nat_lt, slice_index, slice_index_or}
use Rattle.calls.specs.declared.Call.{Call}
use Rattle.calls.specs.declared.Call.TheVariants.{Make, Load, Store, Read, Write, Copy, Clear, Same, Shape, Schedule, Next, Begin, Step, Count}
use Rattle.calls.specs.declared.Refusal.{Refusal}
use Rattle.calls.specs.declared.Refusal.TheVariants.{NoSuchPlace, TooLarge, Nil, NoSuchReference, NoSuchWord, NoRoom, AgendaFull, TimePassed, SerialsUsedUp, NoEvent, CollectionRuns, NoCollection}
use Rattle.holders.specs.declared.key.Key.{Key}
use Rattle.holders.specs.Keys.{first_of, spare_of}
use Rattle.model.specs.Classes.{fitting}
use Rattle.model.specs.Pages.{Block, block_at, current, refs_of, words_of}
use Rattle.model.specs.State.{running, State}
use Rattle.model.specs.Making.{page_to_take}

-- what place `q` of the holder names, in current form, and its block
abbrev pub place : State → ℕ → ℕ
place s q = current s.heap.pages (slice_index s.holder q)

abbrev pub block_in : State → ℕ → Option Block
block_in s q = block_at s.heap.pages (place s q)

-- a key and its place, where there is a key
abbrev pub keyed_at : Option Key → ℕ → Option (Key × ℕ)
keyed_at None i = None
keyed_at (Some k) i = Some (k, i)

-- the first keyed place of the agenda, with its key
abbrev pub first_keyed : List (Option Key) → Option (Key × ℕ)
first_keyed ks = keyed_at (slice_index_or ks (first_of ks) None) (first_of ks)

abbrev pub is_none : {A : Type 0} → Option A → Bool
is_none None = true
is_none (Some x) = false

abbrev pub no_place : State → ℕ → Bool
no_place s p = not (nat_lt p (length s.holder))

abbrev pub no_record : State → ℕ → Bool
no_record s q = is_none (block_at s.heap.pages (slice_index s.holder q))

abbrev pub no_reference : State → ℕ → ℕ → Bool
no_reference s q f = not (nat_lt f (length (refs_of (block_in s q))))

abbrev pub no_word : State → ℕ → ℕ → Bool
no_word s q w = not (nat_lt w (length (words_of (block_in s q))))

-- a record takes a forwarding word and a shape word beside its references and words
abbrev pub no_room : State → ℕ → ℕ → Bool
no_room s r d = is_none (page_to_take s.heap.pages (fitting (2 + r + d)))

abbrev pub no_spare : State → Bool
no_spare s = spare_of s.keys == length s.keys

abbrev pub conditions : Call → State → List (Bool × Refusal)
conditions (Make p r d) s = (no_place s p, NoSuchPlace) ∷ (nat_lt 30 (r + d), TooLarge) ∷ (no_room s r d, NoRoom) ∷ []
conditions (Load p q f) s = (no_place s p, NoSuchPlace) ∷ (no_place s q, NoSuchPlace) ∷ (no_record s q, Nil) ∷ (no_reference s q f, NoSuchReference) ∷ []
conditions (Store q f p) s = (no_place s q, NoSuchPlace) ∷ (no_place s p, NoSuchPlace) ∷ (no_record s q, Nil) ∷ (no_reference s q f, NoSuchReference) ∷ []
conditions (Read q w) s = (no_place s q, NoSuchPlace) ∷ (no_record s q, Nil) ∷ (no_word s q w, NoSuchWord) ∷ []
conditions (Write q w v) s = (no_place s q, NoSuchPlace) ∷ (no_record s q, Nil) ∷ (no_word s q w, NoSuchWord) ∷ []
conditions (Copy p q) s = (no_place s p, NoSuchPlace) ∷ (no_place s q, NoSuchPlace) ∷ []
conditions (Clear p) s = (no_place s p, NoSuchPlace) ∷ []
conditions (Same p q) s = (no_place s p, NoSuchPlace) ∷ (no_place s q, NoSuchPlace) ∷ []
conditions (Shape q) s = (no_place s q, NoSuchPlace) ∷ (no_record s q, Nil) ∷ []
conditions (Schedule t p) s =
    (no_place s p, NoSuchPlace) ∷ (no_record s p, Nil) ∷ (no_spare s, AgendaFull) ∷ (nat_lt t s.clock, TimePassed)
    ∷ ((s.serial == 4294967295), SerialsUsedUp) ∷ []
conditions (Next p) s = (no_place s p, NoSuchPlace) ∷ (is_none (first_keyed s.keys), NoEvent) ∷ []
conditions Begin s = (running s.heap.phase, CollectionRuns) ∷ []
conditions (Step u) s = (not (running s.heap.phase), NoCollection) ∷ []
conditions Count s = []

-- the refusal of the first condition that holds
abbrev pub first_refusal : List (Bool × Refusal) → Option Refusal
first_refusal [] = None
first_refusal (c ∷ cs) = cond c.0 (Some c.1) (first_refusal cs)

abbrev pub refusal : Call → State → Option Refusal
refusal c s = first_refusal (conditions c s)
