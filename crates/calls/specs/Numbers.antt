-- The letter and the numbers of a call, the numbers of an answer, and the number of a refusal.
use Rattle.std.specs.Prelude.{ℕ, ◌^◌, ◌<◌, Bool, cond, List, [], ◌∷◌}
use Rattle.calls.specs.declared.Answer.{Answer}
use Rattle.calls.specs.declared.Answer.TheVariants as answer
use Rattle.calls.specs.declared.Call.{Call}
use Rattle.calls.specs.declared.Call.TheVariants.{Make, Load, Store, Read, Write, Copy, Clear, Same, Shape, Schedule, Next, Begin, Step, Count}
use Rattle.calls.specs.declared.Refusal.{Refusal}
use Rattle.calls.specs.declared.Refusal.TheVariants.{NoSuchPlace, TooLarge, NoCall, Nil, NoSuchReference, NoSuchWord, NoRoom, AgendaFull, TimePassed, SerialsUsedUp, NoEvent, CollectionRuns, NoCollection}

-- the letter of a call, as the code of a character
abbrev pub letter_of : Call → ℕ
letter_of (Make p r d) = 77
letter_of (Load p q f) = 76
letter_of (Store q f p) = 83
letter_of (Read q w) = 82
letter_of (Write q w v) = 87
letter_of (Copy p q) = 67
letter_of (Clear p) = 75
letter_of (Same p q) = 81
letter_of (Shape q) = 72
letter_of (Schedule t p) = 69
letter_of (Next p) = 78
letter_of Begin = 66
letter_of (Step u) = 71
letter_of Count = 84

-- the numbers of a call, in the order in which a line has them
abbrev pub numbers_of : Call → List ℕ
numbers_of (Make p r d) = p ∷ r ∷ d ∷ []
numbers_of (Load p q f) = p ∷ q ∷ f ∷ []
numbers_of (Store q f p) = q ∷ f ∷ p ∷ []
numbers_of (Read q w) = q ∷ w ∷ []
numbers_of (Write q w v) = q ∷ w ∷ v ∷ []
numbers_of (Copy p q) = p ∷ q ∷ []
numbers_of (Clear p) = p ∷ []
numbers_of (Same p q) = p ∷ q ∷ []
numbers_of (Shape q) = q ∷ []
numbers_of (Schedule t p) = t ∷ p ∷ []
numbers_of (Next p) = p ∷ []
numbers_of Begin = []
numbers_of (Step u) = u ∷ []
numbers_of Count = []

-- numbers of 32 bits
abbrev pub Words : List ℕ → Type 0
Words [] = Unit {0}
Words (n ∷ ns) = (n < 2 ^ 32) × Words ns

-- a truth value as a number
abbrev pub bit : Bool → ℕ
bit b = cond b 1 0

-- the numbers of an answer
abbrev pub answered : Answer → List ℕ
answered answer.Done = []
answered (answer.Word n) = n ∷ []
answered (answer.Same b) = bit b ∷ []
answered (answer.Shape r d) = r ∷ d ∷ []
answered (answer.Time t) = t ∷ []
answered (answer.Progress u n b) = u ∷ n ∷ bit b ∷ []
answered (answer.Counts n k u c) = n ∷ k ∷ u ∷ c ∷ []

-- the number of a refusal
abbrev pub number_of : Refusal → ℕ
number_of NoSuchPlace = 1
number_of TooLarge = 2
number_of NoCall = 3
number_of Nil = 11
number_of NoSuchReference = 12
number_of NoSuchWord = 13
number_of NoRoom = 14
number_of AgendaFull = 15
number_of TimePassed = 16
number_of SerialsUsedUp = 17
number_of NoEvent = 18
number_of CollectionRuns = 19
number_of NoCollection = 20
