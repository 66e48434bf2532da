-- Runs which show that the law speaks of something, each with its numbers.
use Rattle.std.specs.Prelude.{◌≡◌, ℕ, zero, suc, true, List, [], ◌∷◌, ◌++◌, length, None, slice_index_or}
use Rattle.calls.specs.declared.Call.{Call}
use Rattle.calls.specs.declared.Call.TheVariants.{Make, Store, Read, Write, Copy, Clear, Same, Schedule, Next, Begin, Step}
use Rattle.calls.specs.declared.Answer.TheVariants.{Word}
use Rattle.calls.specs.declared.Answer.TheVariants as answer
use Rattle.model.specs.Pages.{page_of, current}
use Rattle.model.specs.State.{Phase, idle, roots, marking, sweeping}
use Rattle.model.specs.Refusals.{refusal}
use Rattle.model.specs.Calls.{reply}
use Rattle.model.specs.Graph.{Reached}
use Rattle.model.specs.Runs.{Run, start, run_from}
use Rattle.model.specs.Law.{Held}

-- A record is made and dropped, and a collection is run to its end: the record is held before it and not after it.

abbrev pub dropped : List Call
dropped = Make 0 0 0 ∷ Clear 0 ∷ []

abbrev pub collected : List Call
collected = dropped ++ Begin ∷ Step 1000 ∷ []

pub record Freed : Type 0 where
  pub before : Held (run_from (start 1 1) dropped) 1
  pub ended : (run_from (start 1 1) collected).state.heap.phase ≡ idle
  pub after : Held (run_from (start 1 1) collected) 1 → ⊥

-- 46 pages of eight records each, of which a collection leaves one each and one more: the record in place 0 is moved from
-- block 1 to block 2882, and the place, which still has the old number, reads it.

abbrev pub again : ℕ → Call → List Call → List Call
again zero c cs = cs
again (suc n) c cs = c ∷ again n c cs

abbrev pub filling : ℕ → ℕ → List Call → List Call
filling zero p cs = cs
filling (suc n) p cs = Make p 0 30 ∷ again 7 (Make 47 0 30) (filling n (suc p) cs)

abbrev pub crowded : List Call
crowded = filling 46 0 (Write 0 0 77 ∷ Begin ∷ Step 2000 ∷ [])

pub record ReadByOldNumber (r : Run) : Type 0 where
  pub ended : r.state.heap.phase ≡ idle
  pub old : slice_index_or r.state.holder 0 0 ≡ 1
  pub new : current r.state.heap.pages 1 ≡ 2882
  pub granted : refusal (Read 0 0) r.state ≡ None
  pub answered : reply (Read 0 0) r.state ≡ Word 77

abbrev pub Moved : Type 0
Moved = ReadByOldNumber (run_from (start 48 1) crowded)

-- The same store: a copy of place 0 has the new number, and the two places are the same; after one more collection place 0 has the new number too.

abbrev pub copied : List Call
copied = crowded ++ Copy 46 0 ∷ []

abbrev pub collected_again : List Call
collected_again = copied ++ Begin ∷ Step 2000 ∷ []

pub record OldNumberForwarded : Type 0 where
  pub copy : slice_index_or (run_from (start 48 1) copied).state.holder 46 0 ≡ 2882
  pub same : reply (Same 0 46) (run_from (start 48 1) copied).state ≡ answer.Same true
  pub ended : (run_from (start 48 1) collected_again).state.heap.phase ≡ idle
  pub place : slice_index_or (run_from (start 48 1) collected_again).state.holder 0 0 ≡ 2882
  pub answered : reply (Read 0 0) (run_from (start 48 1) collected_again).state ≡ Word 77

-- Two records that only events name, due at one time: a collection keeps both, and the one that was scheduled first comes first.

abbrev pub planned : List Call
planned =
    Make 0 0 1 ∷ Write 0 0 7 ∷ Schedule 5 0 ∷ Make 0 0 1 ∷ Write 0 0 8 ∷ Schedule 5 0 ∷ Clear 0 ∷ Begin ∷ Step 1000 ∷ Next 0 ∷ []

pub record ComesFirst (r : Run) : Type 0 where
  pub first : reply (Read 0 0) r.state ≡ Word 7
  pub left : length r.graph.events ≡ 1
  pub time : r.state.clock ≡ 5

abbrev pub KeptForEvents : Type 0
KeptForEvents = ComesFirst (run_from (start 1 2) planned)

-- Run `r` is in phase `ph` of a collection whose begin reached record `o`; in run `t`, which has ended that collection,
-- nothing names the record any more, and it is held.
pub record Overwritten (r t : Run) (ph : Phase) (o : ℕ) : Type 0 where
  pub during : r.state.heap.phase ≡ ph
  pub reached : Reached r.began o
  pub ended : t.state.heap.phase ≡ idle
  pub unreached : Reached t.graph o → ⊥
  pub held : Held t o

-- the only place of record 1 is cleared before the roots come to it
abbrev pub before_its_root : List Call
before_its_root = Make 1 0 0 ∷ Begin ∷ Step 1 ∷ []

abbrev pub OverwrittenInRoots : Type 0
OverwrittenInRoots =
    Overwritten (run_from (start 2 1) before_its_root) (run_from (start 2 1) (before_its_root ++ Clear 1 ∷ Step 1000 ∷ [])) (roots 1) 1

-- the only reference to record 2, from record 1 on the work list, is overwritten before it is scanned
abbrev pub before_its_scan : List Call
before_its_scan = Make 0 1 0 ∷ Make 1 0 0 ∷ Store 0 0 1 ∷ Clear 1 ∷ Begin ∷ Step 3 ∷ []

abbrev pub OverwrittenInMarking : Type 0
OverwrittenInMarking =
    Overwritten (run_from (start 2 1) before_its_scan) (run_from (start 2 1) (before_its_scan ++ Store 0 0 1 ∷ Step 1000 ∷ [])) marking 2

-- Run `r` is about to make record 2, sweeping at page `g`; run `m` has made it, in block 2 of page 0; in run `t` the collection
-- has ended, the record is held, and place 1 reads it.
pub record MadeInSweeping (r m t : Run) (g : ℕ) : Type 0 where
  pub during : r.state.heap.phase ≡ sweeping g
  pub at : slice_index_or m.state.holder 1 0 ≡ 2
  pub page : page_of 2 ≡ 0
  pub ended : t.state.heap.phase ≡ idle
  pub held : Held t 2
  pub answered : reply (Read 1 0) t.state ≡ Word 9

abbrev pub sweeping_from : ℕ → List Call
sweeping_from g = Make 0 0 1 ∷ Begin ∷ Step 5 ∷ Step g ∷ []

abbrev pub MakesAt : ℕ → Type 0
MakesAt g =
    MadeInSweeping (run_from (start 2 1) (sweeping_from g)) (run_from (start 2 1) (sweeping_from g ++ Make 1 0 1 ∷ []))
    (run_from (start 2 1) (sweeping_from g ++ Make 1 0 1 ∷ Write 1 0 9 ∷ Step 1000 ∷ [])) g

-- page 0 is still to be swept, or is already swept
abbrev pub MadeInPageToBeSwept : Type 0
MadeInPageToBeSwept = MakesAt 0

abbrev pub MadeInSweptPage : Type 0
MadeInSweptPage = MakesAt 1
