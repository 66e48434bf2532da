-- What each granted call makes of the store, and what it answers.
use Rattle.std.specs.Prelude.{ℕ, suc, ◌+◌, List, [], ◌∷◌, length, Some, None, Ok, Err, Option, Result, ◌==◌, slice_index, slice_set}
use Rattle.calls.specs.declared.Call.{Call}
use Rattle.calls.specs.declared.Call.TheVariants.{Make, Load, Store, Read, Write, Copy, Clear, Same, Shape, Schedule, Next, Begin, Step, Count}
use Rattle.calls.specs.declared.Answer.{Answer}
use Rattle.calls.specs.declared.Answer.TheVariants as answer
use Rattle.calls.specs.declared.Refusal.{Refusal}
use Rattle.holders.specs.declared.key.Key.{Key}
use Rattle.holders.specs.Keys.{spare_of}
use Rattle.model.specs.Classes.{fitting}
use Rattle.model.specs.Pages.{Block, block_at, put_block, current, refs_of, words_of, count_pages, is_uncut, count_of_current_blocks, husks}
use Rattle.model.specs.State.{roots, running, Heap, State, with_heap, with_pages}
use Rattle.model.specs.Units.{with_refs, steps, done_in}
use Rattle.model.specs.Making.{barrier, overwrite, page_to_take, ready_pages, free_number, with_new}
use Rattle.model.specs.Refusals.{place, block_in, first_keyed, refusal}

abbrev pub if_some : {A B : Type 0} → Option A → (A → B) → B → B
if_some None f d = d
if_some (Some x) f d = f x

-- make: the record is put into its block first, and then its number into the place
abbrev pub made_in : State → ℕ → ℕ → ℕ → ℕ → State
made_in s p r d g =
    let size = fitting (2 + r + d) in
    overwrite (with_heap s (with_new s.heap g size r d)) p (free_number (ready_pages s.heap.pages g size) g)

-- a change of block `n`, if there is one
abbrev pub alter : Heap → ℕ → (Block → Block) → Option Block → Heap
alter h n f None = h
alter h n f (Some b) = with_pages h (put_block h.pages n (f b))

abbrev pub with_word : Block → ℕ → ℕ → Block
with_word b w v = record { forward = b.forward; marked = b.marked; refs = b.refs; words = slice_set b.words w v }

-- store: reference `f` of block `n` gets a number, behind the barrier
abbrev pub stored : State → ℕ → ℕ → ℕ → State
stored s n f v =
    let h = barrier s.heap (slice_index (refs_of (block_at s.heap.pages n)) f) in
    with_heap s (alter h n (λ b. with_refs b (slice_set b.refs f v)) (block_at h.pages n))

-- schedule: agenda place `i` gets the record and a key
abbrev pub scheduled : State → ℕ → ℕ → ℕ → State
scheduled s t n i = record {
  heap = barrier s.heap (slice_index s.agenda i);
  holder = s.holder;
  agenda = slice_set s.agenda i n;
  keys = slice_set s.keys i (Some (record { time = t; serial = s.serial }));
  clock = s.clock;
  serial = suc s.serial;
}

-- next: place `p` gets the record of agenda place `i`, which is emptied and loses its key; place `p` is greyed before the agenda's
abbrev pub taken : State → ℕ → Key × ℕ → State
taken s p k = record {
  heap = barrier (barrier s.heap (slice_index s.holder p)) (slice_index s.agenda k.1);
  holder = slice_set s.holder p (current s.heap.pages (slice_index s.agenda k.1));
  agenda = slice_set s.agenda k.1 0;
  keys = slice_set s.keys k.1 None;
  clock = k.0.time;
  serial = s.serial;
}

-- begin: roots at place 0, no units done
abbrev pub begun : Heap → Heap
begun h = record { pages = h.pages; work = []; phase = roots 0; units = 0 }

-- the state after a granted call
abbrev pub outcome : Call → State → State
outcome (Make p r d) s = if_some (page_to_take s.heap.pages (fitting (2 + r + d))) (made_in s p r d) s
outcome (Load p q f) s = overwrite s p (current s.heap.pages (slice_index (refs_of (block_in s q)) f))
outcome (Store q f p) s = stored s (place s q) f (place s p)
outcome (Read q w) s = s
outcome (Write q w v) s = with_heap s (alter s.heap (place s q) (λ b. with_word b w v) (block_in s q))
outcome (Copy p q) s = overwrite s p (place s q)
outcome (Clear p) s = overwrite s p 0
outcome (Same p q) s = s
outcome (Shape q) s = s
outcome (Schedule t p) s = scheduled s t (place s p) (spare_of s.keys)
outcome (Next p) s = if_some (first_keyed s.keys) (taken s p) s
outcome Begin s = with_heap s (begun s.heap)
outcome (Step u) s = steps u s
outcome Count s = s

-- what a granted call answers
abbrev pub reply : Call → State → Answer
reply (Make p r d) s = answer.Done
reply (Load p q f) s = answer.Done
reply (Store q f p) s = answer.Done
reply (Read q w) s = answer.Word (slice_index (words_of (block_in s q)) w)
reply (Write q w v) s = answer.Done
reply (Copy p q) s = answer.Done
reply (Clear p) s = answer.Done
reply (Same p q) s = answer.Same (place s p == place s q)
reply (Shape q) s = answer.Shape (length (refs_of (block_in s q))) (length (words_of (block_in s q)))
reply (Schedule t p) s = answer.Done
reply (Next p) s = if_some (first_keyed s.keys) (λ k. answer.Time k.0.time) answer.Done
reply Begin s = answer.Done
reply (Step u) s =
    let t = steps u s in answer.Progress (done_in u s) t.heap.units (running t.heap.phase)
reply Count s =
    answer.Counts (count_of_current_blocks s.heap.pages) (husks s.heap.pages)
    (count_pages is_uncut s.heap.pages) (count_pages (λ p. p.closed) s.heap.pages)

-- a refused call changes nothing
abbrev pub decided : Option Refusal → State → State → Answer → State × Result Answer Refusal
decided None s t a = (t, Ok a)
decided (Some n) s t a = (s, Err n)

-- any call on any state: the state after it, and the answer or the refusal
abbrev pub apply : Call → State → State × Result Answer Refusal
apply c s = decided (refusal c s) s (outcome c s) (reply c s)

abbrev pub run : List Call → State → List (Result Answer Refusal)
run [] s = []
run (c ∷ cs) s = (apply c s).1 ∷ run cs (apply c s).0

abbrev pub run_state : List Call → State → State
run_state [] s = s
run_state (c ∷ cs) s = run_state cs (apply c s).0
