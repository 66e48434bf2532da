-- Worked examples of the definitions, one row each, named for what it shows.
use Rattle.std.specs.Prelude.{◌≡◌, ℕ, zero, suc, ◌-◌, true, false, List, [], ◌∷◌, ◌++◌, replicate, Some, None, Ok, Err, Option, Result}
use Rattle.calls.specs.declared.Call.{Call}
use Rattle.calls.specs.declared.Call.TheVariants.{Make, Load, Store, Read, Write, Clear, Schedule, Next, Begin, Step, Count}
use Rattle.calls.specs.declared.Answer.{Answer}
use Rattle.calls.specs.declared.Answer.TheVariants.{Done, Word, Time, Progress, Counts}
use Rattle.calls.specs.declared.Refusal.{Refusal}
use Rattle.calls.specs.declared.Refusal.TheVariants.{TooLarge, NoSuchWord, NoRoom}
use Rattle.model.specs.Classes.{sizes, by_rule}
use Rattle.model.specs.Pages.{Block, Page, uncut, number, page_at}
use Rattle.model.specs.State.{idle, moving, running, State, fresh, with_heap}
use Rattle.model.specs.Units.{steps}
use Rattle.model.specs.Calls.{run, run_state}

-- what the calls answer, and the block size of page 0 after them, on a fresh store of 32 places and 64 places in its agenda
abbrev pub answers_to : List Call → List (Result Answer Refusal)
answers_to cs = run cs (fresh 32 64)

abbrev pub first_size : List Call → ℕ
first_size cs = (page_at (run_state cs (fresh 32 64)).heap.pages 0).size

abbrev pub granted : ℕ → List (Result Answer Refusal)
granted n = replicate n (Ok Done)

-- page `g` of the largest class with so many records of 30 words in its lowest slots
abbrev pub filled : ℕ → ℕ → ℕ → List (Option Block)
filled g s zero = replicate (8 - s) None
filled g s (suc n) = Some (record { forward = number g s; marked = false; refs = []; words = replicate 30 0 }) ∷ filled g (suc s) n

abbrev pub page_with : ℕ → ℕ → Page
page_with g n = record { size = 32; closed = false; slots = filled g 0 n }

-- a store about to empty thin pages of the largest class, whose pages have so many records
abbrev pub about_to_move : ℕ → ℕ → State
about_to_move m n =
    with_heap (fresh 32 64)
    (record { pages = page_with 0 m ∷ page_with 1 n ∷ replicate 62 uncut; work = []; phase = moving 19 None 0; units = 0 })

pub record Worked : Type 0 where
  -- 96 places, 2 records, 1 turn to sweeping, 64 pages
  pub a_collection_of_163_units :
      answers_to (Make 0 1 1 ∷ Write 0 0 77 ∷ Make 1 0 2 ∷ Store 0 0 1 ∷ Make 1 0 0 ∷ Clear 1 ∷ Begin ∷ Step 1000 ∷ Count ∷ Load 1 0 0 ∷ Read 1 2 ∷ Read 0 0 ∷ [])
      ≡ granted 7 ++ Ok (Progress 163 163 false) ∷ Ok (Counts 2 0 63 0) ∷ Ok Done ∷ Err NoSuchWord ∷ Ok (Word 77) ∷ []
  pub thirty_references_are_made : answers_to (Make 0 30 0 ∷ []) ≡ Ok Done ∷ []
  pub one_word_more_is_too_large : answers_to (Make 0 30 1 ∷ []) ≡ Err TooLarge ∷ []
  pub sizes_are_added_as_whole_numbers : answers_to (Make 0 4294967295 1 ∷ []) ≡ Err TooLarge ∷ []
  pub seventeen_words_take_the_class_of_eighteen : first_size (Make 0 10 5 ∷ []) ≡ 18
  pub two_words_take_the_class_of_four : first_size (Make 0 0 0 ∷ []) ≡ 4
  pub a_full_store_has_no_room : answers_to (replicate 513 (Make 0 0 30)) ≡ granted 512 ++ Err NoRoom ∷ []
  pub events_of_one_time_come_in_order_of_scheduling :
      answers_to (Make 0 0 1 ∷ Write 0 0 1 ∷ Schedule 5 0 ∷ Make 0 0 1 ∷ Write 0 0 2 ∷ Schedule 5 0 ∷ Next 1 ∷ Read 1 0 ∷ Next 1 ∷ Read 1 0 ∷ [])
      ≡ granted 6 ++ Ok (Time 5) ∷ Ok (Word 1) ∷ Ok (Time 5) ∷ Ok (Word 2) ∷ []
  pub two_and_six_are_finished_in_five_units : (running (steps 4 (about_to_move 2 6)).heap.phase ≡ true) × ((steps 5 (about_to_move 2 6)).heap.phase ≡ idle)
  pub two_and_seven_are_finished_in_one_unit : (steps 1 (about_to_move 2 7)).heap.phase ≡ idle
  pub a_step_of_nothing_does_no_unit : answers_to (Begin ∷ Step 0 ∷ []) ≡ Ok Done ∷ Ok (Progress 0 0 true) ∷ []
  pub the_class_table_follows_its_rule : by_rule sizes ≡ true
