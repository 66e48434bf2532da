-- A day of three events, as a history with values.
use Rattle.std.specs.Prelude.{◌≡◌, ℕ, List, [], ◌∷◌, map}
use Rattle.calls.specs.declared.Call.{Call}
use Rattle.calls.specs.declared.Call.TheVariants.{Make, Schedule, Next}
use Rattle.model.specs.Graph.{Event}
use Rattle.histories.specs.Histories.{history}

-- the schedule at time 2 is refused, since an event of time 3 was taken by then, and so is the fourth next
abbrev pub day : List Call
day = Make 0 0 0 ∷ Schedule 5 0 ∷ Schedule 3 0 ∷ Next 1 ∷ Schedule 2 0 ∷ Schedule 3 0 ∷ Next 1 ∷ Next 1 ∷ Next 1 ∷ []

abbrev pub key_of : Event → ℕ × ℕ
key_of e = (e.key.time, e.key.serial)

-- time and serial of the events taken, newest first
abbrev pub DayInOrder : Type 0
DayInOrder = map key_of (history 16 32 day).taken ≡ (5, 0) ∷ (3, 2) ∷ (3, 1) ∷ []
