-- The line that answers a call.
use Rattle.std.specs.Prelude.{ℕ, cond, List, [], ◌∷◌, Ok, Err, Result, ◌==◌}
use Rattle.calls.specs.declared.Answer.{Answer}
use Rattle.calls.specs.declared.Refusal.{Refusal}
use Rattle.calls.specs.declared.Refusal.TheVariants.{NoCall}
use Rattle.calls.specs.Numbers.{answered, number_of}
use Rattle.calls.specs.Spelling.{tabbed}

-- what a refusal's line begins with: the letter of the call, or - for what is no call
abbrev pub letter_of_refusal : ℕ → Refusal → ℕ
letter_of_refusal l r = cond (number_of r == number_of NoCall) 45 l

-- the answer to the call with this letter, without a line feed: ok and its numbers, or no and the number of the refusal
abbrev pub reply_line : ℕ → Result Answer Refusal → List ℕ
reply_line l (Ok a) = l ∷ 9 ∷ 111 ∷ 107 ∷ tabbed (answered a)
reply_line l (Err r) = letter_of_refusal l r ∷ 9 ∷ 110 ∷ 111 ∷ tabbed (number_of r ∷ [])

-- the answer to a line that is no call
abbrev pub no_call_line : List ℕ
no_call_line = 45 ∷ 9 ∷ 110 ∷ 111 ∷ 9 ∷ 51 ∷ []
