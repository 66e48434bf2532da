-- The result of a call of one kind, as an answer or a refusal.
use Rattle.std.specs.Prelude.{ℕ, Bool, Ok, Err, Result}
use Rattle.calls.specs.declared.Answer.{Answer}
use Rattle.calls.specs.declared.Answer.TheVariants as answer
use Rattle.calls.specs.declared.Refusal.{Refusal}

-- a call's result as an answer or a refusal
abbrev pub said : {A : Type 0} → (A → Answer) → Result A Refusal → Result Answer Refusal
said f (Ok a) = Ok (f a)
said f (Err n) = Err n

abbrev pub said_done : {A : Type 0} → Result A Refusal → Result Answer Refusal
said_done r = said (λ _. answer.Done) r

abbrev pub said_word : Result ℕ Refusal → Result Answer Refusal
said_word r = said (λ n. answer.Word n) r

abbrev pub said_same : Result Bool Refusal → Result Answer Refusal
said_same r = said (λ b. answer.Same b) r

abbrev pub said_shape : Result (ℕ × ℕ) Refusal → Result Answer Refusal
said_shape r = said (λ n. answer.Shape n.0 n.1) r

abbrev pub said_time : Result ℕ Refusal → Result Answer Refusal
said_time r = said (λ n. answer.Time n) r

abbrev pub said_progress : Result (ℕ × ℕ × Bool) Refusal → Result Answer Refusal
said_progress r = said (λ n. answer.Progress n.0 n.1 n.2) r

abbrev pub said_counts : ℕ × ℕ × ℕ × ℕ → Result Answer Refusal
said_counts n = Ok (answer.Counts n.0 n.1 n.2 n.3)
