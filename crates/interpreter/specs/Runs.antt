-- What lines do with a recorder, and what is written for them. A recorder is known by what its calls lead to: `took s k a t` says that the call k may lead from s by the answer a to t.
use Rattle.std.specs.Prelude.{◌≡◌, ℕ, List, [], ◌∷◌, ◌++◌, Result}
use Rattle.calls.specs.declared.Answer.{Answer}
use Rattle.calls.specs.declared.Call.{Call}
use Rattle.calls.specs.declared.Refusal.{Refusal}
use Rattle.calls.specs.Numbers.{letter_of}
use Rattle.script.specs.Lines.{Meaning, is_call, is_remark, meaning, no_call}
use Rattle.printing.specs.Replies.{no_call_line, reply_line}
use Rattle.lines.specs.Lines.{lines_of, rest_of}

abbrev pub Took : Type 0 → Type 1
Took S = S → Call → Result Answer Refusal → S → Type 0

-- what a line means is done: the recorder goes from s to t, and out is written
abbrev pub Does : {S : Type 0} → Took S → S → Meaning → List ℕ → S → Type 0
Does took s (is_call k) out t = (a : Result Answer Refusal) × took s k a t × (out ≡ reply_line (letter_of k) a ++ 10 ∷ [])
Does took s (is_remark bs) out t = (s ≡ t) × (out ≡ bs ++ 10 ∷ [])
Does took s no_call out t = (s ≡ t) × (out ≡ no_call_line ++ 10 ∷ [])

-- lines, one after another
abbrev pub Runs : {S : Type 0} → Took S → S → List (List ℕ) → List ℕ → S → Type 0
Runs took s [] out t = (s ≡ t) × (out ≡ [])
Runs took s (l ∷ ls) out t = (u : _) × (first : List ℕ) × (rest : List ℕ) × Does took s (meaning l) first u × Runs took u ls rest t × (out ≡ first ++ rest)

-- from the recorder s on the bytes bs came in: so much is written, the recorder is t, and h is held of the line that is not finished
pub record Stands {S : Type 0} (took : Took S) (s : S) (bs written : List ℕ) (t : S) (h : List ℕ) : Type 0 where
  pub ran : Runs took s (lines_of bs) written t
  pub held : h ≡ rest_of bs
