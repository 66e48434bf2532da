-- What a line of a script means.
use Rattle.std.specs.Prelude.{◌≡◌, ℕ, ◌≤◌, Bool, false, cond, List, [], ◌∷◌, length, Some, None, Option, ◌==◌, nat_le, slice_index}
use Rattle.std.specs.Option.{option_map}
use Rattle.calls.specs.declared.Call.{Call}
use Rattle.calls.specs.declared.Call.TheVariants.{Make, Load, Store, Read, Write, Copy, Clear, Same, Shape, Schedule, Next, Begin, Step, Count}
use Rattle.calls.specs.Numbers.{Words, numbers_of}
use Rattle.calls.specs.Spelling.{call_line}
use Rattle.script.specs.declared.line.Line.{Line}
use Rattle.script.specs.declared.line.Line.TheVariants as line
use Rattle.script.specs.Fields.{fields}
use Rattle.script.specs.Numerals.{numbers}

-- exactly so many numbers
abbrev pub no_number : Option (List ℕ) → Option (Unit {0})
no_number None = None
no_number (Some []) = Some tt
no_number (Some (a ∷ ns)) = None

abbrev pub one_number : Option (List ℕ) → Option ℕ
one_number None = None
one_number (Some []) = None
one_number (Some (a ∷ [])) = Some a
one_number (Some (a ∷ b ∷ ns)) = None

abbrev pub number_pair : Option (List ℕ) → Option (ℕ × ℕ)
number_pair None = None
number_pair (Some []) = None
number_pair (Some (a ∷ [])) = None
number_pair (Some (a ∷ b ∷ [])) = Some (a, b)
number_pair (Some (a ∷ b ∷ d ∷ ns)) = None

abbrev pub number_triple : Option (List ℕ) → Option (ℕ × ℕ × ℕ)
number_triple None = None
number_triple (Some []) = None
number_triple (Some (a ∷ [])) = None
number_triple (Some (a ∷ b ∷ [])) = None
number_triple (Some (a ∷ b ∷ d ∷ [])) = Some (a, b, d)
number_triple (Some (a ∷ b ∷ d ∷ e ∷ ns)) = None

-- the call of a letter and its numbers
abbrev pub named_call : ℕ → Option (List ℕ) → Option Call
named_call c o =
    cond (c == 77) (option_map (λ t. Make t.0 t.1 t.2) (number_triple o))
    (cond (c == 76) (option_map (λ t. Load t.0 t.1 t.2) (number_triple o))
    (cond (c == 83) (option_map (λ t. Store t.0 t.1 t.2) (number_triple o))
    (cond (c == 82) (option_map (λ t. Read t.0 t.1) (number_pair o))
    (cond (c == 87) (option_map (λ t. Write t.0 t.1 t.2) (number_triple o))
    (cond (c == 67) (option_map (λ t. Copy t.0 t.1) (number_pair o))
    (cond (c == 75) (option_map (λ a. Clear a) (one_number o))
    (cond (c == 81) (option_map (λ t. Same t.0 t.1) (number_pair o))
    (cond (c == 72) (option_map (λ a. Shape a) (one_number o))
    (cond (c == 69) (option_map (λ t. Schedule t.0 t.1) (number_pair o))
    (cond (c == 78) (option_map (λ a. Next a) (one_number o))
    (cond (c == 66) (option_map (λ _. Begin) (no_number o))
    (cond (c == 71) (option_map (λ a. Step a) (one_number o))
    (cond (c == 84) (option_map (λ _. Count) (no_number o)) None)))))))))))))

pub data Meaning : Type 0 where
  is_call : Call → Meaning
  is_remark : List ℕ → Meaning
  no_call : Meaning

abbrev pub call_or_not : Option Call → Meaning
call_or_not None = no_call
call_or_not (Some k) = is_call k

-- the first field is one letter, and each other field a number
abbrev pub call_of_fields : List (List ℕ) → Option Call
call_of_fields [] = None
call_of_fields ([] ∷ fs) = None
call_of_fields ((c ∷ []) ∷ fs) = named_call c (numbers fs)
call_of_fields ((c ∷ d ∷ ds) ∷ fs) = None

-- a remark begins with #
abbrev pub opens_remark : List ℕ → Bool
opens_remark [] = false
opens_remark (c ∷ cs) = c == 35

-- a line of more than 80 bytes is no call and no remark
unfoldable pub meaning : List ℕ → Meaning
meaning bs = cond (nat_le (length bs) 80) (cond (opens_remark bs) (is_remark bs) (call_or_not (call_of_fields (fields bs)))) no_call

-- what a `Line` says; a remark's bytes are those that it borrows
abbrev pub sense : Line → Meaning
sense (line.Call k) = is_call k
sense (line.Remark s) = is_remark s.now
sense line.NoCall = no_call

-- m is a call exactly if the bytes are the line of that call, and a remark exactly if they are at most 80 and begin with #
pub record Exact (bs : List ℕ) (m : Meaning) : Type 0 where
  pub unique : (k : Call) → m ≡ is_call k → bs ≡ call_line k
  pub back : (k : Call) → Words (numbers_of k) → bs ≡ call_line k → m ≡ is_call k
  pub remark : (cs : List ℕ) → m ≡ is_remark cs → (bs ≡ cs) × (length bs ≤ 80) × (slice_index bs 0 ≡ 35)
  pub remarked : length bs ≤ 80 → slice_index bs 0 ≡ 35 → m ≡ is_remark bs
