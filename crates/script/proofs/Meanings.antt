-- What a line means, case by case; a line means a call exactly if it is the line of that call.
use Rattle.std.proofs.Common.{◌≡◌, ℕ, ◌*◌, ◌≤◌, true, false, eqb, leb, ◌⊎◌, List, [], ◌∷◌, ◌++◌, map, length, get_or, Some, None, decimal, Option, sym, refl, ap, ◌∙◌, inl, inr, arith}
use Rattle.std.specs.List.{starts_with}
use Rattle.std.proofs.lemmas.Fmt.{length-decimal-le}
use Rattle.std.proofs.lemmas.List.{length-append}
use Rattle.std.proofs.lemmas.Bool.{eq-eqb, eqb-true, leb-true, le-leb, cond-true, cond-false, cond_both}
use Rattle.calls.specs.declared.Call.{Call}
use Rattle.calls.specs.declared.Call.TheVariants.{Make, Load, Store, Read, Write, Copy, Clear, Same, Shape, Schedule, Next, Begin, Step, Count}
use Rattle.calls.specs.Numbers.{Words, letter_of, numbers_of}
use Rattle.calls.specs.Spelling.{call_line, tabbed}
use Rattle.script.specs.Fields.{fields}
use Rattle.script.specs.Numerals.{numbers}
use Rattle.script.specs.Lines.{Exact, Meaning, opens_remark, named_call, call_of_fields, call_or_not, is_call, is_remark, meaning, no_call}
use Rattle.script.proofs.Decimals.{after_tabbed, decimal_numbers, numbers_decimal}
use Rattle.script.proofs.Letters.{few, letter_names, told}
use Rattle.script.proofs.Splitting.{each_behind, rejoined, rejoined_parted, single}

pub long_means : (bs : List ℕ) → leb (length bs) 80 ≡ false → no_call ≡ meaning bs
unfolding meaning
long_means bs long = sym (cond-false (leb (length bs) 80) _ _ long)

pub remark_means : (bs : List ℕ) → leb (length bs) 80 ≡ true → opens_remark bs ≡ true → is_remark bs ≡ meaning bs
unfolding meaning
remark_means bs short begins = sym (cond-true (leb (length bs) 80) _ _ short ∙ cond-true (opens_remark bs) _ _ begins)

pub other_means : (bs : List ℕ) → leb (length bs) 80 ≡ true → opens_remark bs ≡ false → call_or_not (call_of_fields (fields bs)) ≡ meaning bs
unfolding meaning
other_means bs short other = sym (cond-true (leb (length bs) 80) _ _ short ∙ cond-false (opens_remark bs) _ _ other)

pub begins_with : (bs : List ℕ) → starts_with eqb bs (35 ∷ []) ≡ opens_remark bs
begins_with [] = refl
begins_with (c ∷ cs) = grind arith

-- the longest spelling has 34 bytes
calls_no_remark : (k : Call) → opens_remark (call_line k) ≡ false
calls_no_remark (Make a b d) = refl
calls_no_remark (Load a b d) = refl
calls_no_remark (Store a b d) = refl
calls_no_remark (Read a b) = refl
calls_no_remark (Write a b d) = refl
calls_no_remark (Copy a b) = refl
calls_no_remark (Clear a) = refl
calls_no_remark (Same a b) = refl
calls_no_remark (Shape a) = refl
calls_no_remark (Schedule a b) = refl
calls_no_remark (Next a) = refl
calls_no_remark Begin = refl
calls_no_remark (Step a) = refl
calls_no_remark Count = refl

length_tabbed : (ns : List ℕ) → Words ns → length (tabbed ns) ≤ 11 * length ns
length_tabbed [] h = omega arith
length_tabbed (n ∷ ns) h =
    omega (arith, length-append (decimal n) (tabbed ns), length-decimal-le 10 n (omega arith) (omega arith) (omega arith), length_tabbed ns h.1)

begins : (ns : List ℕ) → (length (tabbed ns) ≡ 0) ⊎ (get_or (tabbed ns) 0 0 ≡ 9)
begins [] = inl refl
begins (n ∷ ns) = inr refl

-- reading what is written of a call gives the call back
pub reads_back : (k : Call) → Words (numbers_of k) → meaning (call_line k) ≡ is_call k
reads_back k h =
    sym (other_means (call_line k) (le-leb _ _ (omega (arith, few k, length_tabbed (numbers_of k) h))) (calls_no_remark k)) ∙
    ap call_or_not
    (sym (single (letter_of k) (tabbed (numbers_of k)) (begins (numbers_of k))) ∙
    ap (λ fs. named_call (letter_of k) (numbers fs)) (after_tabbed (numbers_of k) h) ∙
    ap (named_call (letter_of k)) (numbers_decimal (numbers_of k) h) ∙
    letter_names k)

each_decimal : (ns : List ℕ) → each_behind 9 (map decimal ns) ≡ tabbed ns
each_decimal [] = refl
each_decimal (n ∷ ns) = ap (λ (bs : List ℕ). 9 ∷ (decimal n ++ bs)) (each_decimal ns)

-- and a line that reads as a call is what is written of that call
of_told : (gs : List (List ℕ)) (k : Call) → call_of_fields gs ≡ Some k → rejoined 9 gs ≡ call_line k
of_told [] k e = cc
of_told ([] ∷ fs) k e = cc
of_told ((c ∷ []) ∷ fs) k e =
    let t = told c (numbers fs) k e in
    ap (λ (x : ℕ). x ∷ each_behind 9 fs) t.0 ∙
    ap (λ (gs : List (List ℕ)). letter_of k ∷ each_behind 9 gs) (decimal_numbers fs (numbers_of k) t.1) ∙
    ap (λ (bs : List ℕ). letter_of k ∷ bs) (each_decimal (numbers_of k))
of_told ((c ∷ d ∷ ds) ∷ fs) k e = cc

some_call : (o : Option Call) (k : Call) → call_or_not o ≡ is_call k → o ≡ Some k
some_call None k e = cc
some_call (Some j) k e = let h : j ≡ k = cc in ap (λ (x : Call). Some x) h

pub one_spelling : (bs : List ℕ) (k : Call) → meaning bs ≡ is_call k → bs ≡ call_line k
unfolding meaning
one_spelling bs k =
    let P : Meaning → Type 0 = λ m. m ≡ is_call k → bs ≡ call_line k in
    cond_both (leb (length bs) 80) _ no_call P
    (λ _. cond_both (opens_remark bs) (is_remark bs) (call_or_not (call_of_fields (fields bs))) P
    (λ _ e. cc)
    (λ _ e. sym (rejoined_parted 9 bs) ∙ of_told (fields bs) k (some_call _ k e)))
    (λ _ e. cc)

-- a remark is a line of at most 80 bytes that begins with #, and no other
begun : (bs : List ℕ) → get_or bs 0 0 ≡ 35 → opens_remark bs ≡ true
begun [] e = absurd (omega arith)
begun (c ∷ cs) e = eq-eqb c 35 e

first_of : (bs : List ℕ) → opens_remark bs ≡ true → get_or bs 0 0 ≡ 35
first_of [] e = cc
first_of (c ∷ cs) e = eqb-true c 35 e

call_no_remark : (o : Option Call) (cs : List ℕ) → call_or_not o ≡ is_remark cs → ⊥
call_no_remark None cs e = cc
call_no_remark (Some k) cs e = cc

remark_only : (bs cs : List ℕ) → meaning bs ≡ is_remark cs → (bs ≡ cs) × (length bs ≤ 80) × (get_or bs 0 0 ≡ 35)
unfolding meaning
remark_only bs cs =
    let P : Meaning → Type 0 = λ m. m ≡ is_remark cs → (bs ≡ cs) × (length bs ≤ 80) × (get_or bs 0 0 ≡ 35) in
    cond_both (leb (length bs) 80) _ no_call P
    (λ short. cond_both (opens_remark bs) (is_remark bs) (call_or_not (call_of_fields (fields bs))) P
    (λ begins e. let same : bs ≡ cs = cc in (same, leb-true _ _ short, first_of bs begins))
    (λ _ e. absurd (call_no_remark _ cs e)))
    (λ _ e. cc)

-- all of it
pub exact : (bs : List ℕ) (m : Meaning) → m ≡ meaning bs → Exact bs m
exact bs m e =
    record {
      unique = λ k h. one_spelling bs k (sym e ∙ h);
      back = λ k h same. e ∙ ap meaning same ∙ reads_back k h;
      remark = λ cs h. remark_only bs cs (sym e ∙ h);
      remarked = λ short first. e ∙ sym (remark_means bs (le-leb _ _ short) (begun bs first));
    }
