-- A number and the digits that write it; numbers and their fields.
use Rattle.std.proofs.Common.{◌≡◌, ℕ, ◌^◌, ◌<◌, Bool, true, false, cond, not, ◌&&◌, eqb, leb, List, [], ◌∷◌, ◌++◌, map, length, get_or, Some, None, decimal, Option, sym, refl, ap, ◌∙◌, ⊎_elim, arith, rules}
use Rattle.std.proofs.lemmas.Bool.{eq-eqb, ne_eqb, leb-true, le-leb, cond-true, cond-false, and_parts, and_from, cases_lt, false≢true}
use Rattle.std.proofs.lemmas.Str.Parse.{IsNumeralModel, numerals_by_fold}
use Rattle.std.proofs.lemmas.Fmt.{digits_decimal, digits_value-decimal, decimal-digits_value, first_decimal, decimal_digit, decimal_nonempty}
use Rattle.calls.specs.Numbers.{Words}
use Rattle.calls.specs.Spelling.{tabbed}
use Rattle.std.specs.List.{onto_first}
use Rattle.script.specs.Fields.{fields}
use Rattle.script.specs.Numerals.{digit, all_digits, unpadded, value_after, numeral, with_number, numbers}
use Rattle.script.proofs.Splitting.{after, some_number}

own : IsNumeralModel (λ ds. all_digits ds ≡ true) (value_after 0)
own = numerals_by_fold _ (search rules) value_after (search rules)

-- a numeral is what `decimal` writes of its number
unpadded_from : (ds : List ℕ) → 0 < length ds → (get_or ds 0 0 ≡ 48 → length ds ≡ 1) → unpadded ds ≡ true
unpadded_from [] some h = absurd (omega arith)
unpadded_from (c ∷ []) some h = refl
unpadded_from (c ∷ d ∷ ds) some h = ap not (ne_eqb c 48 (λ e. omega (arith, h e)))

unpadded_some : (ds : List ℕ) → unpadded ds ≡ true → 0 < length ds
unpadded_some [] e = absurd (false≢true e)
unpadded_some (c ∷ ds) e = omega arith

unpadded_first : (ds : List ℕ) → unpadded ds ≡ true → get_or ds 0 0 ≡ 48 → length ds ≡ 1
unpadded_first [] e h = absurd (false≢true e)
unpadded_first (c ∷ []) e h = refl
unpadded_first (c ∷ d ∷ ds) e h = absurd (false≢true (ap not (sym (eq-eqb c 48 h)) ∙ e))

decimal_unpadded : (n : ℕ) → n < 2 ^ 64 → unpadded (decimal n) ≡ true
decimal_unpadded n h =
    ⊎_elim
    (λ small. ap unpadded (decimal_digit n small))
    (λ large. unpadded_from (decimal n) (decimal_nonempty n h) (λ e. absurd (omega (arith, first_decimal n (omega arith) h))))
    (cases_lt n 10)

pub numeral_decimal : (n : ℕ) → n < 2 ^ 32 → numeral (decimal n) ≡ Some n
numeral_decimal n h =
    let big : n < 2 ^ 64 = omega arith in
    let is = digits_value-decimal own n big in
    cond-true (unpadded (decimal n) && (all_digits (decimal n) && leb (value_after 0 (decimal n)) 4294967295)) _ _
    (and_from _ _ (decimal_unpadded n big) (and_from _ _ (digits_decimal own n big) (le-leb _ _ (omega (arith, is)))))
    ∙ ap (λ (m : ℕ). Some m) is

some_cond : (b : Bool) (v n : ℕ) → cond b (Some v) None ≡ Some n → (b ≡ true) × (v ≡ n)
some_cond true v n e = (refl, cc)
some_cond false v n e = cc

pub decimal_numeral : (ds : List ℕ) (n : ℕ) → numeral ds ≡ Some n → ds ≡ decimal n
decimal_numeral ds n e =
    let h = some_cond _ _ _ e in
    let p = and_parts (unpadded ds) _ h.0 in
    let q = and_parts (all_digits ds) _ p.1 in
    sym (decimal-digits_value own ds q.0 (unpadded_some ds p.0) (unpadded_first ds p.0) (omega (arith, leb-true _ _ q.1))) ∙ ap decimal h.1

-- numbers and their texts, one by one
pub numbers_decimal : (ns : List ℕ) → Words ns → numbers (map decimal ns) ≡ Some ns
numbers_decimal [] h = refl
numbers_decimal (n ∷ ns) h =
    ap (λ (o : Option ℕ). with_number o (numbers (map decimal ns))) (numeral_decimal n h.0) ∙
    ap (λ (o : Option (List ℕ)). with_number (Some n) o) (numbers_decimal ns h.1)

pub decimal_numbers : (fs : List (List ℕ)) (ns : List ℕ) → numbers fs ≡ Some ns → fs ≡ map decimal ns
decimal_numbers [] ns e = let h : ns ≡ [] = cc in ap (map decimal) (sym h)
decimal_numbers (f ∷ fs) ns e =
    let h = some_number (numeral f) (numbers fs) ns e in
    let p : f ≡ decimal h.0 = decimal_numeral f h.0 h.2 in
    let q : fs ≡ map decimal h.1 = decimal_numbers fs h.1 h.3 in
    ap (λ (g : List ℕ). g ∷ fs) p ∙ ap (λ (gs : List (List ℕ)). decimal h.0 ∷ gs) q ∙ ap (map decimal) (sym h.4)

-- the fields of numbers that are written out
cut : (ds ns : List ℕ) → all_digits ds ≡ true → fields (ds ++ tabbed ns) ≡ ds ∷ after (tabbed ns)
cut [] [] h = refl
cut [] (n ∷ ns) h = refl
cut (d ∷ ds) ns h =
    let p = and_parts (digit d) (all_digits ds) h in
    let q = and_parts (leb 48 d) (leb d 57) p.0 in
    cond-false (eqb d 9) _ _ (ne_eqb d 9 (λ e. omega (arith, leb-true 48 d q.0))) ∙ ap (onto_first d) (cut ds ns p.1)

pub after_tabbed : (ns : List ℕ) → Words ns → after (tabbed ns) ≡ map decimal ns
after_tabbed [] h = refl
after_tabbed (n ∷ ns) h = cut (decimal n) ns (digits_decimal own n (omega arith)) ∙ ap (λ (gs : List (List ℕ)). decimal n ∷ gs) (after_tabbed ns h.1)
