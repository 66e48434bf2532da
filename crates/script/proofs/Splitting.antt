-- The first field of a line, and what follows it.
use Rattle.std.proofs.Common.{take-append-drop, drop-cons, ◌≡◌, ℕ, suc, ◌<◌, ◌≤◌, Bool, map, true, false, cond, eqb, ◌⊎◌, List, [], ◌∷◌, ◌++◌, length, get_or, take, drop, Some, None, Option, Ok, Err, Result, sym, refl, ap, ◌∙◌, subst, ⊎_elim, arith, append-nil}
use Rattle.std.specs.List.{join_with_byte, onto_first}
use Rattle.std.specs.Result.{OnErr, OnOk, result_ok}
use Rattle.std.specs.Option.{option_map}
use denote.Param.Members.{Mut}
use denote.Ref.{Bor}
use Rattle.std.specs.Fn.{CalledAt}
use Rattle.std.specs.Iterator.{Yields}
use Rattle.std.specs.Slice.Iter.{split_callee, split_done, split_rest, split_steps}
use Rattle.std.specs.declared.slice.Split.{Split}
use Rattle.std.proofs.lemmas.Iterator.{YieldsList}
use Rattle.std.proofs.lemmas.Iterator.Consumers.{YieldsList-so_far, YieldsList-turn}
use Rattle.std.proofs.lemmas.Iterator.Splits.{YieldsList-from_slice_split}
use Rattle.std.proofs.lemmas.List.{length-append}
use Rattle.std.proofs.lemmas.List.Splits.{join_with_byte-slice_split}
use Rattle.std.proofs.lemmas.Bool.{eq-eqb, cond-true, cond_both, eqb-true, ne_eqb, cond-false}
use Rattle.script.specs.Numerals.{numeral, numbers, with_number}
use Rattle.script.specs.Lines.{named_call, call_of_fields}
use Rattle.script.specs.Fields.{parted, fields}

-- the fields after one, of what follows it: nothing, or a tab and the rest of the line
abbrev pub after : List ℕ → List (List ℕ)
after [] = []
after (c ∷ cs) = fields cs

-- there is always a first part
headed_onto : (c : ℕ) (gs : List (List ℕ)) → (f : List ℕ) × (fs : List (List ℕ)) × (onto_first c gs ≡ f ∷ fs)
headed_onto c [] = (c ∷ [], [], refl)
headed_onto c (f ∷ fs) = (c ∷ f, fs, refl)

pub headed : (t : ℕ) (bs : List ℕ) → (f : List ℕ) × (fs : List (List ℕ)) × (parted t bs ≡ f ∷ fs)
headed t [] = ([], [], refl)
headed t (c ∷ cs) =
    elim (eqb c t) as (λ b. (f : List ℕ) × (fs : List (List ℕ)) × (cond b ([] ∷ parted t cs) (onto_first c (parted t cs)) ≡ f ∷ fs))
    [ true ↦ ([], parted t cs, refl) | false ↦ headed_onto c (parted t cs) ]

-- numbers behind others
abbrev behind : List ℕ → Option (List ℕ) → Option (List ℕ)
behind ns o = option_map (λ ms. ns ++ ms) o

behind_none : (o : Option (List ℕ)) → o ≡ behind [] o
behind_none None = refl
behind_none (Some ms) = refl

behind_one : (n : ℕ) (ns : List ℕ) (o : Option (List ℕ)) → with_number (Some n) (behind ns o) ≡ behind (n ∷ ns) o
behind_one n ns None = refl
behind_one n ns (Some ms) = refl

pub some_number : (x : Option ℕ) (o : Option (List ℕ)) (ns : List ℕ) → with_number x o ≡ Some ns → (m : ℕ) × (ms : List ℕ) × (x ≡ Some m) × (o ≡ Some ms) × (ns ≡ m ∷ ms)
some_number None o ns e = cc
some_number (Some m) None ns e = cc
some_number (Some m) (Some ms) ns e = (m, ms, refl, refl, cc)

numbers_append : (fs gs : List (List ℕ)) (ns : List ℕ) → numbers fs ≡ Some ns → numbers (fs ++ gs) ≡ behind ns (numbers gs)
numbers_append [] gs ns e = let h : ns ≡ [] = cc in behind_none (numbers gs) ∙ ap (λ (l : List ℕ). behind l (numbers gs)) (sym h)
numbers_append (f ∷ fs) gs ns e =
    let h = some_number (numeral f) (numbers fs) ns e in
    ap (λ (x : Option ℕ). with_number x (numbers (fs ++ gs))) h.2 ∙
    ap (with_number (Some h.0)) (numbers_append fs gs h.1 h.3) ∙
    behind_one h.0 h.1 (numbers gs) ∙
    ap (λ (l : List ℕ). behind l (numbers gs)) (sym h.4)

-- the numbers of one field more
pub one_more : (fs : List (List ℕ)) (f : List ℕ) (ns : List ℕ) (n : ℕ) → numbers fs ≡ Some ns → numeral f ≡ Some n → numbers (fs ++ f ∷ []) ≡ Some (ns ++ n ∷ [])
one_more fs f ns n e g = numbers_append fs (f ∷ []) ns e ∙ ap (λ (x : Option ℕ). behind ns (with_number x (Some []))) g

-- what holds after a call that is turned into an option by `ok`
pub on_some : {E A : Type 0} {P : Type 0} {x : A} (r : Result A E) (o : Option A) → o ≡ result_ok r → o ≡ Some x → OnOk r P → P
on_some (Ok y) o e is h = h
on_some (Err y) o e is h = cc

pub on_none : {E A : Type 0} {P : Type 0} (r : Result A E) (o : Option A) → o ≡ result_ok r → o ≡ None → OnErr r P → P
on_none (Ok y) o e is h = cc
on_none (Err y) o e is h = h

-- these are not numbers, or more than three
abbrev pub TooMany : Option (List ℕ) → Type 0
TooMany None = Unit {0}
TooMany (Some ns) = 3 < length ns

-- fields of which the first are these numbers, and the next is none or a fourth
too_many_with : (ns : List ℕ) (x : Option ℕ) (o : Option (List ℕ)) → (x ≡ None) ⊎ (3 ≤ length ns) → TooMany (behind ns (with_number x o))
too_many_with ns None o why = tt
too_many_with ns (Some n) None why = tt
too_many_with ns (Some n) (Some ms) why =
    ⊎_elim (λ e. cc) (λ h. omega (arith, length-append ns (n ∷ ms))) why

too_many : (all fs : List (List ℕ)) (k : ℕ) (f : List ℕ) (ns : List ℕ) → fs ≡ take k all → (k < length all) × (f ≡ get_or all k f) → numbers fs ≡ Some ns → (numeral f ≡ None) ⊎ (3 ≤ length ns) → TooMany (numbers all)
too_many all fs k f ns front at e why =
    let parts : all ≡ fs ++ f ∷ drop (suc k) all = sym (take-append-drop k all) ∙ ap (λ (l : List (List ℕ)). l ++ drop k all) (sym front) ∙ ap (λ (l : List (List ℕ)). fs ++ l) (drop-cons all k f at.0 ∙ ap (λ (g : List ℕ). g ∷ drop (suc k) all) (sym at.1)) in
    subst TooMany (sym (ap numbers parts ∙ numbers_append fs (f ∷ drop (suc k) all) ns e)) (too_many_with ns (numeral f) (numbers (drop (suc k) all)) why)

-- a road through fields that stops at such a field
pub stopped : {S A : Type 0} {steps : S → Option A → S → Type 0} {v : A → List ℕ} {s : S} {all : List (List ℕ)} → YieldsList steps v s all → (xs : List A) (t u : S) (x : A) (ns : List ℕ) → Yields steps s xs t → steps t (Some x) u → numbers (map v xs) ≡ Some ns → (numeral (v x) ≡ None) ⊎ (3 ≤ length ns) → TooMany (numbers all)
stopped {v = v} {all = all} road xs t u x ns so step e why =
    too_many all (map v xs) (length xs) (v x) ns (YieldsList-so_far road xs t so) (YieldsList-turn road xs t so (Some x) u x refl step) e why

split_first : (c : ℕ) (rest : List ℕ) (P : List (List ℕ) → Type 0) → (c ≡ 9 → P ([] ∷ fields rest)) → P (onto_first c (fields rest)) → P (fields (c ∷ rest))
split_first c rest P tab other = cond_both (eqb c 9) ([] ∷ fields rest) (onto_first c (fields rest)) P (λ e. tab (eqb-true c 9 e)) (λ e. other)

-- the first field is one byte
pub single : (c : ℕ) (rest : List ℕ) → (length rest ≡ 0) ⊎ (get_or rest 0 0 ≡ 9) → named_call c (numbers (after rest)) ≡ call_of_fields (fields (c ∷ rest))
single c [] h = split_first c [] (λ fs. named_call c (numbers []) ≡ call_of_fields fs) (λ e. ap (λ k. named_call k (numbers [])) e) refl
single c (d ∷ ds) h =
    let tab : d ≡ 9 = ⊎_elim (λ e. absurd (omega arith)) (λ e. e) h in
    let same : fields (d ∷ ds) ≡ [] ∷ fields ds = cond-true (eqb d 9) _ _ (eq-eqb d 9 tab) in
    split_first c (d ∷ ds) (λ fs. named_call c (numbers (fields ds)) ≡ call_of_fields fs) (λ e. ap (λ k. named_call k (numbers (fields ds))) e)
    (ap (λ fs. call_of_fields (onto_first c fs)) (sym same))

-- the first field is longer
pub long : (c : ℕ) (rest : List ℕ) → (length rest ≡ 0 → ⊥) → (get_or rest 0 0 ≡ 9 → ⊥) → None ≡ call_of_fields (fields (c ∷ rest))
long c [] some apart = absurd (some refl)
long c (d ∷ ds) some apart =
    let h = headed 9 ds in
    let same : fields (d ∷ ds) ≡ onto_first d (fields ds) = cond-false (eqb d 9) _ _ (ne_eqb d 9 apart) in
    split_first c (d ∷ ds) (λ fs. None ≡ call_of_fields fs) (λ e. refl)
    (ap (λ fs. call_of_fields (onto_first c (onto_first d fs))) (sym h.2) ∙ ap (λ fs. call_of_fields (onto_first c fs)) (sym same))

-- of a line that is split at tabs: the first field, and the road through the others
pub first_yielded : {F : Type 0} (g : Mut F (Bor ℕ × Unit {0}) Bool) {f : F} (s t : Split ℕ F) (x : Bor (List ℕ)) (line : List ℕ) → split_rest s ≡ line → split_done s ≡ false → split_callee s ≡ f → ((y : ℕ) (b : Bool) (q : F) → CalledAt g f y b q → (q ≡ f) × (b ≡ eqb y 9)) → split_steps g s (Some x) t
    → (fs : List (List ℕ)) × (fields line ≡ x.now ∷ fs) × YieldsList (split_steps g) (λ y. y.now) t fs
first_yielded g s t x line rest begun callee computes step =
    let h = headed 9 line in
    let road = subst (YieldsList (split_steps g) (λ y. y.now) s) h.2 (YieldsList-from_slice_split g (λ b. eqb b 9) line rest begun callee computes) in
    let on = road.runs.1 x t step in
    (h.1, h.2 ∙ ap (λ (f : List ℕ). f ∷ h.1) (sym on.0), record { runs = on.1 })

-- a first field of one byte, and any other
pub lettered : (f : List ℕ) (fs : List (List ℕ)) (k : ℕ) → length f ≡ 1 → k ≡ get_or f 0 0 → named_call k (numbers fs) ≡ call_of_fields (f ∷ fs)
lettered [] fs k one same = absurd (omega arith)
lettered (c ∷ []) fs k one same = ap (λ x. named_call x (numbers fs)) same
lettered (c ∷ d ∷ ds) fs k one same = absurd (omega arith)

pub not_lettered : (f : List ℕ) (fs : List (List ℕ)) → (length f ≡ 1 → ⊥) → None ≡ call_of_fields (f ∷ fs)
not_lettered [] fs other = refl
not_lettered (c ∷ []) fs other = absurd (other refl)
not_lettered (c ∷ d ∷ ds) fs other = refl

-- parts, each behind a byte t; and parts with a byte t between them
abbrev pub each_behind : ℕ → List (List ℕ) → List ℕ
each_behind t [] = []
each_behind t (f ∷ fs) = t ∷ (f ++ each_behind t fs)

abbrev pub rejoined : ℕ → List (List ℕ) → List ℕ
rejoined t [] = []
rejoined t (f ∷ fs) = f ++ each_behind t fs

-- the parts, rejoined, are the bytes again
rejoined_as : (t : ℕ) (gs : List (List ℕ)) → rejoined t gs ≡ join_with_byte t gs
rejoined_as t [] = refl
rejoined_as t (f ∷ []) = append-nil f
rejoined_as t (f ∷ g ∷ gs) = ap (λ (bs : List ℕ). f ++ (t ∷ bs)) (rejoined_as t (g ∷ gs))

pub rejoined_parted : (t : ℕ) (bs : List ℕ) → rejoined t (parted t bs) ≡ bs
rejoined_parted t bs = rejoined_as t (parted t bs) ∙ join_with_byte-slice_split t bs
