-- A pass over the events that carries the first so far along: what it has passed and what is to come make up the split.
use Rattle.std.proofs.Common.{◌≡◌, ℕ, ◌+◌, ◌<◌, true, false, cond, List, [], ◌∷◌, ◌++◌, length, get_or, take, drop, set, sym, ap, ◌∙◌, append_assoc, arith}
use Rattle.std.proofs.lemmas.List.{drop_more, take_more, take_more_set, drop-set-lt}
use Rattle.model.specs.Graph.{Event, before, split_first}

-- `first` is carried, the events below `i` are passed
abbrev pub Sifted : Event × List Event → Event → List Event → ℕ → Type 0
Sifted whole first es i =
    let r = split_first first (drop i es) in whole ≡ (r.0, take i es ++ r.1)

-- the split from a row whose next event is `x`
abbrev onward : List Event → Event × List Event → Event × List Event
onward done r = (r.0, done ++ r.1)

next_is : (first : Event) (es : List Event) (i : ℕ) (x : Event) → i < length es → x ≡ get_or es i x →
    onward (take i es) (split_first first (drop i es)) ≡ onward (take i es) (split_first first (x ∷ drop (i + 1) es))
next_is first es i x h e =
    ap (λ row. onward (take i es) (split_first first row)) (drop_more es i x h ∙ ap (λ y. y ∷ drop (i + 1) es) (sym e))

-- the next event stays where it is
pub stays : (whole : Event × List Event) (first : Event) (es : List Event) (i : ℕ) (x : Event) →
    i < length es → x ≡ get_or es i x → before x first ≡ false → Sifted whole first es i → Sifted whole first es (i + 1)
stays whole first es i x h e b s =
    s ∙ next_is first es i x h e
    ∙ ap (λ t. let r = split_first (cond t x first) (drop (i + 1) es) in (r.0, take i es ++ cond t first x ∷ r.1)) b
    ∙ ap (λ row. let r = split_first first (drop (i + 1) es) in (r.0, row)) (
    let r = split_first first (drop (i + 1) es) in
    let more : take (i + 1) es ≡ take i es ++ x ∷ [] = take_more es i x h ∙ ap (λ y. take i es ++ y ∷ []) (sym e) in
    sym (ap (λ row. row ++ r.1) more ∙ append_assoc (take i es) (x ∷ []) r.1))

-- the next event is carried on, and the one carried so far takes its place
pub passed : (whole : Event × List Event) (first : Event) (es : List Event) (i : ℕ) (x : Event) →
    i < length es → x ≡ get_or es i x → before x first ≡ true → Sifted whole first es i → Sifted whole x (set es i first) (i + 1)
passed whole first es i x h e b s =
    s ∙ next_is first es i x h e
    ∙ ap (λ t. let r = split_first (cond t x first) (drop (i + 1) es) in (r.0, take i es ++ cond t first x ∷ r.1)) b
    ∙ ap (λ row. let r = split_first x row in (r.0, take i es ++ first ∷ r.1)) (sym (drop-set-lt (i + 1) es i first (omega arith)))
    ∙ ap (λ row. let r = split_first x (drop (i + 1) (set es i first)) in (r.0, row)) (
    let r = split_first x (drop (i + 1) (set es i first)) in
    sym (ap (λ row. row ++ r.1) (take_more_set es i first h) ∙ append_assoc (take i es) (first ∷ []) r.1))
