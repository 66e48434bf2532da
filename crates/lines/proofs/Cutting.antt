-- Feeding byte by byte, chunk by chunk and at once.
use Rattle.std.proofs.Common.{◌≡◌, ℕ, zero, suc, true, false, cond, eqb, List, [], ◌∷◌, ◌++◌, map, take, sym, refl, ap, ◌∙◌, append_assoc, append-nil}
use Rattle.std.specs.List.{onto_first}
use Rattle.script.specs.Fields.{parted}
use Rattle.script.proofs.Splitting.{headed}
use Rattle.lines.specs.Feeding.{fed, kept}
use Rattle.lines.specs.Lines.{all_lines, but_last, if_some, last_part, lines_of, rest_of, without_empty_end}

pub fed_append : (h a b : List ℕ) → fed h (a ++ b) ≡ fed h a ++ fed (kept h a) b
fed_append h [] b = refl
fed_append h (c ∷ cs) b =
    elim (eqb c 10) as (λ t. cond t (h ∷ fed [] (cs ++ b)) (fed (take 81 (h ++ c ∷ [])) (cs ++ b)) ≡ cond t (h ∷ fed [] cs) (fed (take 81 (h ++ c ∷ [])) cs) ++ fed (cond t (kept [] cs) (kept (take 81 (h ++ c ∷ [])) cs)) b)
    [ true ↦ ap (λ (l : List (List ℕ)). h ∷ l) (fed_append [] cs b) | false ↦ fed_append (take 81 (h ++ c ∷ [])) cs b ]

pub kept_append : (h a b : List ℕ) → kept h (a ++ b) ≡ kept (kept h a) b
kept_append h [] b = refl
kept_append h (c ∷ cs) b =
    elim (eqb c 10) as (λ t. cond t (kept [] (cs ++ b)) (kept (take 81 (h ++ c ∷ [])) (cs ++ b)) ≡ kept (cond t (kept [] cs) (kept (take 81 (h ++ c ∷ [])) cs)) b)
    [ true ↦ kept_append [] cs b | false ↦ kept_append (take 81 (h ++ c ∷ [])) cs b ]

-- h before the first of the parts
abbrev before : List ℕ → List (List ℕ) → List (List ℕ)
before h [] = h ∷ []
before h (f ∷ fs) = (h ++ f) ∷ fs

before_onto_first : (h : List ℕ) (b : ℕ) (gs : List (List ℕ)) → before (h ++ b ∷ []) gs ≡ before h (onto_first b gs)
before_onto_first h b [] = refl
before_onto_first h b (f ∷ fs) = ap (λ (l : List ℕ). l ∷ fs) (append_assoc h (b ∷ []) f)

before_none : (bs : List ℕ) → before [] (parted 10 bs) ≡ parted 10 bs
before_none bs = let h = headed 10 bs in ap (before []) h.2 ∙ sym h.2

but_last_more : (f bs : List ℕ) → but_last (f ∷ parted 10 bs) ≡ f ∷ but_last (parted 10 bs)
but_last_more f bs = let h = headed 10 bs in ap (λ (gs : List (List ℕ)). but_last (f ∷ gs)) h.2 ∙ ap (λ (gs : List (List ℕ)). f ∷ but_last gs) (sym h.2)

last_part_more : (f bs : List ℕ) → last_part (f ∷ parted 10 bs) ≡ last_part (parted 10 bs)
last_part_more f bs = let h = headed 10 bs in ap (λ (gs : List (List ℕ)). last_part (f ∷ gs)) h.2 ∙ ap last_part (sym h.2)

take_twice : (n : ℕ) (h x : List ℕ) → take n (take n h ++ x) ≡ take n (h ++ x)
take_twice zero h x = refl
take_twice (suc n) [] x = refl
take_twice (suc n) (y ∷ h) x = ap (λ (l : List ℕ). y ∷ l) (take_twice n h x)

fed_lines : (h bs : List ℕ) → fed (take 81 h) bs ≡ map (take 81) (but_last (before h (parted 10 bs)))
fed_lines h [] = refl
fed_lines h (b ∷ bs) =
    elim (eqb b 10) as (λ t. cond t (take 81 h ∷ fed [] bs) (fed (take 81 (take 81 h ++ b ∷ [])) bs) ≡ map (take 81) (but_last (before h (cond t ([] ∷ parted 10 bs) (onto_first b (parted 10 bs)))))) [
      | true ↦
          ap (λ (l : List ℕ). take 81 l ∷ fed [] bs) (sym (append-nil h)) ∙
          ap (λ (ls : List (List ℕ)). take 81 (h ++ []) ∷ ls) (fed_lines [] bs ∙ ap (λ (gs : List (List ℕ)). map (take 81) (but_last gs)) (before_none bs)) ∙
          ap (map (take 81)) (sym (but_last_more (h ++ []) bs))
      | false ↦
          ap (λ (l : List ℕ). fed l bs) (take_twice 81 h (b ∷ [])) ∙ fed_lines (h ++ b ∷ []) bs ∙
          ap (λ (gs : List (List ℕ)). map (take 81) (but_last gs)) (before_onto_first h b (parted 10 bs))
    ]

kept_rest : (h bs : List ℕ) → kept (take 81 h) bs ≡ take 81 (last_part (before h (parted 10 bs)))
kept_rest h [] = ap (take 81) (sym (append-nil h))
kept_rest h (b ∷ bs) =
    elim (eqb b 10) as (λ t. cond t (kept [] bs) (kept (take 81 (take 81 h ++ b ∷ [])) bs) ≡ take 81 (last_part (before h (cond t ([] ∷ parted 10 bs) (onto_first b (parted 10 bs)))))) [
      | true ↦ kept_rest [] bs ∙ ap (λ (gs : List (List ℕ)). take 81 (last_part gs)) (before_none bs) ∙ ap (take 81) (sym (last_part_more (h ++ []) bs))
      | false ↦
          ap (λ (l : List ℕ). kept l bs) (take_twice 81 h (b ∷ [])) ∙ kept_rest (h ++ b ∷ []) bs ∙
          ap (λ (gs : List (List ℕ)). take 81 (last_part gs)) (before_onto_first h b (parted 10 bs))
    ]

-- from the start, these are the lines of the input
pub whole_lines : (bs : List ℕ) → (fed [] bs ≡ lines_of bs) × (kept [] bs ≡ rest_of bs)
whole_lines bs = (fed_lines [] bs ∙ ap (λ (gs : List (List ℕ)). map (take 81) (but_last gs)) (before_none bs), kept_rest [] bs ∙ ap (λ (gs : List (List ℕ)). take 81 (last_part gs)) (before_none bs))

-- what was fed before has left its rest
pub goes_on : (bs h chunk : List ℕ) → h ≡ rest_of bs → (lines_of (bs ++ chunk) ≡ lines_of bs ++ fed h chunk) × (kept h chunk ≡ rest_of (bs ++ chunk))
goes_on bs h chunk e =
    let same : kept [] bs ≡ h = (whole_lines bs).1 ∙ sym e in (
      sym (whole_lines (bs ++ chunk)).0 ∙ fed_append [] bs chunk ∙ ap (λ (l : List (List ℕ)). l ++ fed (kept [] bs) chunk) (whole_lines bs).0 ∙ ap (λ (l : List ℕ). lines_of bs ++ fed l chunk) same,
      ap (λ (l : List ℕ). kept l chunk) (sym same) ∙ sym (kept_append [] bs chunk) ∙ (whole_lines (bs ++ chunk)).1,
    )

-- the last line of a whole input
cut_some : (f : List ℕ) → map (take 81) (if_some f) ≡ if_some (take 81 f)
cut_some [] = refl
cut_some (b ∷ bs) = refl

ends_with : (gs : List (List ℕ)) → map (take 81) (without_empty_end gs) ≡ map (take 81) (but_last gs) ++ if_some (take 81 (last_part gs))
ends_with [] = refl
ends_with (f ∷ []) = cut_some f
ends_with (f ∷ g ∷ gs) = ap (λ (ls : List (List ℕ)). take 81 f ∷ ls) (ends_with (g ∷ gs))

pub ends : (bs h : List ℕ) → h ≡ rest_of bs → all_lines bs ≡ lines_of bs ++ if_some h
ends bs h e = ends_with (parted 10 bs) ∙ ap (λ (l : List ℕ). lines_of bs ++ if_some l) (sym e)
