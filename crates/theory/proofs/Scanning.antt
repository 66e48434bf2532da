-- Greying, a scan and a root leave the graph that is stood for.
use Rattle.std.proofs.Common.{◌≡◌, ℕ, suc, List, [], ◌∷◌, Some, sym, ap, ◌∙◌, ⊎_elim}
use Rattle.std.proofs.lemmas.Bool.{cases_eq}
use Rattle.model.specs.Pages.{forward_of}
use Rattle.model.specs.State.{Heap}
use Rattle.model.specs.Units.{grey, scan}
use Rattle.model.specs.Graph.{Record}
use Rattle.theory.proofs.Lists.{drop_front}
use Rattle.theory.proofs.Memory.{HasBlock, Mem, form, has_block_bare}
use Rattle.theory.proofs.Records.{find}
use Rattle.theory.proofs.StandsFor.{StandsFor, bare_stands, refresh_stands}
use Rattle.theory.proofs.Greying.{Greyed, OrIn, greyed_form, memory}
use Rattle.theory.proofs.Colours.{Coloured, Is, ScanAt, coloured_greyed, coloured_scan, rescanned_block, rescanned_greyed, rescanned_heap, rescanned_wrote, scanned_coloured, scanned_form, scanned_next, scanned_same}

abbrev pub AllThere : (ℕ → Type 0) → (ℕ → ℕ) → Mem → List Record → Type 0
AllThere T own M ns = (x : ℕ) (d : Record) → T x → find ns x ≡ Some d → (n : ℕ) × HasBlock M n × (form M n ≡ n) × (own n ≡ x)

pub all_kept : (T : ℕ → Type 0) (own : ℕ → ℕ) (M N : Mem) (ns : List Record) → ((q : ℕ) → HasBlock M q → HasBlock N q)
    → ((q : ℕ) → form N q ≡ form M q) → AllThere T own M ns → AllThere T own N ns
all_kept T own M N ns f g a x d t e = let y = a x d t e in (y.0, f y.0 y.1, g y.0 ∙ y.2, y.3)

-- a heap at roots or marking: coloured, standing for the graph, and with a block for every wanted record
pub record WhileMarking (T : ℕ → Type 0) (own : ℕ → ℕ) (ns : List Record) (xs ys : List ℕ) (E Q : ℕ → Type 0) (h : Heap) : Type 0 where
  pub colours : Coloured T own E Q h
  pub mirror : StandsFor (memory h) (HasBlock (memory h)) own ns xs ys
  pub all : AllThere T own (memory h) ns

module _ {T : ℕ → Type 0} {own : ℕ → ℕ} {Q : ℕ → Type 0} {n : ℕ} {h : Heap} {f r : ℕ} {rs : List ℕ} (sc : ScanAt T own h n f (r ∷ rs))
    (c : Coloured T own (Is n) (OrIn Q (r ∷ rs)) h) where
  has_block_rescanned : (q : ℕ) → HasBlock (memory h) q → HasBlock (memory (rescanned_heap sc c)) q
  has_block_rescanned q o =
      let w = rescanned_wrote sc c in
      ⊎_elim
      (λ (e : q ≡ n). (rescanned_block sc c, ap (memory (rescanned_heap sc c)) e ∙ w.same))
      (λ (d : q ≡ n → ⊥). (o.0, w.other q d ∙ o.1))
      (cases_eq q n)

module _ {T : ℕ → Type 0} {own : ℕ → ℕ} {ns : List Record} {xs ys : List ℕ} where
  pub marks_greyed : {E Q : ℕ → Type 0} {h k : Heap} {n : ℕ} → T (own (form (memory h) n)) → Greyed h k n → WhileMarking T own ns xs ys E Q h
      → WhileMarking T own ns xs ys E Q k
  marks_greyed {E} {Q} {h} {k} {n} t g m = record {
    colours = coloured_greyed t g m.colours;
    mirror = bare_stands (memory h) (memory k) g.bared m.mirror;
    all = all_kept T own (memory h) (memory k) ns (has_block_bare (memory h) (memory k) g.bared) (greyed_form g) m.all;
  }

  module _ {Q : ℕ → Type 0} {n : ℕ} where
    module _ {h : Heap} {f r : ℕ} {rs : List ℕ} (sc : ScanAt T own h n f (r ∷ rs)) (c : Coloured T own (Is n) (OrIn Q (r ∷ rs)) h) where
      rescanned_stands : form (memory h) n ≡ n → StandsFor (memory h) (HasBlock (memory h)) own ns xs ys
          → StandsFor (memory (rescanned_heap sc c)) (HasBlock (memory (rescanned_heap sc c))) own ns xs ys
      unfolding rescanned_block
      rescanned_stands here s =
          let d = drop_front sc.block.refs rs f r sc.left in
          refresh_stands f r c.ok.sound sc.is (sym (ap forward_of sc.is) ∙ here) d.1
          (record { at = f; inside = d.0; is = d.1 }) (rescanned_wrote sc c) s

    pub marks_scan : (rs : List ℕ) (h : Heap) (f : ℕ) → ScanAt T own h n f rs → form (memory h) n ≡ n
        → WhileMarking T own ns xs ys (Is n) (OrIn Q rs) h → WhileMarking T own ns xs ys (λ m. ⊥) Q (scan rs h n f)
    marks_scan [] h f sc here m = record { colours = coloured_scan [] h f sc m.colours; mirror = m.mirror; all = m.all }
    marks_scan (r ∷ rs) h f sc here m =
        let c = m.colours in
        let hp = rescanned_heap sc c in
        let g = rescanned_greyed sc c in
        let k = grey hp r in
        rw (scanned_same sc c)
        (marks_scan rs k (suc f) (scanned_next sc c) (scanned_form sc c n ∙ here) (record {
          colours = scanned_coloured sc c;
          mirror = bare_stands (memory hp) (memory k) g.bared (rescanned_stands sc c here m.mirror);
          all = all_kept T own (memory h) (memory k) ns (λ q o. has_block_bare (memory hp) (memory k) g.bared q (has_block_rescanned sc c q o)) (scanned_form sc c) m.all;
        }))
