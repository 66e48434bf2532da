-- The end of marking, and sweeping: exactly the wanted records are held, and the graph is still stood for.
use Rattle.std.proofs.Common.{◌≡◌, ℕ, suc, ◌<◌, Bool, true, false, cond, ◌⊎◌, List, [], map, set, Some, None, Option, sym, refl, ap, ◌∙◌, subst, inl, inr, ⊎_elim, arith}
use Rattle.std.proofs.lemmas.Bool.{cases_eq}
use Rattle.model.specs.Pages.{Block, Page, block_at, forward_of, page_at, page_of}
use Rattle.model.specs.State.{Heap}
use Rattle.model.specs.Units.{survivor, swept}
use Rattle.model.specs.Graph.{Record}
use Rattle.theory.proofs.PageShapes.{PagesOk}
use Rattle.theory.proofs.Numbers.{named_from}
use Rattle.theory.proofs.Lists.{In, in_none, none_some, some_same}
use Rattle.theory.proofs.Memory.{HasBlock, Marked, Mem, form}
use Rattle.theory.proofs.Pages.{sweep_other, sweep_same}
use Rattle.theory.proofs.Records.{find}
use Rattle.theory.proofs.StandsFor.{NilOr, Recast, StandsFor, recast_stands}
use Rattle.theory.proofs.WantedSet.{Closed, place_wanted, ref_wanted}
use Rattle.theory.proofs.Greying.{mark_end, memory}
use Rattle.theory.proofs.Colours.{Coloured, Wanted}

-- every record that is wanted has a block that counts, and none else has
pub record Holds (T : ℕ → Type 0) (own : ℕ → ℕ) (M : Mem) (L : ℕ → Type 0) (ns : List Record) : Type 0 where
  pub only : (n : ℕ) → L n → T (own n)
  pub all : (x : ℕ) (d : Record) → T x → find ns x ≡ Some d → (n : ℕ) × L n × (form M n ≡ n) × (own n ≡ x)

module _ {T : ℕ → Type 0} {own : ℕ → ℕ} {h : Heap} {ns : List Record} {xs ys : List ℕ} (s : StandsFor (memory h) (HasBlock (memory h)) own ns xs ys)
    (k : Closed T ns ys)
    (c : Coloured T own (λ m. ⊥) (λ r. ⊥) h) (done : h.work ≡ []) (fresh : (r : ℕ) → In xs r → form (memory h) r ≡ r) where
  all_marked : (n : ℕ) → Wanted T own (memory h) n → Marked (memory h) n
  all_marked = mark_end (Wanted T own (memory h)) h done c.cover

  direct_marked : (r : ℕ) → NilOr (HasBlock (memory h)) r → T (own r) → form (memory h) r ≡ r → NilOr (Marked (memory h)) r
  direct_marked r (inl e) t f = inl e
  direct_marked r (inr o) t f = inr (all_marked r (record { block = o.0; is = o.1; here = sym (ap forward_of o.1) ∙ f; wanted = t }))

  pub end_stands : StandsFor (memory h) (Marked (memory h)) own ns xs ys
  end_stands = recast_stands go (λ r i. direct_marked r (s.roots r i) (place_wanted s k r i) (fresh r i)) refl s
    where
      go : (n : ℕ) → Marked (memory h) n
          → HasBlock (memory h) n × ((b : Block) × (memory h n ≡ Some b) × Recast (memory h) (HasBlock (memory h)) (memory h) (Marked (memory h)) own n b)
      go n m =
          let b = m.block in
          let f = c.ok.sound.marks n b m.is m.marked in (
            (b, m.is),
            (
              b,
              m.is,
              record {
                was = b;
                is = m.is;
                forward = refl;
                stays = subst (Marked (memory h)) (sym f) m;
                words = refl;
                refs = λ e. refl;
                names = λ e r i. direct_marked r (s.good n b r (b, m.is) m.is f i)
                    (ref_wanted s k n b r (b, m.is) m.is f (c.black n m) i)
                    (c.direct n b r m.is m.marked (λ j. in_none (subst (λ l. In l n) done j)) (λ z. z) i);
              },
            ),
          )

  pub end_holds : ((x : ℕ) (d : Record) → T x → find ns x ≡ Some d → (n : ℕ) × HasBlock (memory h) n × (form (memory h) n ≡ n) × (own n ≡ x))
      → Holds T own (memory h) (Marked (memory h)) ns
  end_holds a = record {
    only = c.black;
    all = λ x d t e.
        let y = a x d t e in
        (y.0, all_marked y.0 (record { block = y.1.0; is = y.1.1; here = sym (ap forward_of y.1.1) ∙ y.2; wanted = subst T (sym y.3) t }), y.2, y.3);
  }

-- sweeping: what counts is what is marked, and all in the pages below `g`
pub record Live (g : ℕ) (M : Mem) (n : ℕ) : Type 0 where
  pub block : Block
  pub is : M n ≡ Some block
  pub kept : (page_of n < g) ⊎ (block.marked ≡ true)

abbrev pub cleared : Block → Block
cleared b = record { forward = b.forward; marked = false; refs = b.refs; words = b.words }

pub survivor_some : (x : Option Block) (c : Block) → survivor x ≡ Some c → (b : Block) × (x ≡ Some b) × (b.marked ≡ true) × (c ≡ cleared b)
survivor_some None c e = none_some c e
survivor_some (Some b) c e = go b.marked refl e
  where
    go : (t : Bool) → b.marked ≡ t → cond t (Some (cleared b)) None ≡ Some c → (a : Block) × (Some b ≡ Some a) × (a.marked ≡ true) × (c ≡ cleared a)
    go true u e = (b, refl, u, some_same e refl)
    go false u e = none_some c e

survivor_marked : (b : Block) → b.marked ≡ true → survivor (Some b) ≡ Some (cleared b)
survivor_marked b e = ap (λ (t : Bool). cond t (Some (cleared b)) None) e

module _ {ps : List Page} (g : ℕ) (o : PagesOk ps) (l : g < 64) where
  abbrev pub after : List Page
  after = set ps g (swept (page_at ps g))

  sweep_to : (n : ℕ) → Live g (block_at ps) n → (c : Block) × (block_at after n ≡ Some c) × ((page_of n < suc g) ⊎ (c.marked ≡ true))
  sweep_to n x =
      let h = named_from ps n x.block x.is in
      ⊎_elim
      (λ (e : page_of n ≡ g).
      let m : x.block.marked ≡ true = ⊎_elim (λ (p : page_of n < g). absurd (omega arith)) (λ u. u) x.kept in
      (cleared x.block, sweep_same ps g n o h l e ∙ ap survivor x.is ∙ survivor_marked x.block m, inl (omega arith)))
      (λ (d : page_of n ≡ g → ⊥).
      (x.block, sweep_other ps g (swept (page_at ps g)) n h d ∙ x.is, ⊎_elim (λ (p : page_of n < g). inl (omega arith)) inr x.kept))
      (cases_eq (page_of n) g)

  live_more : (n : ℕ) → Live g (block_at ps) n → Live (suc g) (block_at after) n
  live_more n x = let y = sweep_to n x in record { block = y.0; is = y.1; kept = y.2 }

  nil_or_more : (r : ℕ) → NilOr (Live g (block_at ps)) r → NilOr (Live (suc g) (block_at after)) r
  nil_or_more r (inl e) = inl e
  nil_or_more r (inr x) = inr (live_more r x)

  -- a block after the sweep was there before, and is the same but for its mark
  sweep_from : (n : ℕ) → Live (suc g) (block_at after) n
      → (b : Block) × (block_at ps n ≡ Some b) × ((page_of n < g) ⊎ (b.marked ≡ true)) × ((c : Block) → block_at after n ≡ Some c → cleared c ≡ cleared b)
  sweep_from n x =
      let h = named_from after n x.block x.is in
      ⊎_elim
      (λ (e : page_of n ≡ g).
      let y = survivor_some (block_at ps n) x.block (sym (sweep_same ps g n o h l e) ∙ x.is) in
      (y.0, y.1, inr y.2, λ c f. ap cleared (some_same f x.is ∙ y.3)))
      (λ (d : page_of n ≡ g → ⊥).
      let f : block_at ps n ≡ Some x.block = sym (sweep_other ps g (swept (page_at ps g)) n h d) ∙ x.is in
      (x.block, f, ⊎_elim (λ (p : page_of n < suc g). inl (omega arith)) inr x.kept, λ c q. ap cleared (some_same q x.is)))
      (cases_eq (page_of n) g)

  module _ {own : ℕ → ℕ} {ns : List Record} {xs ys : List ℕ} (s : StandsFor (block_at ps) (Live g (block_at ps)) own ns xs ys) where
    pub swept_stands : StandsFor (block_at after) (Live (suc g) (block_at after)) own ns xs ys
    swept_stands = recast_stands go (λ r i. nil_or_more r (s.roots r i)) refl s
      where
        go : (n : ℕ) → Live (suc g) (block_at after) n
            → Live g (block_at ps) n × ((c : Block) × (block_at after n ≡ Some c) × Recast (block_at ps) (Live g (block_at ps)) (block_at after) (Live (suc g) (block_at after)) own n c)
        go n x =
            let y = sweep_from n x in
            let was : Live g (block_at ps) n = record { block = y.0; is = y.1; kept = y.2 } in
            let same = y.3 x.block x.is in
            let f : x.block.forward ≡ y.0.forward = ap (λ (b : Block). b.forward) same in
            let u = s.there n was in
            let v : u.0 ≡ y.0 = some_same u.1 y.1 in (
              was,
              (
                x.block,
                x.is,
                record {
                  was = y.0;
                  is = y.1;
                  forward = f;
                  stays = live_more _ (subst (Live g (block_at ps)) (ap (λ (b : Block). b.forward) v ∙ sym f) u.2);
                  words = ap (λ (b : Block). b.words) same;
                  refs = λ e. ap (λ (b : Block). map own b.refs) same;
                  names = λ e r i. nil_or_more r (s.good n y.0 r was y.1 e (subst (λ (b : Block). In b.refs r) same i));
                },
              ),
            )

    pub swept_holds : {T : ℕ → Type 0} → Holds T own (block_at ps) (Live g (block_at ps)) ns
        → Holds T own (block_at after) (Live (suc g) (block_at after)) ns
    swept_holds h = record {
      only = λ n x. let y = sweep_from n x in h.only n (record { block = y.0; is = y.1; kept = y.2 });
      all = λ x d t e.
          let y = h.all x d t e in
          let z = live_more y.0 y.1 in
          let q = sweep_from y.0 z in
          (y.0, z, ap forward_of z.is ∙ ap (λ (b : Block). b.forward) (q.3 z.block z.is) ∙ sym (ap forward_of q.1) ∙ y.2, y.3);
    }
