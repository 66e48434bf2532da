-- The begin of a collection: each wanted record has a chain of white blocks from a place.
use Rattle.std.proofs.Common.{◌≡◌, ℕ, false, ◌⊎◌, List, [], Some, sym, refl, ap, ◌∙◌, subst, inl, inr, ⊎_elim, arith}
use Rattle.std.proofs.lemmas.Bool.{both_ways}
use Rattle.model.specs.Pages.{Block, forward_of}
use Rattle.model.specs.State.{Heap, roots}
use Rattle.model.specs.Graph.{Record}
use Rattle.theory.proofs.PageShapes.{PagesOk}
use Rattle.theory.proofs.Lists.{In, in_map_back, in_none, none_some, some_same}
use Rattle.theory.proofs.Memory.{Forwarding, HasBlock, Marked, Mem, White, form, form_twice}
use Rattle.theory.proofs.WhiteChains.{Chain, Pending, next, start}
use Rattle.theory.proofs.Records.{Reach, find, record_of, ref, root}
use Rattle.theory.proofs.StandsFor.{NilOr, StandsFor}
use Rattle.theory.proofs.WantedSet.{Closed}
use Rattle.theory.proofs.Greying.{Unscanned, memory}
use Rattle.theory.proofs.Colours.{Wanted}
use Rattle.theory.proofs.Scanning.{AllThere}
use Rattle.theory.proofs.Phases.{AtRoots}

-- `T` are the wanted records; those that are made already are reached
module _ {own : ℕ → ℕ} {ns : List Record} {xs ys : List ℕ} {M : Mem} (so : Forwarding M) (s : StandsFor M (HasBlock M) own ns xs ys)
    (clean : (m : ℕ) (x : Block) → M m ≡ Some x → x.marked ≡ false)
    {T : ℕ → Type 0} (sub : (x : ℕ) (d : Record) → T x → find ns x ≡ Some d → Reach ns ys x) where
  abbrev P : ℕ → Type 0
  P = Pending (Unscanned xs 0) M []

  pub record Chained (x : ℕ) : Type 0 where
    pub at : ℕ
    pub there : HasBlock M at
    pub here : form M at ≡ at
    pub owned : own at ≡ x
    pub chain : Chain M P at

  white : (n : ℕ) → HasBlock M n → form M n ≡ n → White M n
  white n o e = record { block = o.0; is = o.1; here = sym (ap forward_of o.1) ∙ e; unmarked = clean n o.0 o.1 }

  -- a number that names a block leads to its current block
  chained : (r y : ℕ) → NilOr (HasBlock M) r → own r ≡ y → (White M (form M r) → Chain M P (form M r)) → (y ≡ 0) ⊎ Chained y
  chained r y (inl e) o c = inl (sym o ∙ ap own e ∙ s.none)
  chained r y (inr l) o c =
      let x = s.there r l in
      let f : form M r ≡ x.0.forward = ap forward_of x.1 in
      let q : HasBlock M (form M r) = subst (HasBlock M) (sym f) x.2 in
      let t = form_twice so r in
      inr (record { at = form M r; there = q; here = t; owned = ap own f ∙ x.3 ∙ o; chain = c (white (form M r) q t) })

  from_ref : (x y : ℕ) (d : Record) → find ns x ≡ Some d → In d.refs y → Chained x → (y ≡ 0) ⊎ Chained y
  from_ref x y d e i c =
      let b = c.there.0 in
      let is = c.there.1 in
      let f : b.forward ≡ c.at = sym (ap forward_of is) ∙ c.here in
      let n = s.contents c.at b c.there is f in
      let q : d ≡ record_of own b = some_same e (ap (find ns) (sym c.owned) ∙ n) in
      let r = in_map_back own b.refs (subst (λ (z : Record). In z.refs y) q i) in
      chained r.0 y (s.good c.at b r.0 c.there is f r.1) r.2 (λ w. next c.at c.chain b is r.0 r.1 refl w)

  reach_chained : (x : ℕ) → Reach ns ys x → (x ≡ 0) ⊎ Chained x
  reach_chained x (root k l e) =
      let r = in_map_back own xs (subst (λ (zs : List ℕ). In zs x) (sym s.holds) (record { at = k; inside = l; is = e })) in
      chained r.0 x (s.roots r.0 r.1) r.2 (λ w. start r.0 (inl (record { at = r.1.at; from = omega arith; inside = r.1.inside; is = r.1.is })) refl w)
  reach_chained y (ref {x = x} r d e k l f) =
      ⊎_elim
      (λ (z : x ≡ 0). none_some d (sym (ap (find ns) z) ∙ e))
      (from_ref x y d e (record { at = k; inside = l; is = f }))
      (reach_chained x r)

  -- each wanted record that there is has a chain
  keep_chained : (x : ℕ) (d : Record) → T x → find ns x ≡ Some d → Chained x
  keep_chained x d t e = ⊎_elim (λ (z : x ≡ 0). none_some d (sym (ap (find ns) z) ∙ e)) (λ c. c) (reach_chained x (sub x d t e))

  pub begin_all : AllThere T own M ns
  begin_all x d t e = let c = keep_chained x d t e in (c.at, c.there, c.here, c.owned)

  pub begin_cover : (n : ℕ) → Wanted T own M n → Marked M n ⊎ Chain M P n
  begin_cover n w =
      let here : form M n ≡ n = ap forward_of w.is ∙ w.here in
      let e = s.contents n w.block (w.block, w.is) w.is w.here in
      let c = keep_chained (own n) (record_of own w.block) w.wanted e in
      inr (subst (Chain M P) (s.one c.at n c.there (w.block, w.is) c.here here c.owned) c.chain)

pub begin_at : {T : ℕ → Type 0} {own : ℕ → ℕ} {ns : List Record} {xs ys : List ℕ} (h : Heap) → PagesOk h.pages → Forwarding (memory h)
    → StandsFor (memory h) (HasBlock (memory h)) own ns xs ys
    → ((m : ℕ) (x : Block) → memory h m ≡ Some x → x.marked ≡ false)
    → Closed T ns ys → ((x : ℕ) (d : Record) → T x → find ns x ≡ Some d → Reach ns ys x)
    → AtRoots T ns ys own 0 xs (record { pages = h.pages; work = []; phase = roots 0; units = 0 })
begin_at {T} {own} {ns} {xs} {ys} h o so s clean closed sub = record {
  closed = closed;
  marks = record {
    colours = record {
      ok = record { pages = o; sound = so; works = λ n i. in_none i };
      cover = begin_cover so s clean sub;
      direct = λ m b r e u off ne i. absurd (both_ways b.marked (clean m b e) u);
      black = λ m k. absurd (both_ways k.block.marked (clean m k.block k.is) k.marked);
    };
    mirror = s;
    all = begin_all so s clean sub;
  };
  fresh = λ j l. absurd (omega arith);
}
