-- A place is overwritten, or the contents of a block, in every phase.
use Rattle.std.proofs.Common.{◌≡◌, ℕ, ◌<◌, ◌≤◌, true, ◌⊎◌, List, length, get_or, set, Some, None, Option, sym, refl, ap, ◌∙◌, subst, inl, inr, ⊎_elim}
use Rattle.std.proofs.lemmas.List.{get_or-set_other, get_or-set_same, set_past}
use Rattle.std.proofs.lemmas.Bool.{cases_eq, cases_lt}
use Rattle.model.specs.Maps.{has}
use Rattle.model.specs.Pages.{Block, Page, block_at, page_of, put_block}
use Rattle.model.specs.State.{Heap, Phase, idle, marking, moving, roots, sweeping, with_pages}
use Rattle.model.specs.Units.{grey}
use Rattle.model.specs.Making.{barrier_in}
use Rattle.model.specs.Graph.{Record}
use Rattle.theory.proofs.PageShapes.{frame_put}
use Rattle.theory.proofs.Lists.{In, in_map_back, in_set_back, some_same}
use Rattle.theory.proofs.Memory.{Forwarding, HasBlock, Mem, OneBlockEach, White, Wrote, form, one_each_back, wrote_back, wrote_form, wrote_forwarding}
use Rattle.theory.proofs.Pages.{put_ok, wrote_put}
use Rattle.theory.proofs.Records.{find, find_back, find_put_other, find_put_same, length_put, put_record, record_of}
use Rattle.theory.proofs.StandsFor.{NilOr, StandsFor, alike_stands, block_stands, place_nil_or, place_stands}
use Rattle.theory.proofs.WantedSet.{Closed, form_wanted, wanted_at}
use Rattle.theory.proofs.Greying.{Barrier, Greyed, Left, Unscanned, grey_done, greyed_form, left_set, memory}
use Rattle.theory.proofs.Colours.{coloured_forget, coloured_write}
use Rattle.theory.proofs.Scanning.{WhileMarking, marks_greyed}
use Rattle.theory.proofs.Sweeping.{Holds, Live}
use Rattle.theory.proofs.Moving.{Aims, MovePhase, Settled}
use Rattle.theory.proofs.Phases.{At}

-- the blocks that count in a phase
abbrev pub LiveIn : Phase → Mem → ℕ → Type 0
LiveIn idle M = HasBlock M
LiveIn (roots i) M = HasBlock M
LiveIn marking M = HasBlock M
LiveIn (sweeping g) M = Live g M
LiveIn (moving k source targets) M = HasBlock M

pub stands_at : (T : ℕ → Type 0) (ns : List Record) (ys : List ℕ) (own : ℕ → ℕ) (ph : Phase) (xs : List ℕ) (h : Heap) → At T ns ys own ph xs h
    → StandsFor (memory h) (LiveIn ph (memory h)) own ns xs ys
stands_at T ns ys own idle xs h a = a.stands.mirror
stands_at T ns ys own (roots i) xs h a = a.marks.mirror
stands_at T ns ys own marking xs h a = a.marks.mirror
stands_at T ns ys own (sweeping g) xs h a = a.mirror
stands_at T ns ys own (moving k source targets) xs h a = a.stands.mirror

pub closed_at : (T : ℕ → Type 0) (ns : List Record) (ys : List ℕ) (own : ℕ → ℕ) (ph : Phase) (xs : List ℕ) (h : Heap) → At T ns ys own ph xs h
    → Closed T ns ys
closed_at T ns ys own idle xs h a = a.closed
closed_at T ns ys own (roots i) xs h a = a.closed
closed_at T ns ys own marking xs h a = a.closed
closed_at T ns ys own (sweeping g) xs h a = a.closed
closed_at T ns ys own (moving k source targets) xs h a = a.closed

closed_place : {T : ℕ → Type 0} {ns : List Record} {ys : List ℕ} (p y : ℕ) → T y → Closed T ns ys → Closed T ns (set ys p y)
closed_place {T} {ns} {ys} p y t c = record {
  none = c.none;
  roots = λ z i. ⊎_elim (λ (e : y ≡ z). subst T e t) (λ j. c.roots z j) (in_set_back ys p y i);
  refs = c.refs;
  more = c.more;
}

module _ {T : ℕ → Type 0} {ns : List Record} {ys : List ℕ} {own : ℕ → ℕ} where
  settled_place : {M : Mem} {xs : List ℕ} (p v : ℕ) → NilOr (HasBlock M) v → Settled T ns xs ys own M
      → Settled T ns (set xs p v) (set ys p (own v)) own M
  settled_place {M} {xs} p v n s = record { sound = s.sound; mirror = place_stands p v n s.mirror; held = s.held }

  -- a number that the program loses is greyed
  module _ {E Q : ℕ → Type 0} {xs : List ℕ} {h : Heap} (m : WhileMarking T own ns xs ys E Q h) (c : Closed T ns ys) (n : ℕ)
      (nm : NilOr (HasBlock (memory h)) n) (t : T (own n)) where
    abbrev pub lost : Heap
    lost = grey h n

    pub lost_greyed : Greyed h lost n
    lost_greyed = grey_done h n m.colours.ok

    pub lost_marks : WhileMarking T own ns xs ys E Q lost
    lost_marks = marks_greyed
        (form_wanted m.mirror c m.colours.ok.sound.zero_free n nm t) lost_greyed m

    pub lost_form : (q : ℕ) → form (memory lost) q ≡ form (memory h) q
    lost_form = greyed_form lost_greyed

    pub lost_nil_or : (q : ℕ) → NilOr (HasBlock (memory h)) q → NilOr (HasBlock (memory lost)) q
    lost_nil_or q (inl e) = inl e
    lost_nil_or q (inr o) = let k = lost_greyed.keeps q o.0 o.1 in inr (k.0, k.1)

  -- a place is written, after what it had is greyed
  module _ (ph : Phase) {xs : List ℕ} {h : Heap} (p v : ℕ) (c : Closed T ns ys) (nv : NilOr (HasBlock (memory h)) v) (dv : form (memory h) v ≡ v)
      (m : WhileMarking T own ns xs ys (λ n. ⊥) (Left ph xs) h) where
    old : ℕ
    old = get_or xs p 0

    place_marks : WhileMarking T own ns (set xs p v) (set ys p (own v)) (λ n. ⊥) (Left ph (set xs p v)) (grey h (get_or xs p 0))
    place_marks =
        let nm = place_nil_or m.mirror p in
        let t = wanted_at m.mirror c p in
        let k = lost_marks m c (get_or xs p 0) nm t in
        let g = lost_greyed m c (get_or xs p 0) nm t in
        record {
          colours = coloured_forget (grey h (get_or xs p 0))
              (λ r x w. ⊎_elim
              (λ (e : get_or xs p 0 ≡ r). absurd (g.dark (subst (White (memory (grey h (get_or xs p 0)))) (greyed_form g r ∙ sym (ap (form (memory h)) e)) w)))
              (λ y. y)
              (left_set ph xs p v r x))
              k.colours;
          mirror = place_stands p v (lost_nil_or m c (get_or xs p 0) nm t v nv) k.mirror;
          all = k.all;
        }

    place_form : (q : ℕ) → form (memory (grey h (get_or xs p 0))) q ≡ form (memory h) q
    place_form = greyed_form (grey_done h (get_or xs p 0) m.colours.ok)

    place_fresh : (j : ℕ) → form (memory h) (get_or xs j 0) ≡ get_or xs j 0
        → form (memory (grey h (get_or xs p 0))) (get_or (set xs p v) j 0) ≡ get_or (set xs p v) j 0
    place_fresh j f =
        place_form (get_or (set xs p v) j 0) ∙
        ⊎_elim
        (λ (e : j ≡ p). ⊎_elim
        (λ (l : p < length xs). let u : get_or (set xs p v) j 0 ≡ v = ap (λ q. get_or (set xs p v) q 0) e ∙ get_or-set_same xs p v 0 l in ap (form (memory h)) u ∙ dv ∙ sym u)
        (λ (l : length xs ≤ p). let u : get_or (set xs p v) j 0 ≡ get_or xs j 0 = ap (λ (zs : List ℕ). get_or zs j 0) (set_past xs p v l) in ap (form (memory h)) u ∙ f ∙ sym u)
        (cases_lt p (length xs)))
        (λ (d : j ≡ p → ⊥). let u = get_or-set_other xs p j v 0 d in ap (form (memory h)) u ∙ f ∙ sym u)
        (cases_eq j p)

module _ (T : ℕ → Type 0) (ns : List Record) (ys : List ℕ) (own : ℕ → ℕ) where
  pub place_at : (ph : Phase) (xs : List ℕ) (h : Heap) (p v : ℕ) → NilOr (LiveIn ph (memory h)) v → form (memory h) v ≡ v → T (own v)
      → At T ns ys own ph xs h
      → At T ns (set ys p (own v)) own ph (set xs p v) (barrier_in h (get_or xs p 0) ph)
  place_at idle xs h p v n d t a = record { closed = closed_place p (own v) t a.closed; pages = a.pages; stands = settled_place p v n a.stands; clean = a.clean }
  place_at (roots i) xs h p v n d t a = record {
    closed = closed_place p (own v) t a.closed;
    marks = place_marks (roots i) p v a.closed n d a.marks;
    fresh = λ j l. place_fresh (roots i) p v a.closed n d a.marks j (a.fresh j l);
  }
  place_at marking xs h p v n d t a = record {
    closed = closed_place p (own v) t a.closed;
    marks = place_marks marking p v a.closed n d a.marks;
    fresh = λ r i. place_form marking p v a.closed n d a.marks r ∙ ⊎_elim (λ (e : v ≡ r). ap (form (memory h)) (sym e) ∙ d ∙ e) (λ j. a.fresh r j) (in_set_back xs p v i);
  }
  place_at (sweeping g) xs h p v n d t a = record {
    closed = closed_place p (own v) t a.closed;
    pages = a.pages;
    below = a.below;
    mirror = place_stands p v n a.mirror;
    held = a.held;
    swept = a.swept;
    marked = a.marked;
    single = a.single;
  }
  place_at (moving k source targets) xs h p v n d t a = record { closed = closed_place p (own v) t a.closed; pages = a.pages; stands = settled_place p v n a.stands; phased = a.phased }

-- the contents of a current block are written
module _ (T : ℕ → Type 0) (ns : List Record) (ys : List ℕ) (own : ℕ → ℕ) (xs : List ℕ) (h : Heap) (n : ℕ) (b c : Block) (is : memory h n ≡ Some b)
    (here : b.forward ≡ n) (fw : c.forward ≡ b.forward) (mk : c.marked ≡ b.marked) where
  abbrev pub written_pages : List Page
  written_pages = put_block h.pages n c

  abbrev pub written_records : List Record
  written_records = put_record ns (own n) (record_of own c)

  written_wrote : Wrote (memory h) (block_at written_pages) n c
  written_wrote = wrote_put h.pages n b c is

  written_form : (q : ℕ) → form (block_at written_pages) q ≡ form (memory h) q
  written_form = wrote_form is written_wrote fw

  written_was : (m : ℕ) (x : Block) → block_at written_pages m ≡ Some x
      → (y : Block) × (memory h m ≡ Some y) × (x.forward ≡ y.forward) × (x.marked ≡ y.marked)
  written_was m x e =
      ⊎_elim
      (λ p. (b, ap (memory h) p.0 ∙ is, ap (λ (z : Block). z.forward) p.1 ∙ fw, ap (λ (z : Block). z.marked) p.1 ∙ mk))
      (λ p. (x, p.1, refl, refl))
      (wrote_back is written_wrote fw m x e)

  written_is : (m : ℕ) (y : Block) → memory h m ≡ Some y
      → (x : Block) × (block_at written_pages m ≡ Some x) × (x.forward ≡ y.forward) × (x.marked ≡ y.marked)
  written_is m y e =
      ⊎_elim
      (λ (f : m ≡ n).
      let q : y ≡ b = some_same (sym (ap (memory h) f) ∙ e) is in
      (c, ap (block_at written_pages) f ∙ written_wrote.same, fw ∙ sym (ap (λ (z : Block). z.forward) q), mk ∙ sym (ap (λ (z : Block). z.marked) q)))
      (λ (d : m ≡ n → ⊥). (y, written_wrote.other m d ∙ e, refl, refl))
      (cases_eq m n)

  written_has_block : (m : ℕ) → HasBlock (memory h) m → HasBlock (block_at written_pages) m
  written_has_block m o = let x = written_is m o.0 o.1 in (x.0, x.1)

  written_has_block_back : (m : ℕ) → HasBlock (block_at written_pages) m → HasBlock (memory h) m
  written_has_block_back m o = let x = written_was m o.0 o.1 in (x.0, x.1)

  written_live : (g m : ℕ) → Live g (memory h) m → Live g (block_at written_pages) m
  written_live g m l = let x = written_is m l.block l.is in record { block = x.0; is = x.1; kept = ⊎_elim inl (λ t. inr (x.3 ∙ t)) l.kept }

  written_live_back : (g m : ℕ) → Live g (block_at written_pages) m → Live g (memory h) m
  written_live_back g m l = let x = written_was m l.block l.is in record { block = x.0; is = x.1; kept = ⊎_elim inl (λ t. inr (sym x.3 ∙ t)) l.kept }

  written_closed : (L : ℕ → Type 0) → L n → StandsFor (memory h) L own ns xs ys → ((r : ℕ) → In c.refs r → T (own r)) → Closed T ns ys
      → Closed T written_records ys
  written_closed L l s t k = record {
    none = k.none;
    roots = k.roots;
    refs = λ x d y u e i. ⊎_elim
        (λ (g : x ≡ own n).
        let q : d ≡ record_of own c = some_same (sym (ap (find written_records) g) ∙ e) (find_put_same ns (own n) (record_of own b) (record_of own c) (s.contents n b l is here)) in
        let r = in_map_back own c.refs (subst (λ (z : Record). In z.refs y) q i) in
        subst T r.2 (t r.0 r.1))
        (λ (g : x ≡ own n → ⊥). k.refs x d y u (sym (find_put_other ns (own n) x (record_of own c) g) ∙ e) i)
        (cases_eq x (own n));
    more = λ x l. k.more x (rw (length_put ns (own n) (record_of own c)) at l);
  }

  written_stands : (L K : ℕ → Type 0) → L n → ((r : ℕ) → In c.refs r → NilOr L r) → ((m : ℕ) → K m → L m) → ((m : ℕ) → L m → K m)
      → StandsFor (memory h) L own ns xs ys → StandsFor (block_at written_pages) K own written_records xs ys
  written_stands L K l names f g s = alike_stands f g (block_stands s l is here written_wrote fw names)

  written_holds : (L K : ℕ → Type 0) → L n → ((m : ℕ) → K m → L m) → ((m : ℕ) → L m → K m) → StandsFor (memory h) L own ns xs ys
      → Holds T own (memory h) L ns → Holds T own (block_at written_pages) K written_records
  written_holds L K l f g s d = record {
    only = λ m i. d.only m (f m i);
    all = λ x y t e.
        let z = find_back ns (own n) (record_of own b) (record_of own c) (s.contents n b l is here) x y e in
        let a = d.all x z.0 t z.1 in
        (a.0, g a.0 a.1, written_form a.0 ∙ a.2, a.3);
  }

  written_forwarding : Forwarding (memory h) → Forwarding (block_at written_pages)
  written_forwarding s = wrote_forwarding is written_wrote fw (λ t. fw ∙ here) s

  written_settled : ((r : ℕ) → In c.refs r → NilOr (HasBlock (memory h)) r) → Settled T ns xs ys own (memory h)
      → Settled T written_records xs ys own (block_at written_pages)
  written_settled names s = record {
    sound = written_forwarding s.sound;
    mirror = written_stands (HasBlock (memory h)) (HasBlock (block_at written_pages)) (b, is) names written_has_block_back written_has_block s.mirror;
    held = written_holds (HasBlock (memory h)) (HasBlock (block_at written_pages)) (b, is) written_has_block_back written_has_block s.mirror s.held;
  }

  written_aims : (targets : ℕ) → Aims h.pages targets → Aims written_pages targets
  written_aims targets a = record {
    aims = λ m x e. let y = written_was m x e in ⊎_elim (λ (f : y.0.forward ≡ m). inl (y.2 ∙ f)) (λ f. inr (subst (λ j. has targets (page_of j) ≡ true) (sym y.2) f)) (a.aims m y.0 y.1);
    clean = λ m x e. let y = written_was m x e in y.3 ∙ a.clean m y.0 y.1;
  }

  written_phased : (k : ℕ) (source : Option ℕ) (targets : ℕ) → MovePhase (moving k source targets) h.pages
      → MovePhase (moving k source targets) written_pages
  written_phased k None targets a = (a.0, written_aims targets a.1)
  written_phased k (Some g) targets a = (a.0, written_aims targets a.1, record { shut = (frame_put h.pages n c).closed g ∙ a.2.shut; cut = λ e. a.2.cut (sym ((frame_put h.pages n c).size g) ∙ e); apart = a.2.apart })

  written_marking : (Q : ℕ → Type 0) → ((r : ℕ) → In c.refs r → NilOr (HasBlock (memory h)) r)
      → ((r k : ℕ) → In b.refs r → form (memory h) r ≡ k → White (memory h) k → (s : ℕ) × In c.refs s × (form (memory h) s ≡ k))
      → ((r : ℕ) → In c.refs r → (In b.refs r) ⊎ (form (memory h) r ≡ r))
      → WhileMarking T own ns xs ys (λ m. ⊥) Q h → WhileMarking T own written_records xs ys (λ m. ⊥) Q (with_pages h written_pages)
  written_marking Q names old new m = record {
    colours = coloured_write n c is fw mk old (λ r ne i. new r i) m.colours;
    mirror = written_stands (HasBlock (memory h)) (HasBlock (block_at written_pages)) (b, is) names written_has_block_back written_has_block m.mirror;
    all = λ x y t e.
        let z = find_back ns (own n) (record_of own b) (record_of own c) (m.mirror.contents n b (b, is) is here) x y e in
        let a = m.all x z.0 t z.1 in
        (a.0, written_has_block a.0 a.1, written_form a.0 ∙ a.2, a.3);
  }

  pub write_at : (ph : Phase) → LiveIn ph (memory h) n → ((r : ℕ) → In c.refs r → NilOr (LiveIn ph (memory h)) r)
      → ((r : ℕ) → In c.refs r → T (own r))
      → ((r k : ℕ) → In b.refs r → form (memory h) r ≡ k → White (memory h) k → Barrier ph → (s : ℕ) × In c.refs s × (form (memory h) s ≡ k))
      → ((r : ℕ) → In c.refs r → (In b.refs r) ⊎ (form (memory h) r ≡ r))
      → At T ns ys own ph xs h → At T written_records ys own ph xs (with_pages h written_pages)
  write_at idle l names t old new a = record {
    closed = written_closed (HasBlock (memory h)) l a.stands.mirror t a.closed;
    pages = put_ok n c a.pages;
    stands = written_settled names a.stands;
    clean = λ m x e. let y = written_was m x e in y.3 ∙ a.clean m y.0 y.1;
  }
  write_at (roots i) l names t old new a = record {
    closed = written_closed (HasBlock (memory h)) l a.marks.mirror t a.closed;
    marks = written_marking (Unscanned xs i) names (λ r k j e w. old r k j e w tt) new a.marks;
    fresh = λ j k. written_form (get_or xs j 0) ∙ a.fresh j k;
  }
  write_at marking l names t old new a = record {
    closed = written_closed (HasBlock (memory h)) l a.marks.mirror t a.closed;
    marks = written_marking (λ r. ⊥) names (λ r k j e w. old r k j e w tt) new a.marks;
    fresh = λ r j. written_form r ∙ a.fresh r j;
  }
  write_at (sweeping g) l names t old new a = record {
    closed = written_closed (Live g (memory h)) l a.mirror t a.closed;
    pages = put_ok n c a.pages;
    below = a.below;
    mirror = written_stands (Live g (memory h)) (Live g (block_at written_pages)) l names (written_live_back g) (written_live g) a.mirror;
    held = written_holds (Live g (memory h)) (Live g (block_at written_pages)) l (written_live_back g) (written_live g) a.mirror a.held;
    swept = λ m x e q. let y = written_was m x e in let z = a.swept m y.0 y.1 q in (y.2 ∙ z.0, y.3 ∙ z.1);
    marked = λ m x e u. let y = written_was m x e in y.2 ∙ a.marked m y.0 y.1 (sym y.3 ∙ u);
    single = subst (OneBlockEach own (block_at written_pages)) (sym (length_put ns (own n) (record_of own c)))
        (one_each_back (λ m o. (written_has_block_back m o, written_form m)) a.single);
  }
  write_at (moving k source targets) l names t old new a = record {
    closed = written_closed (HasBlock (memory h)) l a.stands.mirror t a.closed;
    pages = put_ok n c a.pages;
    stands = written_settled names a.stands;
    phased = written_phased k source targets a.phased;
  }
