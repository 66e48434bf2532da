-- The invariant of each phase, and that every unit of a collection leads from one to the next.
use Rattle.std.proofs.Common.{◌≡◌, ℕ, zero, suc, ◌+◌, ◌-◌, ◌<◌, ◌≤◌, Bool, true, false, cond, ltb, leb, List, [], ◌∷◌, length, get_or, set, Some, None, Option, sym, refl, ap, ◌∙◌, subst, inl, inr, ⊎_elim, arith}
use Rattle.std.proofs.lemmas.List.{get_or_append_left, get_or-append_right, get_or_past, get_or-set_other, get_or-set_same, length-append, length-set, set-append_left, set-append_right}
use Rattle.std.proofs.lemmas.Bool.{cases_eq, cases_lt, ltb-false, ltb-true}
use Rattle.model.specs.Pages.{Block, Page, block_at, count_pages, forward_of, is_uncut, page_at, page_of, refs_of}
use Rattle.model.specs.State.{Heap, Phase, State, idle, marking, moving, roots, running, sweeping, with_agenda, with_heap, with_holder, with_phase, with_work}
use Rattle.model.specs.Units.{by_phase, grey, marking_unit, moving_unit, root_unit, steps, sweeping_unit, swept, unit}
use Rattle.model.specs.Graph.{Record}
use Rattle.model.specs.Runs.{owner_steps, owner_unit}
use Rattle.theory.proofs.PageShapes.{PagesOk, set_pages_ok, swept_ok}
use Rattle.theory.proofs.Numbers.{named_from, room_from}
use Rattle.std.proofs.Math.Seq.{map-set_same}
use Rattle.theory.proofs.Lists.{In, in_set_back, some_same}
use Rattle.theory.proofs.Memory.{HasBlock, Marked, Mem, OneBlockEach, White, form, form_twice, one_each_back}
use Rattle.theory.proofs.Pages.{sweep_other, sweep_same}
use Rattle.theory.proofs.StandsFor.{NilOr, StandsFor, alike_stands, nil_or_form, owner_form, place_nil_or, stands_one_each}
use Rattle.theory.proofs.WantedSet.{Closed, form_wanted, ref_wanted, wanted_at}
use Rattle.theory.proofs.Greying.{Greyed, Unscanned, grey_done, greyed_form, memory, places, scan_phase}
use Rattle.theory.proofs.Colours.{Coloured, coloured_forget, pop_coloured, pop_scan, scan_form}
use Rattle.theory.proofs.Scanning.{WhileMarking, marks_greyed, marks_scan}
use Rattle.theory.proofs.Sweeping.{Holds, Live, end_holds, end_stands, survivor_some, swept_holds, swept_stands}
use Rattle.theory.proofs.Moving.{MovePhase, Moving, Settled, move_keeps}

abbrev pub with_progress : Heap → Phase → ℕ → Heap
with_progress h p u = record { pages = h.pages; work = h.work; phase = p; units = u }

-- `T` are the wanted records, `ns` the records of the graph, `ys` those in its places, `own` the record of each block; `xs` are the
-- numbers in the places of the store
module _ (T : ℕ → Type 0) (ns : List Record) (ys : List ℕ) (own : ℕ → ℕ) where
  -- the places before `i` are scanned
  pub record AtRoots (i : ℕ) (xs : List ℕ) (h : Heap) : Type 0 where
    pub closed : Closed T ns ys
    pub marks : WhileMarking T own ns xs ys (λ m. ⊥) (Unscanned xs i) h
    pub fresh : (j : ℕ) → j < i → form (memory h) (get_or xs j 0) ≡ get_or xs j 0

  -- every place is scanned
  pub record AtMarking (xs : List ℕ) (h : Heap) : Type 0 where
    pub closed : Closed T ns ys
    pub marks : WhileMarking T own ns xs ys (λ m. ⊥) (λ r. ⊥) h
    pub fresh : (r : ℕ) → In xs r → form (memory h) r ≡ r

  -- the pages before `g` are swept
  pub record AtSweeping (g : ℕ) (xs : List ℕ) (h : Heap) : Type 0 where
    pub closed : Closed T ns ys
    pub pages : PagesOk h.pages
    pub below : g < 64
    pub mirror : StandsFor (memory h) (Live g (memory h)) own ns xs ys
    pub held : Holds T own (memory h) (Live g (memory h)) ns
    pub swept : (m : ℕ) (x : Block) → memory h m ≡ Some x → page_of m < g → (x.forward ≡ m) × (x.marked ≡ false)
    pub marked : (m : ℕ) (x : Block) → memory h m ≡ Some x → x.marked ≡ true → x.forward ≡ m
    pub single : OneBlockEach own (memory h) (length ns)

  -- one place is scanned
  module _ {i : ℕ} {xs : List ℕ} {h : Heap} (a : AtRoots i xs h) where
    root_form : ℕ
    root_form = form (memory h) (get_or xs i 0)

    root_names : NilOr (HasBlock (memory h)) (get_or xs i 0)
    root_names = place_nil_or a.marks.mirror i

    root_wanted : T (own (get_or xs i 0))
    root_wanted = wanted_at a.marks.mirror a.closed i

    root_twice : form (memory h) root_form ≡ root_form
    unfolding root_form
    root_twice = form_twice a.marks.colours.ok.sound (get_or xs i 0)

    root_greyed : Greyed h (grey h root_form) root_form
    root_greyed = grey_done h root_form a.marks.colours.ok

    root_marks : WhileMarking T own ns xs ys (λ m. ⊥) (Unscanned xs i) (grey h root_form)
    unfolding root_form
    root_marks = marks_greyed
        (subst (λ j. T (own j)) (sym root_twice)
        (form_wanted a.marks.mirror a.closed a.marks.colours.ok.sound.zero_free (get_or xs i 0) root_names root_wanted))
        root_greyed a.marks

    abbrev root_places : List ℕ
    root_places = set xs i (form (memory h) (get_or xs i 0))

    root_forms : (q : ℕ) → form (memory (grey h root_form)) q ≡ form (memory h) q
    root_forms = greyed_form root_greyed

    root_stands : StandsFor (memory (grey h root_form)) (HasBlock (memory (grey h root_form))) own ns root_places ys
    root_stands =
        let M = memory (grey h root_form) in
        let s = root_marks.mirror in
        let nm = nil_or_form a.marks.colours.ok.sound.zero_free a.marks.mirror (get_or xs i 0) root_names in
        record {
          none = s.none;
          there = s.there;
          contents = s.contents;
          one = s.one;
          good = s.good;
          roots = λ r j. ⊎_elim (λ (e : form (memory h) (get_or xs i 0) ≡ r). subst (NilOr (HasBlock M)) e (over _ nm)) (λ k. s.roots r k) (in_set_back xs i (form (memory h) (get_or xs i 0)) j);
          holds = map-set_same own xs i (form (memory h) (get_or xs i 0)) 0 (owner_form a.marks.colours.ok.sound.zero_free a.marks.mirror (get_or xs i 0) root_names) ∙ s.holds;
        }
      where
        over : (r : ℕ) → NilOr (HasBlock (memory h)) r → NilOr (HasBlock (memory (grey h root_form))) r
        over r (inl e) = inl e
        over r (inr o) = let k = root_greyed.keeps r o.0 o.1 in inr (k.0, k.1)

    root_forget : (q : ℕ) → Unscanned xs i q → White (memory (grey h root_form)) (form (memory (grey h root_form)) q)
        → Unscanned root_places (suc i) q
    unfolding root_form
    root_forget r u v =
        ⊎_elim
        (λ (e : u.at ≡ i).
        let f : get_or xs i 0 ≡ r = sym (ap (λ j. get_or xs j 0) e) ∙ u.is in
        absurd (root_greyed.dark (subst (White (memory (grey h root_form))) (root_forms r ∙ sym (ap (form (memory h)) f) ∙ sym root_twice) v)))
        (λ (d : u.at ≡ i → ⊥).
        record { at = u.at; from = omega (arith, u.from, d); inside = rw (length-set xs i (form (memory h) (get_or xs i 0))) u.inside; is = get_or-set_other xs i u.at (form (memory h) (get_or xs i 0)) 0 d ∙ u.is })
        (cases_eq u.at i)

    root_fresh : (j : ℕ) → j < suc i → form (memory (grey h root_form)) (get_or root_places j 0) ≡ get_or root_places j 0
    unfolding root_form
    root_fresh j l =
        root_forms (get_or root_places j 0) ∙
        ⊎_elim
        (λ (e : j ≡ i). ⊎_elim
        (λ (k : i < length xs).
        let u : get_or root_places j 0 ≡ form (memory h) (get_or xs i 0) = ap (λ q. get_or root_places q 0) e ∙ get_or-set_same xs i (form (memory h) (get_or xs i 0)) 0 k in
        ap (form (memory h)) u ∙ root_twice ∙ sym u)
        (λ (k : length xs ≤ i).
        let u : get_or root_places j 0 ≡ 0 = get_or_past root_places j 0 (rw (length-set xs i (form (memory h) (get_or xs i 0))) (omega arith)) in
        ap (form (memory h)) u ∙ ap forward_of a.marks.colours.ok.sound.zero_free ∙ sym u)
        (cases_lt i (length xs)))
        (λ (d : j ≡ i → ⊥).
        let u = get_or-set_other xs i j (form (memory h) (get_or xs i 0)) 0 d in
        ap (form (memory h)) u ∙ a.fresh j (omega arith) ∙ sym u)
        (cases_eq j i)

    pub root_step : AtRoots (suc i) (set xs i (form (memory h) (get_or xs i 0))) (grey h (form (memory h) (get_or xs i 0)))
    unfolding root_form
    root_step = record {
      closed = a.closed;
      marks = record {
        colours = coloured_forget (grey h root_form) root_forget root_marks.colours;
        mirror = root_stands;
        all = root_marks.all;
      };
      fresh = root_fresh;
    }

  -- blocks are moved, of class `k`
  pub record AtMoving (k : ℕ) (source : Option ℕ) (targets : ℕ) (xs : List ℕ) (h : Heap) : Type 0 where
    pub closed : Closed T ns ys
    pub pages : PagesOk h.pages
    pub stands : Settled T ns xs ys own (memory h)
    pub phased : MovePhase (moving k source targets) h.pages

  -- where a collection has just ended: exactly the wanted records are held
  pub record AtEnd (xs : List ℕ) (h : Heap) : Type 0 where
    pub closed : Closed T ns ys
    pub pages : PagesOk h.pages
    pub stands : Settled T ns xs ys own (memory h)
    pub clean : (m : ℕ) (x : Block) → memory h m ≡ Some x → x.marked ≡ false

  abbrev pub At : Phase → List ℕ → Heap → Type 0
  At idle xs h = AtEnd xs h
  At (roots i) xs h = AtRoots i xs h
  At marking xs h = AtMarking xs h
  At (sweeping g) xs h = AtSweeping g xs h
  At (moving k source targets) xs h = AtMoving k source targets xs h

  -- only the pages and the work list matter
  marking_re : (xs : List ℕ) (E Q : ℕ → Type 0) (h : Heap) (p : Phase) (u : ℕ) → WhileMarking T own ns xs ys E Q h
      → WhileMarking T own ns xs ys E Q (with_progress h p u)
  marking_re xs E Q h p u m = record {
    colours = record {
      ok = record { pages = m.colours.ok.pages; sound = m.colours.ok.sound; works = m.colours.ok.works };
      cover = m.colours.cover;
      direct = m.colours.direct;
      black = m.colours.black;
    };
    mirror = m.mirror;
    all = m.all;
  }

  pub at_progress : (ph : Phase) (xs : List ℕ) (h : Heap) (p : Phase) (u : ℕ) → At ph xs h → At ph xs (with_progress h p u)
  at_progress idle xs h p u a = record { closed = a.closed; pages = a.pages; stands = a.stands; clean = a.clean }
  at_progress (roots i) xs h p u a = record { closed = a.closed; marks = marking_re xs _ _ h p u a.marks; fresh = a.fresh }
  at_progress marking xs h p u a = record { closed = a.closed; marks = marking_re xs _ _ h p u a.marks; fresh = a.fresh }
  at_progress (sweeping g) xs h p u a = record { closed = a.closed; pages = a.pages; below = a.below; mirror = a.mirror; held = a.held; swept = a.swept; marked = a.marked; single = a.single }
  at_progress (moving k source targets) xs h p u a = record { closed = a.closed; pages = a.pages; stands = a.stands; phased = a.phased }

  roots_end : (i : ℕ) (xs : List ℕ) (h : Heap) → length xs ≤ i → AtRoots i xs h → AtMarking xs h
  roots_end i xs h l a = record {
    closed = a.closed;
    marks = record {
      colours = coloured_forget h (λ r u v. omega (arith, u.from, u.inside)) a.marks.colours;
      mirror = a.marks.mirror;
      all = a.marks.all;
    };
    fresh = λ r j. ap (form (memory h)) (sym j.is) ∙ a.fresh j.at (omega (arith, j.inside)) ∙ j.is;
  }

  -- the newest of the work list is scanned
  mark_step : (xs : List ℕ) (h : Heap) (n : ℕ) (w : List ℕ) → h.work ≡ n ∷ w → AtMarking xs h → AtMarking xs (marking_unit h (n ∷ w))
  mark_step xs h n w e a = record {
    closed = a.closed;
    marks = m;
    fresh = λ r j. fresh r j;
  }
    where
      c : Coloured T own (λ m. ⊥) (λ r. ⊥) h
      c = a.marks.colours

      here : (b : Block) → memory h n ≡ Some b → b.marked ≡ true → b.forward ≡ n
      here = c.ok.sound.marks n

      b : Marked (memory h) n
      b = c.ok.works n (subst (λ l. In l n) (sym e) (record { at = 0; inside = omega arith; is = refl }))

      fw : b.block.forward ≡ n
      fw = here b.block b.is b.marked

      t : (x : Block) (r : ℕ) → memory h n ≡ Some x → In x.refs r → T (own (form (memory h) r))
      t x r f i =
          let q : x ≡ b.block = some_same f b.is in
          let g : x.forward ≡ n = ap (λ (y : Block). y.forward) q ∙ fw in
          form_wanted a.marks.mirror a.closed c.ok.sound.zero_free r (a.marks.mirror.good n x r (x, f) f g i)
          (ref_wanted a.marks.mirror a.closed n x r (x, f) f g (c.black n b) i)

      m : WhileMarking T own ns xs ys (λ m. ⊥) (λ r. ⊥) (marking_unit h (n ∷ w))
      m = marks_scan (refs_of (memory h n)) (with_work h w) 0
          (pop_scan e t c) (ap forward_of b.is ∙ fw)
          (record { colours = pop_coloured e t c; mirror = a.marks.mirror; all = a.marks.all })

      fresh : (r : ℕ) → In xs r → form (memory (marking_unit h (n ∷ w))) r ≡ r
      fresh r j = scan_form (refs_of (memory h n)) (with_work h w) 0 (pop_scan e t c) (pop_coloured e t c) r ∙ a.fresh r j

  mark_done : (xs : List ℕ) (h : Heap) → h.work ≡ [] → AtMarking xs h → AtSweeping 0 xs h
  mark_done xs h e a = record {
    closed = a.closed;
    pages = c.ok.pages;
    below = omega arith;
    mirror = alike_stands back to (end_stands a.marks.mirror a.closed c e a.fresh);
    held = record { only = λ n l. d.only n (back n l); all = λ x y t f. let z = d.all x y t f in (z.0, to z.0 z.1, z.2, z.3) };
    swept = λ m x f l. absurd (omega arith);
    marked = c.ok.sound.marks;
    single = stands_one_each a.marks.mirror;
  }
    where
      c : Coloured T own (λ m. ⊥) (λ r. ⊥) h
      c = a.marks.colours

      d : Holds T own (memory h) (Marked (memory h)) ns
      d = end_holds a.marks.mirror a.closed c e a.fresh a.marks.all

      back : (n : ℕ) → Live 0 (memory h) n → Marked (memory h) n
      back n l = record { block = l.block; is = l.is; marked = ⊎_elim (λ (p : page_of n < 0). absurd (omega arith)) (λ u. u) l.kept }

      to : (n : ℕ) → Marked (memory h) n → Live 0 (memory h) n
      to n m = record { block = m.block; is = m.is; kept = inr m.marked }

  -- one page is swept
  module _ {g : ℕ} {xs : List ℕ} {h : Heap} (a : AtSweeping g xs h) where
    abbrev pub swept_pages : List Page
    swept_pages = set h.pages g (swept (page_at h.pages g))

    sweep_was : (m : ℕ) (x : Block) → block_at swept_pages m ≡ Some x
        → (page_of m ≡ g → (x.forward ≡ m) × (x.marked ≡ false)) × ((page_of m ≡ g → ⊥) → memory h m ≡ Some x)
    sweep_was m x e =
        let n = named_from swept_pages m x e in (
          (λ (f : page_of m ≡ g).
              let y = survivor_some (memory h m) x (sym (sweep_same h.pages g m a.pages n a.below f) ∙ e) in
              (ap (λ (z : Block). z.forward) y.3 ∙ a.marked m y.0 y.1 y.2, ap (λ (z : Block). z.marked) y.3)),
          (λ (d : page_of m ≡ g → ⊥). sym (sweep_other h.pages g (swept (page_at h.pages g)) m n d) ∙ e),
        )

    sweep_low : (m : ℕ) (x : Block) → block_at swept_pages m ≡ Some x → page_of m < suc g → (x.forward ≡ m) × (x.marked ≡ false)
    sweep_low m x e l =
        let w = sweep_was m x e in
        ⊎_elim (λ (f : page_of m ≡ g). w.0 f) (λ (d : page_of m ≡ g → ⊥). a.swept m x (w.1 d) (omega arith)) (cases_eq (page_of m) g)

    sweep_marks : (m : ℕ) (x : Block) → block_at swept_pages m ≡ Some x → x.marked ≡ true → x.forward ≡ m
    sweep_marks m x e t =
        let w = sweep_was m x e in
        ⊎_elim (λ (f : page_of m ≡ g). (w.0 f).0) (λ (d : page_of m ≡ g → ⊥). a.marked m x (w.1 d) t) (cases_eq (page_of m) g)

    sweep_has_block : (m : ℕ) → HasBlock (block_at swept_pages) m → HasBlock (memory h) m × (form (block_at swept_pages) m ≡ form (memory h) m)
    sweep_has_block m o =
        let n = named_from swept_pages m o.0 o.1 in
        ⊎_elim
        (λ (f : page_of m ≡ g).
        let y = survivor_some (memory h m) o.0 (sym (sweep_same h.pages g m a.pages n a.below f) ∙ o.1) in
        ((y.0, y.1), ap forward_of o.1 ∙ ap (λ (z : Block). z.forward) y.3 ∙ sym (ap forward_of y.1)))
        (λ (d : page_of m ≡ g → ⊥).
        let q = sweep_other h.pages g (swept (page_at h.pages g)) m n d in
        ((o.0, sym q ∙ o.1), ap forward_of q))
        (cases_eq (page_of m) g)

    sweep_pages : PagesOk swept_pages
    sweep_pages = set_pages_ok h.pages g (swept (page_at h.pages g)) (swept_ok (page_at h.pages g) (a.pages.each g)) a.pages

    sweep_more : suc g < 64 → (p : Phase) (u : ℕ) → AtSweeping (suc g) xs (record { pages = swept_pages; work = h.work; phase = p; units = u })
    sweep_more l p u = record {
      closed = a.closed;
      pages = sweep_pages;
      below = l;
      mirror = swept_stands g a.pages a.below a.mirror;
      held = swept_holds g a.pages a.below a.mirror a.held;
      swept = sweep_low;
      marked = sweep_marks;
      single = one_each_back sweep_has_block a.single;
    }

    sweep_all : 64 ≤ suc g → (m : ℕ) (x : Block) → block_at swept_pages m ≡ Some x → (x.forward ≡ m) × (x.marked ≡ false)
    sweep_all l m x e = let r = room_from swept_pages m x e in sweep_low m x e (omega (arith, r.page, sweep_pages.many))

    sweep_settled : 64 ≤ suc g → Settled T ns xs ys own (block_at swept_pages)
    sweep_settled l = record {
      sound = record {
        zero_free = refl;
        forwards = λ m x e. let f = (sweep_all l m x e).0 in (x, ap (block_at swept_pages) f ∙ e, refl);
        marks = λ m x e t. (sweep_all l m x e).0;
      };
      mirror = alike_stands to back (swept_stands g a.pages a.below a.mirror);
      held =
          let d = swept_holds g a.pages a.below a.mirror a.held in
          record { only = λ n o. d.only n (to n o); all = λ x y t f. let z = d.all x y t f in (z.0, back z.0 z.1, z.2, z.3) };
    }
      where
        N : Mem
        N = block_at swept_pages

        to : (n : ℕ) → HasBlock N n → Live (suc g) N n
        to n o = let r = room_from swept_pages n o.0 o.1 in record { block = o.0; is = o.1; kept = inl (omega (arith, r.page, sweep_pages.many)) }

        back : (n : ℕ) → Live (suc g) N n → HasBlock N n
        back n x = (x.block, x.is)

    pub sweep_step : At (sweeping_unit h g).phase xs (sweeping_unit h g)
    sweep_step = go (ltb (suc g) 64) refl
      where
        rest : Bool → Phase
        rest t = cond t idle (moving 0 None 0)

        last : 64 ≤ suc g → (t : Bool) → At (cond t idle (moving 0 None 0)) xs (record { pages = swept_pages; work = h.work; phase = cond t idle (moving 0 None 0); units = h.units })
        last l true = record { closed = a.closed; pages = sweep_pages; stands = sweep_settled l; clean = λ m x e. (sweep_all l m x e).1 }
        last l false = record {
          closed = a.closed;
          pages = sweep_pages;
          stands = sweep_settled l;
          phased = (omega arith, record { aims = λ m x e. inl (sweep_all l m x e).0; clean = λ m x e. (sweep_all l m x e).1 });
        }

        go : (t : Bool) → ltb (suc g) 64 ≡ t
            → At (cond t (sweeping (suc g)) (cond (leb 20 (count_pages is_uncut swept_pages)) idle (moving 0 None 0))) xs
            (record { pages = swept_pages; work = h.work; phase = cond t (sweeping (suc g)) (cond (leb 20 (count_pages is_uncut swept_pages)) idle (moving 0 None 0)); units = h.units })
        go true e = sweep_more (ltb-true _ _ e) (sweeping (suc g)) h.units
        go false e = last (ltb-false _ _ e) (leb 20 (count_pages is_uncut swept_pages))

  pub after_at : (i a b : ℕ) (xs : List ℕ) (h : Heap) (t : Bool) → length xs ≡ a + b → ltb (suc i) (a + b) ≡ t → AtRoots (suc i) xs h
      → At (cond t (roots (suc i)) marking) xs (with_phase h (cond t (roots (suc i)) marking))
  after_at i a b xs h true e f x = at_progress (roots (suc i)) xs h (roots (suc i)) h.units x
  after_at i a b xs h false e f x =
      let l = ltb-false (suc i) (a + b) f in
      at_progress marking xs h marking h.units (roots_end (suc i) xs h (omega arith) x)

  pub root_unit_at : (s : State) (i : ℕ) → AtRoots i (places s) s.heap
      → (AtRoots (suc i) (places (root_unit s i)) (root_unit s i).heap) × (length (places (root_unit s i)) ≡ length s.holder + length s.agenda)
  root_unit_at s i x = go (ltb i (length s.holder)) refl
    where
      h : Heap
      h = s.heap

      n : ℕ
      n = form (memory h) (get_or s.holder i 0)

      j : ℕ
      j = i - length s.holder

      m : ℕ
      m = form (memory h) (get_or s.agenda j 0)

      a : State
      a = with_heap (with_holder s (set s.holder i n)) (grey h n)

      b : State
      b = with_heap (with_agenda s (set s.agenda j m)) (grey h m)

      go : (t : Bool) → ltb i (length s.holder) ≡ t
          → (AtRoots (suc i) (places (cond t a b)) (cond t a b).heap) × (length (places (cond t a b)) ≡ length s.holder + length s.agenda)
      go true e =
          let l : i < length s.holder = ltb-true _ _ e in
          let q = get_or_append_left s.holder s.agenda 0 i l in (
            subst (λ zs. AtRoots (suc i) zs (grey h n)) (set-append_left s.holder s.agenda i n l)
                (subst (λ y. AtRoots (suc i) (set (places s) i (form (memory h) y)) (grey h (form (memory h) y))) q (root_step x)),
            simp (length-append, length-set),
          )
      go false e =
          let l : length s.holder ≤ i = ltb-false _ _ e in
          let q = get_or-append_right s.holder s.agenda (length s.holder) i 0 refl l in (
            subst (λ zs. AtRoots (suc i) zs (grey h m)) (set-append_right s.holder s.agenda (length s.holder) i m refl l)
                (subst (λ y. AtRoots (suc i) (set (places s) i (form (memory h) y)) (grey h (form (memory h) y))) q (root_step x)),
            simp (length-append, length-set),
          )

  pub mark_at : (xs : List ℕ) (h : Heap) → h.phase ≡ marking → AtMarking xs h → (l : List ℕ) → h.work ≡ l
      → At (marking_unit h l).phase xs (marking_unit h l)
  mark_at xs h e a [] f = at_progress (sweeping 0) xs h (sweeping 0) h.units (mark_done xs h f a)
  mark_at xs h e a (n ∷ w) f =
      subst (λ (p : Phase). At p xs (marking_unit h (n ∷ w))) (sym (scan_phase (refs_of (memory h n)) (with_work h w) n 0 ∙ e)) (mark_step xs h n w f a)

module _ (T : ℕ → Type 0) (ns : List Record) (ys : List ℕ) where
  moving_at : (own : ℕ → ℕ) (xs : List ℕ) (h : Heap) → Closed T ns ys → (ph : Phase) → h.phase ≡ ph → Moving T ns xs ys own h
      → At T ns ys own ph xs h
  moving_at own xs h c idle e m = record { closed = c; pages = m.pages; stands = m.stands; clean = subst (λ (p : Phase). MovePhase p h.pages) e m.phased }
  moving_at own xs h c (roots i) e m = absurd (subst (λ (p : Phase). MovePhase p h.pages) e m.phased)
  moving_at own xs h c marking e m = absurd (subst (λ (p : Phase). MovePhase p h.pages) e m.phased)
  moving_at own xs h c (sweeping g) e m = absurd (subst (λ (p : Phase). MovePhase p h.pages) e m.phased)
  moving_at own xs h c (moving k source targets) e m = record { closed = c; pages = m.pages; stands = m.stands; phased = subst (λ (p : Phase). MovePhase p h.pages) e m.phased }

  abbrev pub StateAt : (ℕ → ℕ) → State → Type 0
  StateAt own s = At T ns ys own s.heap.phase (places s) s.heap

  by_phase_at : (own : ℕ → ℕ) (s : State) (ph : Phase) → s.heap.phase ≡ ph → At T ns ys own ph (places s) s.heap
      → StateAt (owner_unit ph s.heap.pages own) (by_phase s ph)
  by_phase_at own s idle e a = subst (λ (p : Phase). At T ns ys own p (places s) s.heap) (sym e) a
  by_phase_at own s (roots i) e a =
      let r = root_unit_at T ns ys own s i a in
      after_at T ns ys own i (length s.holder) (length s.agenda) (places (root_unit s i)) (root_unit s i).heap (ltb (suc i) (length s.holder + length s.agenda)) r.1 refl r.0
  by_phase_at own s marking e a = mark_at T ns ys own (places s) s.heap e a s.heap.work refl
  by_phase_at own s (sweeping g) e a = sweep_step T ns ys own a
  by_phase_at own s (moving k source targets) e a =
      moving_at (owner_unit (moving k source targets) s.heap.pages own) (places s) (moving_unit s.heap k source targets) a.closed _ refl (move_keeps s.heap k source targets own a.pages a.stands a.phased)

  -- every unit of a collection leads from a phase's invariant to a phase's invariant
  pub unit_at : (own : ℕ → ℕ) (s : State) → StateAt own s → StateAt (owner_unit s.heap.phase s.heap.pages own) (unit s)
  unit_at own s a =
      let t = by_phase s s.heap.phase in
      let o = owner_unit s.heap.phase s.heap.pages own in
      at_progress T ns ys o t.heap.phase (places t) t.heap t.heap.phase (suc t.heap.units) (by_phase_at own s s.heap.phase refl a)

  pub steps_at : (u : ℕ) (own : ℕ → ℕ) (s : State) → StateAt own s → StateAt (owner_steps u s own) (steps u s)
  steps_at zero own s a = a
  steps_at (suc u) own s a = go (running s.heap.phase) (steps_at u (owner_unit s.heap.phase s.heap.pages own) (unit s) (unit_at own s a))
    where
      o : ℕ → ℕ
      o = owner_steps u (unit s) (owner_unit s.heap.phase s.heap.pages own)

      go : (t : Bool) → StateAt o (steps u (unit s)) → StateAt (cond t o own) (cond t (steps u (unit s)) s)
      go true b = b
      go false b = a
