-- The calls that write: load, write, store and make, and the test of same.
use Rattle.std.proofs.Common.{◌≡◌, ℕ, suc, ◌+◌, ◌<◌, ◌≤◌, eqb, List, [], ◌∷◌, ◌++◌, map, length, get_or, set, replicate, Some, None, Option, sym, refl, ap, ◌∙◌, subst, ap₂, inl, inr, ⊎_elim, arith}
use Rattle.std.proofs.lemmas.List.{get_or-map, map-set}
use Rattle.std.proofs.lemmas.Bool.{cases_eq, eq-eqb, ne_eqb}
use Rattle.model.specs.Classes.{fitting}
use Rattle.model.specs.Pages.{Block, block_at, current, forward_of, put_block, refs_of}
use Rattle.model.specs.State.{Heap, Phase, State, idle, marking, moving, roots, sweeping, with_heap, with_pages}
use Rattle.model.specs.Units.{grey, with_refs}
use Rattle.model.specs.Making.{allocated_marked, barrier, barrier_in, free_number, overwrite, page_to_take, ready_pages, with_new, new_block}
use Rattle.model.specs.Refusals.{block_in, place}
use Rattle.model.specs.Calls.{alter, made_in, stored, with_word}
use Rattle.model.specs.Graph.{Record}
use Rattle.model.specs.Runs.{put}
use Rattle.theory.proofs.PageShapes.{class_fits}
use Rattle.theory.proofs.Lists.{In, in_set, in_set_back, none_some, some_same}
use Rattle.theory.proofs.Memory.{Alike, HasBlock, White, bare, bare_alike, form}
use Rattle.theory.proofs.Pages.{Made, make_room, ready_keeps}
use Rattle.theory.proofs.Records.{View, find_in, put_record, record_of}
use Rattle.theory.proofs.StandsFor.{NilOr, put_here}
use Rattle.theory.proofs.WantedSet.{ref_wanted}
use Rattle.theory.proofs.Greying.{Barrier, Greyed, greyed_form, memory, places}
use Rattle.theory.proofs.Phases.{At}
use Rattle.theory.proofs.Overwriting.{LiveIn, lost_greyed, lost_marks, write_at}
use Rattle.theory.proofs.NewBlocks.{new_at, new_form, new_live}
use Rattle.theory.proofs.Places.{LiveNow, StoreStands, barrier_phase, form_nil_or, form_once, graph_overwritten, graph_place, graph_put, holder_nil_or, memory_stands, overwrite_form, overwrite_stands, pages_at, place_form_wanted, place_live, place_owner, wanted_closed}

-- the number is greyed where the phase has the barrier
pub record Lost (T : ℕ → Type 0) (ns : List Record) (ys : List ℕ) (own : ℕ → ℕ) (ph : Phase) (xs : List ℕ) (h k : Heap) (n : ℕ) : Type 0 where
  pub at : At T ns ys own ph xs k
  pub bared : (m : ℕ) → bare (memory k m) ≡ bare (memory h m)
  pub same : (m : ℕ) → form (memory k) m ≡ form (memory h) m
  pub dark : Barrier ph → White (memory k) (form (memory h) n) → ⊥
  pub live : (m : ℕ) → LiveIn ph (memory h) m → LiveIn ph (memory k) m

module _ (T : ℕ → Type 0) (ns : List Record) (ys : List ℕ) (own : ℕ → ℕ) where
  has_block_greyed : (h k : Heap) (n : ℕ) → Greyed h k n → (m : ℕ) → HasBlock (memory h) m → HasBlock (memory k) m
  has_block_greyed h k n g m o = let x = g.keeps m o.0 o.1 in (x.0, x.1)

  pub barrier_at : (ph : Phase) (xs : List ℕ) (h : Heap) (n : ℕ) → NilOr (LiveIn ph (memory h)) n → T (own n) → At T ns ys own ph xs h
      → Lost T ns ys own ph xs h (barrier_in h n ph) n
  barrier_at idle xs h n nm t a = record { at = a; bared = λ m. refl; same = λ m. refl; dark = λ b. absurd b; live = λ m l. l }
  barrier_at (roots i) xs h n nm t a =
      let g = lost_greyed a.marks a.closed n nm t in
      record {
        at = record { closed = a.closed; marks = lost_marks a.marks a.closed n nm t; fresh = λ j l. greyed_form g (get_or xs j 0) ∙ a.fresh j l };
        bared = g.bared;
        same = greyed_form g;
        dark = λ b. g.dark;
        live = has_block_greyed h (grey h n) n g;
      }
  barrier_at marking xs h n nm t a =
      let g = lost_greyed a.marks a.closed n nm t in
      record {
        at = record { closed = a.closed; marks = lost_marks a.marks a.closed n nm t; fresh = λ r i. greyed_form g r ∙ a.fresh r i };
        bared = g.bared;
        same = greyed_form g;
        dark = λ b. g.dark;
        live = has_block_greyed h (grey h n) n g;
      }
  barrier_at (sweeping g) xs h n nm t a = record { at = a; bared = λ m. refl; same = λ m. refl; dark = λ b. absurd b; live = λ m l. l }
  barrier_at (moving k src targets) xs h n nm t a = record { at = a; bared = λ m. refl; same = λ m. refl; dark = λ b. absurd b; live = λ m l. l }

module _ {T : ℕ → Type 0} {s : State} {g : View} {own : ℕ → ℕ} (a : StoreStands T s g own) where
  -- two numbers in places name one record where they are one
  one_owner : (m n : ℕ) → NilOr (LiveNow s) m → NilOr (LiveNow s) n → form (memory s.heap) m ≡ m → form (memory s.heap) n ≡ n
      → own m ≡ own n → m ≡ n
  one_owner m n (inl e) (inl f) c d o = e ∙ sym f
  one_owner m n (inl e) (inr f) c d o =
      let z = memory_stands a in let x = z.there n f in
      let h = find_in g.records (own n) _ (z.contents n x.0 f x.1 (sym (ap forward_of x.1) ∙ d)) in
      let q : own n ≡ 0 = sym o ∙ ap own e ∙ z.none in absurd (omega (arith, h.0))
  one_owner m n (inr e) (inl f) c d o =
      let z = memory_stands a in let x = z.there m e in
      let h = find_in g.records (own m) _ (z.contents m x.0 e x.1 (sym (ap forward_of x.1) ∙ c)) in
      let q : own m ≡ 0 = o ∙ ap own f ∙ z.none in absurd (omega (arith, h.0))
  one_owner m n (inr e) (inr f) c d o = (memory_stands a).one m n e f c d o

  place_form : (q : ℕ) → q < length s.holder → form (memory s.heap) (place s q) ≡ place s q
  place_form q l = form_once a (get_or s.holder q 0) (holder_nil_or a q)

  place_nil_or : (q : ℕ) → q < length s.holder → NilOr (LiveNow s) (place s q)
  place_nil_or q l = form_nil_or a (get_or s.holder q 0) (holder_nil_or a q)

  pub same_test : (p q : ℕ) → p < length s.holder → q < length s.holder → eqb (place s p) (place s q) ≡ eqb (graph_place g p) (graph_place g q)
  same_test p q l k =
      ⊎_elim
      (λ (e : place s p ≡ place s q). eq-eqb _ _ e ∙ sym (eq-eqb _ _ (sym (place_owner a p l) ∙ ap own e ∙ place_owner a q k)))
      (λ (d : place s p ≡ place s q → ⊥).
      ne_eqb _ _ d ∙ sym (ne_eqb _ _ (λ e. d (one_owner (place s p) (place s q) (place_nil_or p l) (place_nil_or q k) (place_form p l) (place_form q k) (place_owner a p l ∙ e ∙ sym (place_owner a q k))))))
      (cases_eq (place s p) (place s q))

  pub write_stands : (q w v : ℕ) → q < length s.holder → (b : Block) → block_in s q ≡ Some b
      → StoreStands T (with_heap s (with_pages s.heap (put_block s.heap.pages (place s q) (record { forward = b.forward; marked = b.marked; refs = b.refs; words = set b.words w v }))))
      (graph_put g (graph_place g q) (record { refs = map own b.refs; words = set b.words w v })) own
  write_stands q w v l b i =
      let x = place_live a q b i in
      let c : Block = record { forward = b.forward; marked = b.marked; refs = b.refs; words = set b.words w v } in
      subst (λ y. StoreStands T (with_heap s (with_pages s.heap (put_block s.heap.pages (place s q) c))) (graph_put g y (record_of own c)) own) (place_owner a q l)
      (record {
        at = write_at T g.records (g.holder ++ g.agenda) own (places s) s.heap (place s q) b c i x.1 refl refl s.heap.phase x.0
            (λ r j. (memory_stands a).good (place s q) b r x.0 i x.1 j)
            (λ r j. ref_wanted (memory_stands a) (wanted_closed a) (place s q) b r x.0 i x.1 (place_form_wanted a q l) j)
            (λ r k j e u bar. (r, j, e)) (λ r j. inl j) a.at;
        many = a.many;
        wide = a.wide;
      })

  module _ (q f p : ℕ) (lq : q < length s.holder) (lp : p < length s.holder) {b : Block} (is : block_in s q ≡ Some b)
      (lf : f < length b.refs) where
    store_in : In b.refs (get_or b.refs f 0)
    store_in = record { at = f; inside = lf; is = refl }

    store_live : LiveIn s.heap.phase (memory s.heap) (place s q)
    store_live = (place_live a q b is).0

    store_here : b.forward ≡ place s q
    store_here = (place_live a q b is).1

    store_nil_or : (r : ℕ) → In b.refs r → NilOr (LiveNow s) r
    store_nil_or r j = (memory_stands a).good (place s q) b r store_live is store_here j

    store_wanted : (r : ℕ) → In b.refs r → T (own r)
    store_wanted r j = ref_wanted (memory_stands a) (wanted_closed a) (place s q) b r store_live is store_here (place_form_wanted a q lq) j

    store_lost : Lost T g.records (g.holder ++ g.agenda) own s.heap.phase (places s) s.heap (barrier s.heap (get_or b.refs f 0)) (get_or b.refs f 0)
    store_lost = barrier_at T g.records (g.holder ++ g.agenda) own s.heap.phase (places s) s.heap (get_or b.refs f 0) (store_nil_or _ store_in) (store_wanted _ store_in) a.at

    pub lost_there : (c : Block) × (memory (barrier s.heap (get_or b.refs f 0)) (place s q) ≡ Some c)
    lost_there =
        let al : Alike (memory (barrier s.heap (get_or b.refs f 0)) (place s q)) b = bare_alike _ b (store_lost.bared (place s q) ∙ ap bare is) in
        (al.block, al.is)

    pub store_stands : (c : Block) → memory (barrier s.heap (get_or b.refs f 0)) (place s q) ≡ Some c
        → StoreStands T (with_heap s (with_pages (barrier s.heap (get_or b.refs f 0)) (put_block (barrier s.heap (get_or b.refs f 0)).pages (place s q) (with_refs c (set c.refs f (place s p))))))
        (graph_put g (graph_place g q) (record { refs = set (map own b.refs) f (graph_place g p); words = b.words })) own
    store_stands c e =
        let k = barrier s.heap (get_or b.refs f 0) in
        let n = place s q in
        let v = place s p in
        let d = with_refs c (set c.refs f v) in
        let al : Alike (memory k n) b = bare_alike (memory k n) b (store_lost.bared n ∙ ap bare is) in
        let ce : c ≡ al.block = some_same e al.is in
        let cr : c.refs ≡ b.refs = ap (λ (y : Block). y.refs) ce ∙ al.refs in
        let cw : c.words ≡ b.words = ap (λ (y : Block). y.words) ce ∙ al.words in
        let cf : c.forward ≡ n = ap (λ (y : Block). y.forward) ce ∙ al.forward ∙ store_here in
        let back : (r : ℕ) → In c.refs r → In b.refs r = λ r j. subst (λ l. In l r) cr j in
        let x = write_at T g.records (g.holder ++ g.agenda) own (places s) k n c d e cf refl refl s.heap.phase (store_lost.live n store_live)
        (λ r j. ⊎_elim (λ (z : v ≡ r). subst (NilOr (LiveIn s.heap.phase (memory k))) z (over v (place_nil_or p lp))) (λ i. over r (store_nil_or r (back r i))) (in_set_back c.refs f v j))
        (λ r j. ⊎_elim (λ (z : v ≡ r). subst (λ y. T (own y)) z (place_form_wanted a p lp)) (λ i. store_wanted r (back r i)) (in_set_back c.refs f v j))
        (λ r j i z w bar. ⊎_elim
        (λ y. (r, y, z))
        (λ (y : get_or c.refs f 0 ≡ r).
        absurd (store_lost.dark bar (subst (White (memory k)) (sym z ∙ store_lost.same r ∙ ap (form (memory s.heap)) (sym y ∙ ap (λ (l : List ℕ). get_or l f 0) cr)) w)))
        (in_set c.refs f v i))
        (λ r j. ⊎_elim (λ (z : v ≡ r). inr (subst (λ y. form (memory k) y ≡ y) z (store_lost.same v ∙ place_form p lp))) inl (in_set_back c.refs f v j))
        store_lost.at in
        let refs : map own (set c.refs f v) ≡ set (map own b.refs) f (graph_place g p)
        = map-set own c.refs f v ∙ ap₂ (λ (l : List ℕ) (y : ℕ). set (map own l) f y) cr (place_owner a p lp) in
        subst (λ y. StoreStands T (with_heap s (with_pages k (put_block k.pages n d))) (graph_put g y (record { refs = set (map own b.refs) f (graph_place g p); words = b.words })) own) (place_owner a q lq)
        (subst (λ (y : List ℕ). StoreStands T (with_heap s (with_pages k (put_block k.pages n d))) (graph_put g (own n) (record { refs = y; words = b.words })) own) refs
        (subst (λ (y : List ℕ). StoreStands T (with_heap s (with_pages k (put_block k.pages n d))) (graph_put g (own n) (record { refs = map own (set c.refs f v); words = y })) own) cw
        (record {
          at = subst (λ (z : Phase). At T (put_record g.records (own n) (record_of own d)) (g.holder ++ g.agenda) own z (places s) (with_pages k (put_block k.pages n d))) (sym (barrier_phase s.heap (get_or b.refs f 0) s.heap.phase)) x;
          many = a.many;
          wide = a.wide;
        })))
      where
        over : (r : ℕ) → NilOr (LiveNow s) r → NilOr (LiveIn s.heap.phase (memory (barrier s.heap (get_or b.refs f 0)))) r
        over r (inl e) = inl e
        over r (inr i) = inr (store_lost.live r i)

module _ {T : ℕ → Type 0} {s : State} {g : View} {own : ℕ → ℕ} (a : StoreStands T s g own) where
  -- a record is read through its current block
  pub load_call : (p q f : ℕ) → p < length s.holder → q < length s.holder → (b : Block) → block_in s q ≡ Some b → f < length b.refs
      → StoreStands T (overwrite s p (current s.heap.pages (get_or (refs_of (block_in s q)) f 0))) (graph_overwritten g p (get_or (map own b.refs) f 0)) own
  load_call p q f lp lq b i k =
      let x = place_live a q b i in
      let j : In b.refs (get_or b.refs f 0) = record { at = f; inside = k; is = refl } in
      let n = (memory_stands a).good (place s q) b (get_or b.refs f 0) x.0 i x.1 j in
      let t = ref_wanted (memory_stands a) (wanted_closed a) (place s q) b (get_or b.refs f 0) x.0 i x.1 (place_form_wanted a q lq) j in
      subst (λ (y : Option Block). StoreStands T (overwrite s p (current s.heap.pages (get_or (refs_of y) f 0))) (graph_overwritten g p (get_or (map own b.refs) f 0)) own) (sym i)
      (subst (λ y. StoreStands T (overwrite s p (form (memory s.heap) (get_or b.refs f 0))) (graph_overwritten g p y) own) (sym (get_or-map own b.refs f 0 0 k))
      (overwrite_form a p (get_or b.refs f 0) lp n t))

  pub write_call : (q w v : ℕ) → q < length s.holder → (b : Block) → block_in s q ≡ Some b
      → StoreStands T (with_heap s (alter s.heap (place s q) (λ c. with_word c w v) (block_in s q))) (graph_put g (graph_place g q) (record { refs = map own b.refs; words = set b.words w v })) own
  write_call q w v l b i =
      subst (λ (y : Option Block). StoreStands T (with_heap s (alter s.heap (place s q) (λ c. with_word c w v) y)) (graph_put g (graph_place g q) (record { refs = map own b.refs; words = set b.words w v })) own) (sym i)
      (write_stands a q w v l b i)

  pub store_call : (q f p : ℕ) → q < length s.holder → p < length s.holder → (b : Block) → block_in s q ≡ Some b → f < length b.refs
      → StoreStands T (stored s (place s q) f (place s p)) (graph_put g (graph_place g q) (record { refs = set (map own b.refs) f (graph_place g p); words = b.words })) own
  store_call q f p lq lp b i k =
      subst (λ (y : Option Block).
      StoreStands T (with_heap s (alter (barrier s.heap (get_or (refs_of y) f 0)) (place s q) (λ c. with_refs c (set c.refs f (place s p))) (block_at (barrier s.heap (get_or (refs_of y) f 0)).pages (place s q)))) view own) (sym i)
      (go (memory (barrier s.heap (get_or b.refs f 0)) (place s q)) refl)
    where
      view : View
      view = graph_put g (graph_place g q) (record { refs = set (map own b.refs) f (graph_place g p); words = b.words })

      go : (x : Option Block) → memory (barrier s.heap (get_or b.refs f 0)) (place s q) ≡ x
          → StoreStands T (with_heap s (alter (barrier s.heap (get_or b.refs f 0)) (place s q) (λ c. with_refs c (set c.refs f (place s p))) x)) view own
      go None e = let z = lost_there a q f p lq lp i k in none_some z.0 (sym e ∙ z.1)
      go (Some c) e = store_stands a q f p lq lp i k c e

module _ {T : ℕ → Type 0} {s : State} {g : View} {own : ℕ → ℕ} (a : StoreStands T s g own) (p r d : ℕ) (lp : p < length s.holder)
    (fits : r + d ≤ 30) (j : ℕ) (pf : page_to_take s.heap.pages (fitting (2 + r + d)) ≡ Some j) where
  make_made : Made s.heap.pages (ready_pages s.heap.pages j (fitting (2 + r + d))) (free_number (ready_pages s.heap.pages j (fitting (2 + r + d))) j) j
  make_made =
      let c = class_fits (2 + r + d) (omega arith) in
      make_room s.heap.pages (fitting (2 + r + d)) j c.0 c.1 c.2 (pages_at T g.records (g.holder ++ g.agenda) own s.heap.phase (places s) s.heap a.at) pf

  abbrev make_number : ℕ
  make_number = free_number (ready_pages s.heap.pages j (fitting (2 + r + d))) j

  abbrev make_state : State
  make_state = with_heap s (with_new s.heap j (fitting (2 + r + d)) r d)

  abbrev make_owner : ℕ → ℕ
  make_owner = put own make_number (suc (length g.records))

  abbrev make_graph : View
  make_graph = record { records = g.records ++ record { refs = replicate r 0; words = replicate d 0 } ∷ []; holder = g.holder; agenda = g.agenda }

  make_block_stands : StoreStands T make_state make_graph make_owner
  make_block_stands = record {
    at = new_at T g.records (g.holder ++ g.agenda) own (places s) s.heap (ready_pages s.heap.pages j (fitting (2 + r + d))) make_number j r d (allocated_marked s.heap.phase j) make_made refl
        (ready_keeps s.heap.pages j (fitting (2 + r + d))) s.heap.phase refl a.at;
    many = a.many;
    wide = a.wide;
  }

  abbrev make_block : Block
  make_block = new_block s.heap.phase j make_number r d

  pub make_stands : StoreStands T (made_in s p r d j) (graph_overwritten make_graph p (suc (length g.records))) make_owner
  make_stands =
      let o : make_owner make_number ≡ suc (length g.records) = put_here own make_number (suc (length g.records)) make_number refl in
      subst (λ y. StoreStands T (overwrite make_state p make_number) (graph_overwritten make_graph p y) make_owner) o
      (overwrite_stands make_block_stands p make_number lp (inr (new_live make_made make_block s.heap.phase refl)) (new_form make_made make_block refl)
      (subst T (sym o) ((wanted_closed a).more (suc (length g.records)) (omega arith))))
