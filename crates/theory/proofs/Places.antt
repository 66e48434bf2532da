-- The store stands for the graph: what its places name, and what an overwritten place does.
use Rattle.std.proofs.Common.{◌≡◌, ℕ, ◌+◌, ◌-◌, ◌<◌, ◌≤◌, List, ◌++◌, length, get_or, set, Some, sym, refl, ap, ◌∙◌, subst, inl, inr, ⊎_elim, arith}
use Rattle.std.proofs.lemmas.List.{get_or-append-add, get_or_append_left, get_or-map, get_or_past, length-append, length-set, set-append_left, set-append_right}
use Rattle.std.proofs.lemmas.Bool.{cases_lt}
use Rattle.model.specs.Pages.{Block, block_at, current, forward_of, page_of}
use Rattle.model.specs.State.{Heap, Phase, State, idle, marking, moving, roots, sweeping, with_agenda, with_heap}
use Rattle.model.specs.Making.{barrier, barrier_in, overwrite}
use Rattle.model.specs.Refusals.{block_in, place}
use Rattle.model.specs.Graph.{Record}
use Rattle.theory.proofs.PageShapes.{PagesOk}
use Rattle.theory.proofs.Lists.{In, none_some}
use Rattle.theory.proofs.Memory.{form, form_twice}
use Rattle.theory.proofs.Records.{View, find, find_in, put_record, record_of}
use Rattle.theory.proofs.StandsFor.{NilOr, StandsFor, nil_or_form, owner_form}
use Rattle.theory.proofs.WantedSet.{Closed, place_wanted}
use Rattle.theory.proofs.Greying.{grey_block_phase, memory, places}
use Rattle.theory.proofs.Phases.{At}
use Rattle.theory.proofs.Overwriting.{LiveIn, closed_at, place_at, stands_at}

pub barrier_phase : (h : Heap) (n : ℕ) (ph : Phase) → (barrier_in h n ph).phase ≡ h.phase
barrier_phase h n idle = refl
barrier_phase h n (roots i) = grey_block_phase h (current h.pages n) (block_at h.pages (current h.pages n))
barrier_phase h n marking = grey_block_phase h (current h.pages n) (block_at h.pages (current h.pages n))
barrier_phase h n (sweeping g) = refl
barrier_phase h n (moving k s i) = refl

-- a number in a place, or in a block that counts, leads to its current block in one step
pub once : (T : ℕ → Type 0) (ns : List Record) (ys : List ℕ) (own : ℕ → ℕ) (ph : Phase) (xs : List ℕ) (h : Heap) → At T ns ys own ph xs h → (r : ℕ)
    → NilOr (LiveIn ph (memory h)) r → form (memory h) (form (memory h) r) ≡ form (memory h) r
once T ns ys own idle xs h a r n = form_twice a.stands.sound r
once T ns ys own (roots i) xs h a r n = form_twice a.marks.colours.ok.sound r
once T ns ys own marking xs h a r n = form_twice a.marks.colours.ok.sound r
once T ns ys own (sweeping g) xs h a r (inl e) = ap (λ j. form (memory h) (form (memory h) j)) e ∙ sym (ap (form (memory h)) e)
once T ns ys own (sweeping g) xs h a r (inr l) =
    let e : form (memory h) r ≡ r = ap forward_of l.is ∙ ⊎_elim (λ (p : page_of r < g). (a.swept r l.block l.is p).0) (λ t. a.marked r l.block l.is t) l.kept in
    ap (form (memory h)) e
once T ns ys own (moving k src targets) xs h a r n = form_twice a.stands.sound r

pub pages_at : (T : ℕ → Type 0) (ns : List Record) (ys : List ℕ) (own : ℕ → ℕ) (ph : Phase) (xs : List ℕ) (h : Heap) → At T ns ys own ph xs h
    → PagesOk h.pages
pages_at T ns ys own idle xs h a = a.pages
pages_at T ns ys own (roots i) xs h a = a.marks.colours.ok.pages
pages_at T ns ys own marking xs h a = a.marks.colours.ok.pages
pages_at T ns ys own (sweeping g) xs h a = a.pages
pages_at T ns ys own (moving k src targets) xs h a = a.pages

-- the store stands for the graph
pub record StoreStands (T : ℕ → Type 0) (s : State) (g : View) (own : ℕ → ℕ) : Type 0 where
  pub at : At T g.records (g.holder ++ g.agenda) own s.heap.phase (places s) s.heap
  pub many : length s.holder ≡ length g.holder
  pub wide : length s.agenda ≡ length g.agenda

abbrev pub graph_place : View → ℕ → ℕ
graph_place g q = get_or g.holder q 0

abbrev pub graph_overwritten : View → ℕ → ℕ → View
graph_overwritten g p v = record { records = g.records; holder = set g.holder p v; agenda = g.agenda }

abbrev pub graph_planned : View → ℕ → ℕ → View
graph_planned g i v = record { records = g.records; holder = g.holder; agenda = set g.agenda i v }

abbrev pub graph_put : View → ℕ → Record → View
graph_put g x d = record { records = put_record g.records x d; holder = g.holder; agenda = g.agenda }

abbrev pub agenda_overwrite : State → ℕ → ℕ → State
agenda_overwrite s i n = with_agenda (with_heap s (barrier s.heap (get_or s.agenda i 0))) (set s.agenda i n)

abbrev pub LiveNow : State → ℕ → Type 0
LiveNow s = LiveIn s.heap.phase (memory s.heap)

module _ {T : ℕ → Type 0} {s : State} {g : View} {own : ℕ → ℕ} (a : StoreStands T s g own) where
  pub memory_stands : StandsFor (memory s.heap) (LiveNow s) own g.records (places s) (g.holder ++ g.agenda)
  memory_stands = stands_at T g.records (g.holder ++ g.agenda) own s.heap.phase (places s) s.heap a.at

  pub wanted_closed : Closed T g.records (g.holder ++ g.agenda)
  wanted_closed = closed_at T g.records (g.holder ++ g.agenda) own s.heap.phase (places s) s.heap a.at

  pub form_once : (r : ℕ) → NilOr (LiveNow s) r → form (memory s.heap) (form (memory s.heap) r) ≡ form (memory s.heap) r
  form_once = once T g.records (g.holder ++ g.agenda) own s.heap.phase (places s) s.heap a.at

  pub form_nil_or : (r : ℕ) → NilOr (LiveNow s) r → NilOr (LiveNow s) (form (memory s.heap) r)
  form_nil_or r n = nil_or_form refl memory_stands r n

  pub form_owner : (r : ℕ) → NilOr (LiveNow s) r → own (form (memory s.heap) r) ≡ own r
  form_owner r n = owner_form refl memory_stands r n

  holder_in : (q : ℕ) → q < length s.holder → In (places s) (get_or s.holder q 0)
  holder_in q l = record { at = q; inside = rw (length-append s.holder s.agenda) (omega arith); is = get_or_append_left s.holder s.agenda 0 q l }

  agenda_in : (i : ℕ) → i < length s.agenda → In (places s) (get_or s.agenda i 0)
  agenda_in i l = record { at = length s.holder + i; inside = rw (length-append s.holder s.agenda) (omega arith); is = get_or-append-add s.holder s.agenda i 0 }

  pub holder_nil_or : (q : ℕ) → NilOr (LiveNow s) (get_or s.holder q 0)
  holder_nil_or q = ⊎_elim (λ l. memory_stands.roots (get_or s.holder q 0) (holder_in q l)) (λ l. inl (get_or_past s.holder q 0 l)) (cases_lt q (length s.holder))

  pub agenda_nil_or : (i : ℕ) → NilOr (LiveNow s) (get_or s.agenda i 0)
  agenda_nil_or i = ⊎_elim (λ l. memory_stands.roots (get_or s.agenda i 0) (agenda_in i l)) (λ l. inl (get_or_past s.agenda i 0 l)) (cases_lt i (length s.agenda))

  pub holder_wanted : (q : ℕ) → q < length s.holder → T (own (get_or s.holder q 0))
  holder_wanted q l = place_wanted memory_stands wanted_closed _ (holder_in q l)

  pub agenda_wanted : (i : ℕ) → i < length s.agenda → T (own (get_or s.agenda i 0))
  agenda_wanted i l = place_wanted memory_stands wanted_closed _ (agenda_in i l)

  -- the graph's place
  pub holder_owner : (q : ℕ) → q < length s.holder → own (get_or s.holder q 0) ≡ get_or g.holder q 0
  unfolding holder_in
  holder_owner q l =
      let i = holder_in q l in
      ap own (sym i.is)
      ∙ sym (get_or-map own (places s) q 0 0 i.inside)
      ∙ ap (λ (zs : List ℕ). get_or zs q 0) memory_stands.holds
      ∙ get_or_append_left g.holder g.agenda 0 q (omega (arith, a.many))

  pub agenda_owner : (i : ℕ) → own (get_or s.agenda i 0) ≡ get_or g.agenda i 0
  unfolding agenda_in
  agenda_owner i =
      ⊎_elim
      (λ (l : i < length s.agenda).
      let j = agenda_in i l in
      ap own (sym j.is)
      ∙ sym (get_or-map own (places s) (length s.holder + i) 0 0 j.inside)
      ∙ ap (λ (zs : List ℕ). get_or zs (length s.holder + i) 0) memory_stands.holds
      ∙ ap (λ k. get_or (g.holder ++ g.agenda) (k + i) 0) a.many
      ∙ get_or-append-add g.holder g.agenda i 0)
      (λ (l : length s.agenda ≤ i).
      ap own (get_or_past s.agenda i 0 l) ∙ memory_stands.none ∙ sym (get_or_past g.agenda i 0 (omega (arith, a.wide, l))))
      (cases_lt i (length s.agenda))

  pub place_owner : (q : ℕ) → q < length s.holder → own (place s q) ≡ get_or g.holder q 0
  place_owner q l = form_owner _ (holder_nil_or q) ∙ holder_owner q l

  -- a place, of the holder or of the agenda, is overwritten by a current number
  overwritten_at : {ys zs : List ℕ} {x : ℕ} (j v : ℕ) → get_or (places s) j 0 ≡ x → set (places s) j v ≡ zs
      → set (g.holder ++ g.agenda) j (own v) ≡ ys
      → NilOr (LiveNow s) v → form (memory s.heap) v ≡ v → T (own v)
      → At T g.records ys own (barrier s.heap x).phase zs (barrier s.heap x)
  overwritten_at {ys} {zs} {x} j v e f h n d t =
      let ph = s.heap.phase in
      let lost : ℕ → Heap = λ y. barrier_in s.heap y s.heap.phase in
      subst (λ (p : Phase). At T g.records ys own p zs (barrier s.heap x)) (sym (barrier_phase s.heap x ph))
      (subst (λ (y : ℕ). At T g.records ys own ph zs (lost y)) e
      (subst (λ (z : List ℕ). At T g.records ys own ph z (lost (get_or (places s) j 0))) f
      (subst (λ (z : List ℕ). At T g.records z own ph (set (places s) j v) (lost (get_or (places s) j 0))) h
      (place_at T g.records (g.holder ++ g.agenda) own ph (places s) s.heap j v n d t a.at))))

  pub overwrite_stands : (p v : ℕ) → p < length s.holder → NilOr (LiveNow s) v → form (memory s.heap) v ≡ v → T (own v)
      → StoreStands T (overwrite s p v) (graph_overwritten g p (own v)) own
  overwrite_stands p v l n d t = record {
    at = overwritten_at p v (get_or_append_left s.holder s.agenda 0 p l) (set-append_left s.holder s.agenda p v l)
        (set-append_left g.holder g.agenda p (own v) (omega (arith, a.many))) n d t;
    many = length-set s.holder p v ∙ a.many ∙ sym (length-set g.holder p (own v));
    wide = a.wide;
  }

  pub agenda_stands : (i v : ℕ) → NilOr (LiveNow s) v → form (memory s.heap) v ≡ v → T (own v)
      → StoreStands T (agenda_overwrite s i v) (graph_planned g i (own v)) own
  agenda_stands i v n d t =
      let k = length s.holder in
      let back : k + i - k ≡ i = omega arith in
      record {
        at = overwritten_at (k + i) v (get_or-append-add s.holder s.agenda i 0)
            (set-append_right s.holder s.agenda k (k + i) v refl (omega arith) ∙ ap (λ j. s.holder ++ set s.agenda j v) back)
            (set-append_right g.holder g.agenda k (k + i) (own v) (sym a.many) (omega arith) ∙ ap (λ j. g.holder ++ set g.agenda j (own v)) back)
            n d t;
        many = a.many;
        wide = length-set s.agenda i v ∙ a.wide ∙ sym (length-set g.agenda i (own v));
      }

  -- the current form of a named number goes into a place
  pub overwrite_form : (p r : ℕ) → p < length s.holder → NilOr (LiveNow s) r → T (own r)
      → StoreStands T (overwrite s p (form (memory s.heap) r)) (graph_overwritten g p (own r)) own
  overwrite_form p r l n t =
      subst (λ y. StoreStands T (overwrite s p (form (memory s.heap) r)) (graph_overwritten g p y) own) (form_owner r n)
      (overwrite_stands p (form (memory s.heap) r) l (form_nil_or r n) (form_once r n) (subst T (sym (form_owner r n)) t))

  pub agenda_form : (i r : ℕ) → NilOr (LiveNow s) r → T (own r)
      → StoreStands T (agenda_overwrite s i (form (memory s.heap) r)) (graph_planned g i (own r)) own
  agenda_form i r n t =
      subst (λ y. StoreStands T (agenda_overwrite s i (form (memory s.heap) r)) (graph_planned g i y) own) (form_owner r n)
      (agenda_stands i (form (memory s.heap) r) (form_nil_or r n) (form_once r n) (subst T (sym (form_owner r n)) t))

  pub copy_stands : (p q : ℕ) → p < length s.holder → q < length s.holder
      → StoreStands T (overwrite s p (place s q)) (graph_overwritten g p (graph_place g q)) own
  copy_stands p q l k = subst (λ y. StoreStands T (overwrite s p (place s q)) (graph_overwritten g p y) own) (holder_owner q k) (overwrite_form p (get_or s.holder q 0) l (holder_nil_or q) (holder_wanted q k))

  pub clear_stands : (p : ℕ) → p < length s.holder → StoreStands T (overwrite s p 0) (graph_overwritten g p 0) own
  clear_stands p l = subst (λ y. StoreStands T (overwrite s p 0) (graph_overwritten g p y) own) memory_stands.none (overwrite_stands p 0 l (inl refl) refl (subst T (sym memory_stands.none) wanted_closed.none))

  pub empty_stands : (i : ℕ) → StoreStands T (agenda_overwrite s i 0) (graph_planned g i 0) own
  empty_stands i = subst (λ y. StoreStands T (agenda_overwrite s i 0) (graph_planned g i y) own) memory_stands.none (agenda_stands i 0 (inl refl) refl (subst T (sym memory_stands.none) wanted_closed.none))

  -- a block that counts belongs to a record
  pub live_record : (n : ℕ) → LiveNow s n
      → (b : Block) × (memory s.heap (form (memory s.heap) n) ≡ Some b) × (b.forward ≡ form (memory s.heap) n) × (find g.records (own n) ≡ Some (record_of own b))
  live_record n l =
      let x = memory_stands.there n l in
      let q : form (memory s.heap) n ≡ x.0.forward = ap forward_of x.1 in
      let c : LiveNow s (form (memory s.heap) n) = subst (LiveNow s) (sym q) x.2 in
      let y = memory_stands.there (form (memory s.heap) n) c in
      let f : y.0.forward ≡ form (memory s.heap) n = sym (ap forward_of y.1) ∙ form_once n (inr l) in
      (y.0, y.1, f, ap (find g.records) (sym (form_owner n (inr l))) ∙ memory_stands.contents (form (memory s.heap) n) y.0 c y.1 f)

  pub live_owner : (n : ℕ) → LiveNow s n → (0 < own n) × (own n ≤ length g.records)
  live_owner n l = let x = live_record n l in find_in g.records (own n) _ x.3

  -- the block of a place, and the record of the graph's place
  pub place_live : (q : ℕ) (b : Block) → block_in s q ≡ Some b → LiveNow s (place s q) × (b.forward ≡ place s q)
  place_live q b e = (
    ⊎_elim
        (λ (z : place s q ≡ 0). none_some b (sym (ap (memory s.heap) z) ∙ e))
        (λ i. i)
        (form_nil_or (get_or s.holder q 0) (holder_nil_or q)),
    sym (ap forward_of e) ∙ form_once (get_or s.holder q 0) (holder_nil_or q),
  )

  pub place_record : (q : ℕ) → q < length s.holder → (b : Block) → block_in s q ≡ Some b
      → find g.records (graph_place g q) ≡ Some (record_of own b)
  place_record q l b e =
      let x = place_live q b e in
      ap (find g.records) (sym (place_owner q l)) ∙ memory_stands.contents (place s q) b x.0 e x.1

  pub place_form_wanted : (q : ℕ) → q < length s.holder → T (own (place s q))
  place_form_wanted q l = subst T (sym (place_owner q l)) (subst T (holder_owner q l) (holder_wanted q l))
