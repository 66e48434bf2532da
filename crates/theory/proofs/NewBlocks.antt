-- A new block, in every phase.
use Rattle.std.proofs.Common.{◌≡◌, ℕ, suc, ◌+◌, ◌<◌, ◌≤◌, Bool, true, false, leb, ◌≢◌, ◌⊎◌, List, [], ◌∷◌, ◌++◌, length, get_or, replicate, Some, None, Option, sym, refl, ap, ◌∙◌, subst, inl, inr, ⊎_elim, arith}
use Rattle.std.proofs.lemmas.List.{length-append}
use Rattle.std.proofs.lemmas.Bool.{cases_eq, cases_lt, le-leb, lt-leb}
use Rattle.model.specs.Pages.{Block, Page, block_at, forward_of, page_at, page_of, put_block}
use Rattle.model.specs.State.{Heap, Phase, idle, marking, moving, roots, sweeping, with_pages}
use Rattle.model.specs.Making.{allocated_marked}
use Rattle.model.specs.Graph.{Record}
use Rattle.model.specs.Runs.{put}
use Rattle.theory.proofs.PageShapes.{frame_put}
use Rattle.theory.proofs.Lists.{In, in_zeros, none_some, some_same}
use Rattle.theory.proofs.Memory.{HasBlock, Marked, Mem, OneBlockEach, Wrote, form, keeps_marked}
use Rattle.theory.proofs.WhiteChains.{Chain, Pending, covers_step, new_forwarding, new_keeps, new_step}
use Rattle.theory.proofs.Pages.{Made}
use Rattle.theory.proofs.Records.{blank, find, push_cases}
use Rattle.theory.proofs.StandsFor.{And, StandsFor, alike_stands, new_block_stands, put_elsewhere, put_here}
use Rattle.theory.proofs.WantedSet.{Closed}
use Rattle.theory.proofs.Greying.{Unscanned, memory}
use Rattle.theory.proofs.Colours.{Wanted}
use Rattle.theory.proofs.Scanning.{WhileMarking}
use Rattle.theory.proofs.Sweeping.{Live}
use Rattle.theory.proofs.Moving.{Aims, MovePhase, Settled}
use Rattle.theory.proofs.Phases.{At}
use Rattle.theory.proofs.Overwriting.{LiveIn}

-- in a page still to be swept the new block is marked
made_side : {ps qs : List Page} {n g : ℕ} {t : Bool} → Made ps qs n g → (k : ℕ) → t ≡ leb k g → (page_of n < k) ⊎ (t ≡ true)
made_side {g = g} made k e =
    ⊎_elim (λ (z : g < k). inl (omega (arith, made.page, z))) (λ (z : k ≤ g). inr (e ∙ le-leb k g z)) (cases_lt g k)

-- the new block is live in every phase, and current
pub new_live : {ps qs : List Page} {n g : ℕ} → Made ps qs n g → (b : Block) (ph : Phase) → b.marked ≡ allocated_marked ph g
    → LiveIn ph (block_at (put_block qs n b)) n
new_live made b idle e = (b, (made.wrote b).same)
new_live made b (roots i) e = (b, (made.wrote b).same)
new_live made b marking e = (b, (made.wrote b).same)
new_live made b (sweeping k) e = record { block = b; is = (made.wrote b).same; kept = made_side made k e }
new_live made b (moving k source targets) e = (b, (made.wrote b).same)

pub new_form : {ps qs : List Page} {n g : ℕ} → Made ps qs n g → (b : Block) → b.forward ≡ n → form (block_at (put_block qs n b)) n ≡ n
new_form made b f = ap forward_of (made.wrote b).same ∙ f

module _ (T : ℕ → Type 0) (ns : List Record) (ys : List ℕ) (own : ℕ → ℕ) (xs : List ℕ) (h : Heap) (qs : List Page) (n g : ℕ) (r d : ℕ) (mk : Bool)
    (made : Made h.pages qs n g) (zf : memory h 0 ≡ None) where
  abbrev made_block : Block
  made_block = record { forward = n; marked = mk; refs = replicate r 0; words = replicate d 0 }

  abbrev made_pages : List Page
  made_pages = put_block qs n made_block

  abbrev made_owner : ℕ → ℕ
  made_owner = put own n (suc (length ns))

  abbrev made_records : List Record
  made_records = ns ++ blank r d ∷ []

  abbrev made_memory : Mem
  made_memory = block_at made_pages

  made_wrote : Wrote (memory h) made_memory n made_block
  made_wrote = made.wrote made_block

  made_there : (m : ℕ) (x : Block) → memory h m ≡ Some x → made_memory m ≡ Some x
  made_there m x e = made_wrote.other m (λ f. none_some x (sym made.free ∙ sym (ap (memory h) f) ∙ e)) ∙ e

  made_was : (m : ℕ) (x : Block) → made_memory m ≡ Some x → ((m ≡ n) × (x ≡ made_block)) ⊎ (memory h m ≡ Some x)
  made_was m x e =
      ⊎_elim
      (λ (f : m ≡ n). inl (f, some_same (sym (ap made_memory f) ∙ e) made_wrote.same))
      (λ (f : m ≡ n → ⊥). inr (sym (made_wrote.other m f) ∙ e))
      (cases_eq m n)

  made_form : (q : ℕ) → form (memory h) q ≡ q → form made_memory q ≡ q
  made_form q e =
      ⊎_elim
      (λ (f : q ≡ n). ap forward_of (ap made_memory f ∙ made_wrote.same) ∙ sym f)
      (λ (f : q ≡ n → ⊥). ap forward_of (made_wrote.other q f) ∙ e)
      (cases_eq q n)

  made_owner_other : (m : ℕ) (x : Block) → memory h m ≡ Some x → made_owner m ≡ own m
  made_owner_other m x e = put_elsewhere own n (suc (length ns)) m (λ f. none_some x (sym made.free ∙ sym (ap (memory h) f) ∙ e))

  made_closed : Closed T ns ys → Closed T made_records ys
  made_closed k = record {
    none = k.none;
    roots = k.roots;
    refs = λ x e y t f i. ⊎_elim
        (λ a. k.refs x e y t a i)
        (λ a. subst T (sym (in_zeros r y (subst (λ (z : Record). In z.refs y) a.1 i))) k.none)
        (push_cases ns (blank r d) x e f);
    more = λ x l. k.more x (let q : length made_records ≡ length ns + 1 = length-append ns (blank r d ∷ []) in omega (arith, q, l));
  }

  made_stands : (L K : ℕ → Type 0) → ((m : ℕ) → K m → And L n m) → ((m : ℕ) → And L n m → K m) → StandsFor (memory h) L own ns xs ys
      → StandsFor made_memory K made_owner made_records xs ys
  made_stands L K f k s = alike_stands f k (new_block_stands s made.named made.free r d made_wrote refl refl refl)

  made_all : (L K : ℕ → Type 0) → ((m : ℕ) → And L n m → K m) → ((m : ℕ) → L m → HasBlock (memory h) m)
      → ((x : ℕ) (e : Record) → T x → find ns x ≡ Some e → (m : ℕ) × L m × (form (memory h) m ≡ m) × (own m ≡ x))
      → (x : ℕ) (e : Record) → T x → find made_records x ≡ Some e → (m : ℕ) × K m × (form made_memory m ≡ m) × (made_owner m ≡ x)
  made_all L K k o a x e t f =
      ⊎_elim
      (λ b.
      let y = a x e t b in let z = o y.0 y.1 in
      (y.0, k y.0 (inl y.1), made_form y.0 y.2, made_owner_other y.0 z.0 z.1 ∙ y.3))
      (λ b. (n, k n (inr refl), ap forward_of made_wrote.same, put_here own n (suc (length ns)) n refl ∙ sym b.0))
      (push_cases ns (blank r d) x e f)

  made_only : (L K : ℕ → Type 0) → Closed T ns ys → ((m : ℕ) → K m → And L n m) → ((m : ℕ) → L m → HasBlock (memory h) m)
      → ((m : ℕ) → L m → T (own m)) → (m : ℕ) → K m → T (made_owner m)
  made_only L K c f o a m i =
      ⊎_elim
      (λ l. let z = o m l in subst T (sym (made_owner_other m z.0 z.1)) (a m l))
      (λ (e : m ≡ n). subst T (sym (put_here own n (suc (length ns)) m e)) (c.more (suc (length ns)) (omega arith)))
      (f m i)

  made_has_block : (m : ℕ) → And (HasBlock (memory h)) n m → HasBlock made_memory m
  made_has_block m (inl o) = (o.0, made_there m o.0 o.1)
  made_has_block m (inr e) = (made_block, ap made_memory e ∙ made_wrote.same)

  made_has_block_back : (m : ℕ) → HasBlock made_memory m → And (HasBlock (memory h)) n m
  made_has_block_back m o = ⊎_elim (λ p. inr p.0) (λ e. inl (o.0, e)) (made_was m o.0 o.1)

  made_settled : Closed T ns ys → Settled T ns xs ys own (memory h) → Settled T made_records xs ys made_owner made_memory
  made_settled c s = record {
    sound = new_forwarding zf made.named made.free made_wrote refl s.sound;
    mirror = made_stands (HasBlock (memory h)) (HasBlock made_memory) made_has_block_back made_has_block s.mirror;
    held = record {
      only = made_only (HasBlock (memory h)) (HasBlock made_memory) c made_has_block_back (λ m o. o) s.held.only;
      all = made_all (HasBlock (memory h)) (HasBlock made_memory) made_has_block (λ m o. o) s.held.all;
    };
  }

  made_clean : mk ≡ false → ((m : ℕ) (x : Block) → memory h m ≡ Some x → x.marked ≡ false) → (m : ℕ) (x : Block) → made_memory m ≡ Some x
      → x.marked ≡ false
  made_clean e c m x f = ⊎_elim (λ p. ap (λ (z : Block). z.marked) p.1 ∙ e) (λ i. c m x i) (made_was m x f)

  made_marking : mk ≡ true → (Q : ℕ → Type 0) → Closed T ns ys → WhileMarking T own ns xs ys (λ m. ⊥) Q h
      → WhileMarking T made_owner made_records xs ys (λ m. ⊥) Q (with_pages h made_pages)
  made_marking e Q k m = record {
    colours = record {
      ok = record {
        pages = made.pages made_block;
        sound = new_forwarding zf made.named made.free made_wrote refl m.colours.ok.sound;
        works = λ j i. keeps_marked (memory h) made_memory j (new_keeps zf made.named made.free made_wrote) (m.colours.ok.works j i);
      };
      cover = cover;
      direct = direct;
      black = λ j x. ⊎_elim
          (λ p. subst T (sym (put_here own n (suc (length ns)) j p.0)) (k.more (suc (length ns)) (omega arith)))
          (λ f. subst T (sym (made_owner_other j x.block f)) (m.colours.black j (record { block = x.block; is = f; marked = x.marked })))
          (made_was j x.block x.is);
    };
    mirror = made_stands (HasBlock (memory h)) (HasBlock made_memory) made_has_block_back made_has_block m.mirror;
    all = made_all (HasBlock (memory h)) (HasBlock made_memory) made_has_block (λ j o. o) m.all;
  }
    where
      cover : (j : ℕ) → Wanted T made_owner made_memory j → Marked made_memory j ⊎ Chain made_memory (Pending Q made_memory h.work) j
      cover j w =
          ⊎_elim
          (λ p. inl (record { block = made_block; is = ap made_memory p.0 ∙ made_wrote.same; marked = e }))
          (λ f. covers_step (Wanted T own (memory h))
          (new_step zf made.named made.free made_wrote Q h.work) m.colours.cover j
          (record { block = w.block; is = f; here = w.here; wanted = subst T (made_owner_other j w.block f) w.wanted }))
          (made_was j w.block w.is)

      direct : (j : ℕ) (b : Block) (q : ℕ) → made_memory j ≡ Some b → b.marked ≡ true → (In h.work j → ⊥) → (⊥ → ⊥) → In b.refs q
          → form made_memory q ≡ q
      direct j b q f u off ne i =
          ⊎_elim
          (λ p.
          let z : q ≡ 0 = in_zeros r q (subst (λ (y : Block). In y.refs q) p.1 i) in
          made_form q (ap forward_of (ap (memory h) z ∙ zf) ∙ sym z))
          (λ a. made_form q (m.colours.direct j b q a u off ne i))
          (made_was j b f)

  made_one_each : OneBlockEach own (memory h) (length ns) → OneBlockEach made_owner made_memory (length made_records)
  made_one_each s = record { one = λ m j i k a b e. one m j (made_has_block_back m i) (made_has_block_back j k) a b e; most = λ m i a. most m (made_has_block_back m i) a }
    where
      was_cur : (m : ℕ) (o : HasBlock (memory h) m) → form made_memory m ≡ m → form (memory h) m ≡ m
      was_cur m o a = ap forward_of o.1 ∙ sym (ap forward_of (made_there m o.0 o.1)) ∙ a

      low : (m : ℕ) (o : HasBlock (memory h) m) → form made_memory m ≡ m → made_owner m ≤ length ns
      low m o a = subst (λ x. x ≤ length ns) (sym (made_owner_other m o.0 o.1)) (s.most m o (was_cur m o a))

      new : (m : ℕ) → m ≡ n → made_owner m ≡ suc (length ns)
      new m e = put_here own n (suc (length ns)) m e

      one : (m j : ℕ) → And (HasBlock (memory h)) n m → And (HasBlock (memory h)) n j → form made_memory m ≡ m → form made_memory j ≡ j
          → made_owner m ≡ made_owner j → m ≡ j
      one m j (inl i) (inl k) a b e = s.one m j i k (was_cur m i a) (was_cur j k b) (sym (made_owner_other m i.0 i.1) ∙ e ∙ made_owner_other j k.0 k.1)
      one m j (inl i) (inr k) a b e = absurd (omega (arith, low m i a, new j k, e))
      one m j (inr i) (inl k) a b e = absurd (omega (arith, low j k b, new m i, e))
      one m j (inr i) (inr k) a b e = i ∙ sym k

      most : (m : ℕ) → And (HasBlock (memory h)) n m → form made_memory m ≡ m → made_owner m ≤ length made_records
      most m (inl i) a = let q : length made_records ≡ length ns + 1 = length-append ns (blank r d ∷ []) in omega (arith, low m i a, q)
      most m (inr i) a = let q : length made_records ≡ length ns + 1 = length-append ns (blank r d ∷ []) in omega (arith, new m i, q)

  made_live : (k : ℕ) → ((page_of n < k) ⊎ (mk ≡ true)) → (m : ℕ) → And (Live k (memory h)) n m → Live k made_memory m
  made_live k c m (inl l) = record { block = l.block; is = made_there m l.block l.is; kept = l.kept }
  made_live k c m (inr e) = record { block = made_block; is = ap made_memory e ∙ made_wrote.same; kept = subst (λ j. (page_of j < k) ⊎ (mk ≡ true)) (sym e) c }

  made_live_back : (k m : ℕ) → Live k made_memory m → And (Live k (memory h)) n m
  made_live_back k m l = ⊎_elim (λ p. inr p.0) (λ e. inl (record { block = l.block; is = e; kept = l.kept })) (made_was m l.block l.is)

  -- the pages that are closed stay so
  module _ (keeps : (j : ℕ) → (page_at h.pages j).size ≢ 0 → page_at qs j ≡ page_at h.pages j) where
    made_aims : mk ≡ false → (targets : ℕ) → Aims h.pages targets → Aims made_pages targets
    made_aims e targets a = record {
      aims = λ m x f. ⊎_elim (λ p. inl (ap (λ (z : Block). z.forward) p.1 ∙ sym p.0)) (λ i. a.aims m x i) (made_was m x f);
      clean = made_clean e a.clean;
    }

    made_phased : mk ≡ false → (k : ℕ) (source : Option ℕ) (targets : ℕ) → MovePhase (moving k source targets) h.pages
        → MovePhase (moving k source targets) made_pages
    made_phased e k None targets a = (a.0, made_aims e targets a.1)
    made_phased e k (Some j) targets a =
        let q = keeps j a.2.cut in (
          a.0,
          made_aims e targets a.1,
          record {
            shut = (frame_put qs n made_block).closed j ∙ ap (λ (p : Page). p.closed) q ∙ a.2.shut;
            cut = λ z. a.2.cut (sym ((frame_put qs n made_block).size j ∙ ap (λ (p : Page). p.size) q) ∙ z);
            apart = a.2.apart;
          },
        )

    pub new_at : (ph : Phase) → mk ≡ allocated_marked ph g → At T ns ys own ph xs h → At T made_records ys made_owner ph xs (with_pages h made_pages)
    new_at idle e a = record { closed = made_closed a.closed; pages = made.pages made_block; stands = made_settled a.closed a.stands; clean = made_clean e a.clean }
    new_at (roots i) e a = record { closed = made_closed a.closed; marks = made_marking e (Unscanned xs i) a.closed a.marks; fresh = λ j l. made_form (get_or xs j 0) (a.fresh j l) }
    new_at marking e a = record { closed = made_closed a.closed; marks = made_marking e (λ q. ⊥) a.closed a.marks; fresh = λ q i. made_form q (a.fresh q i) }
    new_at (sweeping k) e a = record {
      closed = made_closed a.closed;
      pages = made.pages made_block;
      below = a.below;
      mirror = made_stands (Live k (memory h)) (Live k made_memory) (made_live_back k) (made_live k (made_side made k e)) a.mirror;
      held = record {
        only = made_only (Live k (memory h)) (Live k made_memory) a.closed (made_live_back k) (λ m l. (l.block, l.is)) a.held.only;
        all = made_all (Live k (memory h)) (Live k made_memory) (made_live k (made_side made k e)) (λ m l. (l.block, l.is)) a.held.all;
      };
      swept = λ m x f l. ⊎_elim
          (λ p. (
            ap (λ (z : Block). z.forward) p.1 ∙ sym p.0,
            ap (λ (z : Block). z.marked) p.1 ∙ e ∙ ⊎_elim (λ (z : k ≤ g). absurd (omega (arith, made.page, ap page_of p.0, l))) (λ (z : g < k). lt-leb k g z) (cases_le k g),
          ))
          (λ i. a.swept m x i l)
          (made_was m x f);
      marked = λ m x f t. ⊎_elim (λ p. ap (λ (z : Block). z.forward) p.1 ∙ sym p.0) (λ i. a.marked m x i t) (made_was m x f);
      single = made_one_each a.single;
    }
      where
        cases_le : (i j : ℕ) → (i ≤ j) ⊎ (j < i)
        cases_le i j = ⊎_elim inr inl (cases_lt j i)
    new_at (moving k source targets) e a = record { closed = made_closed a.closed; pages = made.pages made_block; stands = made_settled a.closed a.stands; phased = made_phased e k source targets a.phased }
