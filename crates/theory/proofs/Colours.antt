-- What roots and marking keep besides: marked blocks belong to wanted records, and what is scanned names current blocks.
use Rattle.std.proofs.Common.{◌≡◌, ℕ, suc, ◌<◌, true, ◌⊎◌, List, [], ◌∷◌, get_or, drop, set, Some, Option, sym, refl, ap, ◌∙◌, subst, inl, inr, ⊎_elim, arith}
use Rattle.std.proofs.lemmas.List.{drop-set-lt, get_or-set_other, get_or-set_same}
use Rattle.std.proofs.lemmas.Bool.{cases_eq}
use Rattle.model.specs.Pages.{Block, block_at, put_block, refs_of}
use Rattle.model.specs.State.{Heap, with_pages, with_work}
use Rattle.model.specs.Units.{grey, rescan, scan, with_refs}
use Rattle.theory.proofs.Lists.{In, drop_front, drop_none, in_cons, in_head, in_none, in_set, in_set_same, in_tail, some_same}
use Rattle.theory.proofs.Memory.{Alike, Marked, Mem, White, Wrote, bare, bare_alike, form, form_twice, wrote_all_marked, wrote_back, wrote_form, wrote_forwarding}
use Rattle.theory.proofs.WhiteChains.{Pended, Pending, covers_step, covers_sub, refs_marked_back, refs_step, shrink_step}
use Rattle.theory.proofs.Pages.{put_ok, wrote_put}
use Rattle.theory.proofs.Greying.{Cover, Greyed, HeapOk, OrIn, forget, grey_done, greyed_form, memory}

-- a current block whose record is wanted
pub record Wanted (T : ℕ → Type 0) (own : ℕ → ℕ) (M : Mem) (n : ℕ) : Type 0 where
  pub block : Block
  pub is : M n ≡ Some block
  pub here : block.forward ≡ n
  pub wanted : T (own n)

-- the references of marked blocks, but for those on the work list and in `E`, are current forms
abbrev pub Direct : Heap → (ℕ → Type 0) → Type 0
Direct h E = (m : ℕ) (b : Block) (r : ℕ) → memory h m ≡ Some b → b.marked ≡ true → (In h.work m → ⊥) → (E m → ⊥) → In b.refs r → form (memory h) r ≡ r

-- `T` are the wanted records; a block in `E` is under scan, and `Q` are the numbers that are pending besides the work list's
pub record Coloured (T : ℕ → Type 0) (own : ℕ → ℕ) (E Q : ℕ → Type 0) (h : Heap) : Type 0 where
  pub ok : HeapOk h
  pub cover : Cover (Wanted T own (memory h)) Q h
  pub direct : Direct h E
  pub black : (m : ℕ) → Marked (memory h) m → T (own m)

module _ {T : ℕ → Type 0} {own : ℕ → ℕ} where
  wanted_bare : (M N : Mem) → ((m : ℕ) → bare (N m) ≡ bare (M m)) → (n : ℕ) → Wanted T own N n → Wanted T own M n
  wanted_bare M N e n w =
      let a : Alike (M n) w.block = bare_alike (M n) w.block (sym (e n) ∙ ap bare w.is) in
      record { block = a.block; is = a.is; here = a.forward ∙ w.here; wanted = w.wanted }

  pub coloured_greyed : {E Q : ℕ → Type 0} {h k : Heap} {n : ℕ} → T (own (form (memory h) n)) → Greyed h k n → Coloured T own E Q h
      → Coloured T own E Q k
  coloured_greyed {E} {Q} {h} {k} {n} t g c = record {
    ok = g.ok;
    cover = covers_sub _ _ (memory k) _ (wanted_bare (memory h) (memory k) g.bared) (g.cover (Wanted T own (memory h)) Q c.cover);
    direct = direct;
    black = λ m x. ⊎_elim (λ y. c.black m y) (λ p. subst (λ j. T (own j)) (sym p.0) t) (g.marks m x);
  }
    where
      direct : Direct k E
      direct m b r e u off ne i =
          ⊎_elim
          (λ (x : Marked (memory h) m).
          let a : Alike (memory h m) b = bare_alike (memory h m) b (sym (g.bared m) ∙ ap bare e) in
          let q : x.block ≡ a.block = some_same x.is a.is in
          greyed_form g r
          ∙ c.direct m x.block r x.is x.marked (λ j. off (g.lists m j)) ne (subst (λ l. In l r) (sym (ap (λ (y : Block). y.refs) q ∙ a.refs)) i))
          (λ p. absurd (off p.1))
          (g.marks m (record { block = b; is = e; marked = u }))

  pub coloured_forget : {E Q R : ℕ → Type 0} (h : Heap) → ((r : ℕ) → Q r → White (memory h) (form (memory h) r) → R r) → Coloured T own E Q h
      → Coloured T own E R h
  coloured_forget {E} {Q} {R} h f c = record { ok = c.ok; cover = forget (Wanted T own (memory h)) Q R h f c.cover; direct = c.direct; black = c.black }

  -- the references of a block are written
  module _ {E Q : ℕ → Type 0} {h : Heap} (n : ℕ) {b : Block} (c : Block) (is : memory h n ≡ Some b) (fw : c.forward ≡ b.forward)
      (mk : c.marked ≡ b.marked)
      (old : (r k : ℕ) → In b.refs r → form (memory h) r ≡ k → White (memory h) k → (s : ℕ) × In c.refs s × (form (memory h) s ≡ k))
      (new : (r : ℕ) → (E n → ⊥) → In c.refs r → (In b.refs r) ⊎ (form (memory h) r ≡ r)) where
    pub coloured_write : Coloured T own E Q h → Coloured T own E Q (with_pages h (put_block h.pages n c))
    coloured_write x = record {
      ok = record {
        pages = put_ok n c x.ok.pages;
        sound = wrote_forwarding is wr fw (λ t. fw ∙ x.ok.sound.marks n b is (sym mk ∙ t)) x.ok.sound;
        works = wrote_all_marked is wr fw (λ t. mk ∙ t) h.work x.ok.works;
      };
      cover = covers_sub _ _ N _ want (covers_step (Wanted T own M) (refs_step is wr fw mk old Q h.work) x.cover);
      direct = direct;
      black = λ m y. x.black m (refs_marked_back is wr fw mk m y);
    }
      where
        M : Mem
        M = memory h

        N : Mem
        N = block_at (put_block h.pages n c)

        wr : Wrote M N n c
        wr = wrote_put h.pages n b c is

        want : (m : ℕ) → Wanted T own N m → Wanted T own M m
        want m w =
            ⊎_elim
            (λ p. record { block = b; is = ap M p.0 ∙ is; here = sym fw ∙ sym (ap (λ (y : Block). y.forward) p.1) ∙ w.here; wanted = w.wanted })
            (λ p. record { block = w.block; is = p.1; here = w.here; wanted = w.wanted })
            (wrote_back is wr fw m w.block w.is)

        direct : (m : ℕ) (y : Block) (r : ℕ) → N m ≡ Some y → y.marked ≡ true → (In h.work m → ⊥) → (E m → ⊥) → In y.refs r → form N r ≡ r
        direct m y r e u off ne i =
            wrote_form is wr fw r ∙
            ⊎_elim
            (λ p. ⊎_elim
            (λ j. x.direct n b r is (sym mk ∙ sym (ap (λ (z : Block). z.marked) p.1) ∙ u) (λ k. off (subst (In h.work) (sym p.0) k)) (λ k. ne (subst E (sym p.0) k)) j)
            (λ j. j)
            (new r (λ k. ne (subst E (sym p.0) k)) (subst (λ (z : Block). In z.refs r) p.1 i)))
            (λ p. x.direct m y r p.1 u off ne i)
            (wrote_back is wr fw m y e)

abbrev pub Is : ℕ → ℕ → Type 0
Is n m = m ≡ n

-- block `n` is under scan: `rs` are its references from `f` on, and those before name current blocks
pub record ScanAt (T : ℕ → Type 0) (own : ℕ → ℕ) (h : Heap) (n f : ℕ) (rs : List ℕ) : Type 0 where
  pub block : Block
  pub is : memory h n ≡ Some block
  pub left : rs ≡ drop f block.refs
  pub front : (j : ℕ) → j < f → form (memory h) (get_or block.refs j 0) ≡ get_or block.refs j 0
  pub todo : (r : ℕ) → In rs r → T (own (form (memory h) r))

module _ {T : ℕ → Type 0} {own : ℕ → ℕ} {Q : ℕ → Type 0} {n : ℕ} where
  module _ {h : Heap} {f r : ℕ} {rs : List ℕ} (sc : ScanAt T own h n f (r ∷ rs)) (c : Coloured T own (Is n) (OrIn Q (r ∷ rs)) h) where
    unfoldable pub rescanned_block : Block
    rescanned_block = with_refs sc.block (set sc.block.refs f (form (memory h) r))

    unfoldable pub rescanned_heap : Heap
    rescanned_heap = with_pages h (put_block h.pages n rescanned_block)

    pub rescanned_coloured : Coloured T own (Is n) (OrIn Q (r ∷ rs)) rescanned_heap
    unfolding rescanned_heap rescanned_block
    rescanned_coloured = coloured_write n rescanned_block sc.is refl refl old (λ q ne i. absurd (ne refl)) c
      where
        old : (q k : ℕ) → In sc.block.refs q → form (memory h) q ≡ k → White (memory h) k
            → (s : ℕ) × In (set sc.block.refs f (form (memory h) r)) s × (form (memory h) s ≡ k)
        old q k i e w =
            let d = drop_front sc.block.refs rs f r sc.left in
            ⊎_elim
            (λ j. (q, j, e))
            (λ (g : get_or sc.block.refs f 0 ≡ q). (
              form (memory h) r,
              in_set_same sc.block.refs f (form (memory h) r) d.0,
              form_twice c.ok.sound r ∙ ap (form (memory h)) (sym d.1 ∙ g) ∙ e,
            ))
            (in_set sc.block.refs f (form (memory h) r) i)

    pub rescanned_wrote : Wrote (memory h) (memory rescanned_heap) n rescanned_block
    unfolding rescanned_heap
    rescanned_wrote = wrote_put h.pages n sc.block rescanned_block sc.is

    pub rescanned_form : (q : ℕ) → form (memory rescanned_heap) q ≡ form (memory h) q
    unfolding rescanned_block
    rescanned_form = wrote_form sc.is rescanned_wrote refl

    pub rescanned_greyed : Greyed rescanned_heap (grey rescanned_heap r) r
    rescanned_greyed = grey_done rescanned_heap r rescanned_coloured.ok

    pub scanned_form : (q : ℕ) → form (memory (grey rescanned_heap r)) q ≡ form (memory h) q
    scanned_form q = greyed_form rescanned_greyed q ∙ rescanned_form q

    pub scanned_coloured : Coloured T own (Is n) (OrIn Q rs) (grey rescanned_heap r)
    scanned_coloured =
        coloured_forget (grey rescanned_heap r) go
        (coloured_greyed
        (subst (λ j. T (own j)) (sym (rescanned_form r)) (sc.todo r (in_head r rs))) rescanned_greyed rescanned_coloured)
      where
        go : (q : ℕ) → OrIn Q (r ∷ rs) q → White (memory (grey rescanned_heap r)) (form (memory (grey rescanned_heap r)) q) → OrIn Q rs q
        go q (inl x) v = inl x
        go q (inr i) v =
            ⊎_elim
            (λ (e : r ≡ q). absurd (rescanned_greyed.dark (subst (White (memory (grey rescanned_heap r))) (greyed_form rescanned_greyed q ∙ sym (ap (form (memory rescanned_heap)) e)) v)))
            inr
            (in_cons r rs i)

    pub scanned_next : ScanAt T own (grey rescanned_heap r) n (suc f) rs
    unfolding rescanned_block
    scanned_next =
        let a : Alike (memory (grey rescanned_heap r) n) rescanned_block = bare_alike _ rescanned_block (rescanned_greyed.bared n ∙ ap bare rescanned_wrote.same) in
        let d = drop_front sc.block.refs rs f r sc.left in
        record {
          block = a.block;
          is = a.is;
          left = d.2 ∙ sym (drop-set-lt (suc f) sc.block.refs f (form (memory h) r) (omega arith)) ∙ ap (drop (suc f)) (sym a.refs);
          front = λ j l. scanned_form _ ∙ subst (λ (x : List ℕ). form (memory h) (get_or x j 0) ≡ get_or x j 0) (sym a.refs) (front j l);
          todo = λ q i. subst (λ j. T (own j)) (sym (scanned_form q)) (sc.todo q (in_tail r rs i));
        }
      where
        front : (j : ℕ) → j < suc f
            → form (memory h) (get_or (set sc.block.refs f (form (memory h) r)) j 0) ≡ get_or (set sc.block.refs f (form (memory h) r)) j 0
        front j l =
            let d = drop_front sc.block.refs rs f r sc.left in
            ⊎_elim
            (λ (e : j ≡ f).
            let u : get_or (set sc.block.refs f (form (memory h) r)) j 0 ≡ form (memory h) r
            = ap (λ i. get_or (set sc.block.refs f (form (memory h) r)) i 0) e ∙ get_or-set_same sc.block.refs f (form (memory h) r) 0 d.0 in
            ap (form (memory h)) u ∙ form_twice c.ok.sound r ∙ sym u)
            (λ (ne : j ≡ f → ⊥).
            let u = get_or-set_other sc.block.refs f j (form (memory h) r) 0 ne in
            ap (form (memory h)) u ∙ sc.front j (omega arith) ∙ sym u)
            (cases_eq j f)

    pub scanned_same : rescan h n f r (block_at h.pages n) ≡ grey rescanned_heap r
    unfolding rescanned_heap rescanned_block
    scanned_same = ap (rescan h n f r) sc.is

  pub coloured_scan : (rs : List ℕ) (h : Heap) (f : ℕ) → ScanAt T own h n f rs → Coloured T own (Is n) (OrIn Q rs) h
      → Coloured T own (λ m. ⊥) Q (scan rs h n f)
  coloured_scan [] h f sc c = record {
    ok = c.ok;
    cover = forget (Wanted T own (memory h)) (OrIn Q []) Q h (λ r x v. ⊎_elim (λ q. q) in_none x) c.cover;
    direct = λ m b r e u off ne i. ⊎_elim
        (λ (g : m ≡ n).
        let q : sc.block ≡ b = some_same sc.is (sym (ap (memory h) g) ∙ e) in
        let j : In sc.block.refs r = subst (λ (y : Block). In y.refs r) (sym q) i in
        let l = drop_none sc.block.refs f sc.left in
        ap (form (memory h)) (sym j.is) ∙ sc.front j.at (omega (arith, l, j.inside)) ∙ j.is)
        (λ (d : m ≡ n → ⊥). c.direct m b r e u off d i)
        (cases_eq m n);
    black = c.black;
  }
  coloured_scan (r ∷ rs) h f sc c =
      rw (scanned_same sc c) (coloured_scan rs (grey (rescanned_heap sc c) r) (suc f) (scanned_next sc c) (scanned_coloured sc c))

  pub scan_form : (rs : List ℕ) (h : Heap) (f : ℕ) → ScanAt T own h n f rs → Coloured T own (Is n) (OrIn Q rs) h → (q : ℕ)
      → form (memory (scan rs h n f)) q ≡ form (memory h) q
  scan_form [] h f sc c q = refl
  scan_form (r ∷ rs) h f sc c q =
      ap (λ (k : Heap). form (memory (scan rs k n (suc f))) q) (scanned_same sc c)
      ∙ scan_form rs (grey (rescanned_heap sc c) r) (suc f) (scanned_next sc c) (scanned_coloured sc c) q
      ∙ scanned_form sc c q

  -- the newest of the work list comes under scan
  module _ {h : Heap} {w : List ℕ} (e : h.work ≡ n ∷ w)
      (t : (b : Block) (r : ℕ) → memory h n ≡ Some b → In b.refs r → T (own (form (memory h) r))) (c : Coloured T own (λ m. ⊥) Q h) where
    pub pop_block : Marked (memory h) n
    pop_block = c.ok.works n (subst (λ l. In l n) (sym e) (in_head n w))

    pub pop_scan : ScanAt T own (with_work h w) n 0 (refs_of (memory h n))
    pop_scan = record {
      block = pop_block.block;
      is = pop_block.is;
      left = ap refs_of pop_block.is;
      front = λ j l. absurd (omega arith);
      todo = λ r i. t pop_block.block r pop_block.is (subst (λ (y : Option Block). In (refs_of y) r) pop_block.is i);
    }

    pub pop_coloured : Coloured T own (Is n) (OrIn Q (refs_of (memory h n))) (with_work h w)
    pop_coloured = record {
      ok = record { pages = c.ok.pages; sound = c.ok.sound; works = λ m i. c.ok.works m (subst (λ l. In l m) (sym e) (in_tail n w i)) };
      cover = covers_step (Wanted T own (memory h)) (shrink_step (memory h) _ _ go) c.cover;
      direct = λ m x r f u off ne i. c.direct m x r f u (λ j. ⊎_elim (λ (g : n ≡ m). ne (sym g)) off (in_cons n w (subst (λ l. In l m) e j))) (λ z. z) i;
      black = c.black;
    }
      where
        go : (r k : ℕ) → Pending Q (memory h) h.work r → form (memory h) r ≡ k → White (memory h) k
            → Pended (memory h) (Pending (OrIn Q (refs_of (memory h n))) (memory h) w) k
        go r k (inl q) f v = (r, inl (inl q), f)
        go r k (inr x) f v =
            ⊎_elim
            (λ (g : n ≡ x.from). (r, inl (inr (subst (λ (y : Option Block). In (refs_of y) r) (sym (ap (memory h) g ∙ x.is)) x.ref)), f))
            (λ i. (r, inr (record { from = x.from; listed = i; block = x.block; is = x.is; ref = x.ref }), f))
            (in_cons n w (subst (λ l. In l x.from) e x.listed))
