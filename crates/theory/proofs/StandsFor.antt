-- A memory stands for the records of a graph: kept when a place, a block or a new block is written and when a block is moved.
use Rattle.std.proofs.Common.{◌≡◌, ℕ, suc, ◌<◌, ◌≤◌, true, false, eqb, ◌≢◌, ◌⊎◌, List, [], ◌∷◌, ◌++◌, map, length, get_or, set, replicate, Some, None, sym, refl, ap, ◌∙◌, subst, ap₂, inl, inr, ⊎_elim, arith}
use Rattle.std.proofs.lemmas.List.{get_or_past, map-set}
use Rattle.std.proofs.lemmas.Bool.{cases_eq, cases_lt, cond-false, cond-true, eq-eqb, ne_eqb}
use Rattle.model.specs.Pages.{Block, forward_of}
use Rattle.model.specs.Units.{with_refs}
use Rattle.model.specs.Graph.{Record}
use Rattle.model.specs.Runs.{put}
use Rattle.std.proofs.Math.Seq.{map-set_same}
use Rattle.theory.proofs.Lists.{In, in_set_back, in_zeros, map_same, none_some, some_same, zeros}
use Rattle.theory.proofs.Memory.{Alike, Forwarding, HasBlock, Mem, OneBlockEach, Wrote, bare, bare_alike, form, wrote_back}
use Rattle.theory.proofs.Records.{find, find_in, find_last, find_push, find_put_other, find_put_same, put_record, record_of}

-- a number is nil, or one of `L`
abbrev pub NilOr : (ℕ → Type 0) → ℕ → Type 0
NilOr L r = (r ≡ 0) ⊎ L r

-- `L` are the blocks that count, `own` the record that each block belongs to, `ns` the graph's records;
-- `xs` are the numbers in the store's places, and `ys` the records in the graph's
pub record StandsFor (M : Mem) (L : ℕ → Type 0) (own : ℕ → ℕ) (ns : List Record) (xs ys : List ℕ) : Type 0 where
  pub none : own 0 ≡ 0
  pub there : (n : ℕ) → L n → (b : Block) × (M n ≡ Some b) × L b.forward × (own b.forward ≡ own n)
  pub contents : (n : ℕ) (b : Block) → L n → M n ≡ Some b → b.forward ≡ n → find ns (own n) ≡ Some (record_of own b)
  pub one : (m n : ℕ) → L m → L n → form M m ≡ m → form M n ≡ n → own m ≡ own n → m ≡ n
  pub good : (n : ℕ) (b : Block) (r : ℕ) → L n → M n ≡ Some b → b.forward ≡ n → In b.refs r → NilOr L r
  pub roots : (r : ℕ) → In xs r → NilOr L r
  pub holds : map own xs ≡ ys

-- the memory changes and the graph does not
pub record Recast (M : Mem) (L : ℕ → Type 0) (N : Mem) (K : ℕ → Type 0) (own : ℕ → ℕ) (n : ℕ) (c : Block) : Type 0 where
  pub was : Block
  pub is : M n ≡ Some was
  pub forward : c.forward ≡ was.forward
  pub stays : K c.forward
  pub words : c.words ≡ was.words
  pub refs : was.forward ≡ n → map own c.refs ≡ map own was.refs
  pub names : was.forward ≡ n → (r : ℕ) → In c.refs r → NilOr K r

pub recast_stands : {M : Mem} {L : ℕ → Type 0} {N : Mem} {K : ℕ → Type 0} {own : ℕ → ℕ} {ns : List Record} {xs zs ys : List ℕ}
    → ((n : ℕ) → K n → L n × ((c : Block) × (N n ≡ Some c) × Recast M L N K own n c))
    → ((r : ℕ) → In zs r → NilOr K r) → map own zs ≡ map own xs
    → StandsFor M L own ns xs ys → StandsFor N K own ns zs ys
recast_stands {M} {L} {N} {K} {own} k rs hs s = record {
  none = s.none;
  there = λ n i.
      let x = k n i in let c = x.1.0 in let r = x.1.2 in
      let a = s.there n x.0 in
      let e : a.0 ≡ r.was = some_same a.1 r.is in
      let f : c.forward ≡ a.0.forward = r.forward ∙ sym (ap (λ (b : Block). b.forward) e) in
      (c, x.1.1, r.stays, ap own f ∙ a.3);
  contents = λ n d i e f.
      let x = k n i in let r = x.1.2 in
      let g : x.1.0 ≡ d = some_same x.1.1 e in
      let h : r.was.forward ≡ n = sym r.forward ∙ ap (λ (b : Block). b.forward) g ∙ f in
      let u : map own d.refs ≡ map own r.was.refs = sym (ap (λ (b : Block). map own b.refs) g) ∙ r.refs h in
      let w : d.words ≡ r.was.words = sym (ap (λ (b : Block). b.words) g) ∙ r.words in
      s.contents n r.was x.0 r.is h ∙ sym (ap₂ (λ (p q : List ℕ). Some (record_with p q)) u w);
  one = λ m n i j e f. s.one m n (k m i).0 (k n j).0 (back m i e) (back n j f);
  good = λ n d r i e f j.
      let x = k n i in let q = x.1.2 in
      let g : x.1.0 ≡ d = some_same x.1.1 e in
      let h : q.was.forward ≡ n = sym q.forward ∙ ap (λ (b : Block). b.forward) g ∙ f in
      q.names h r (subst (λ (b : Block). In b.refs r) (sym g) j);
  roots = rs;
  holds = hs ∙ s.holds;
}
  where
    record_with : List ℕ → List ℕ → Record
    record_with p q = record { refs = p; words = q }

    back : (n : ℕ) → K n → form N n ≡ n → form M n ≡ n
    back n i e =
        let x = k n i in let r = x.1.2 in
        ap forward_of r.is ∙ sym r.forward ∙ sym (ap forward_of x.1.1) ∙ e

module _ {own : ℕ → ℕ} {ns : List Record} {xs ys : List ℕ} where
  -- blocks change only in their marks
  pub bare_stands : (M N : Mem) → ((m : ℕ) → bare (N m) ≡ bare (M m)) → StandsFor M (HasBlock M) own ns xs ys
      → StandsFor N (HasBlock N) own ns xs ys
  bare_stands M N e s = recast_stands go (λ r i. names r (s.roots r i)) refl s
    where
      there : (r : ℕ) → HasBlock M r → HasBlock N r
      there r o = let a = bare_alike (N r) o.0 (e r ∙ ap bare o.1) in (a.block, a.is)

      names : (r : ℕ) → NilOr (HasBlock M) r → NilOr (HasBlock N) r
      names r (inl f) = inl f
      names r (inr o) = inr (there r o)

      go : (n : ℕ) → HasBlock N n → HasBlock M n × ((c : Block) × (N n ≡ Some c) × Recast M (HasBlock M) N (HasBlock N) own n c)
      go n o =
          let a : Alike (M n) o.0 = bare_alike (M n) o.0 (sym (e n) ∙ ap bare o.1) in
          let u = s.there n (a.block, a.is) in
          let q : u.0 ≡ a.block = some_same u.1 a.is in (
            (a.block, a.is),
            (
              o.0,
              o.1,
              record {
                was = a.block;
                is = a.is;
                forward = sym a.forward;
                stays = subst (HasBlock N) (ap (λ (b : Block). b.forward) q ∙ a.forward) (there _ u.2);
                words = sym a.words;
                refs = λ f. ap (map own) (sym a.refs);
                names = λ f r i. names r (s.good n a.block r (a.block, a.is) a.is f (subst (λ l. In l r) (sym a.refs) i));
              },
            ),
          )

  -- the owner of a number is that of its current form
  pub owner_form : {M : Mem} {L : ℕ → Type 0} → M 0 ≡ None → StandsFor M L own ns xs ys → (r : ℕ) → NilOr L r → own (form M r) ≡ own r
  owner_form {M} z s r (inl e) = ap own (ap forward_of (ap M e ∙ z) ∙ sym e)
  owner_form z s r (inr l) = let x = s.there r l in ap own (ap forward_of x.1) ∙ x.3

  pub nil_or_form : {M : Mem} {L : ℕ → Type 0} → M 0 ≡ None → StandsFor M L own ns xs ys → (r : ℕ) → NilOr L r → NilOr L (form M r)
  nil_or_form {M} z s r (inl e) = inl (ap forward_of (ap M e ∙ z))
  nil_or_form {M} {L} z s r (inr l) = let x = s.there r l in inr (subst L (sym (ap forward_of x.1)) x.2)

  -- one reference of a current block becomes its current form
  pub refresh_stands : {M N : Mem} {n : ℕ} (f r : ℕ) {b : Block} → Forwarding M → M n ≡ Some b → b.forward ≡ n → get_or b.refs f 0 ≡ r
      → In b.refs r → Wrote M N n (with_refs b (set b.refs f (form M r)))
      → StandsFor M (HasBlock M) own ns xs ys → StandsFor N (HasBlock N) own ns xs ys
  refresh_stands {M} {N} {n} f r {b} so is here at ri wr s = recast_stands go (λ q i. names q (s.roots q i)) refl s
    where
      there : (q : ℕ) → HasBlock M q → HasBlock N q
      there q o =
          ⊎_elim
          (λ (e : q ≡ n). (with_refs b (set b.refs f (form M r)), ap N e ∙ wr.same))
          (λ (d : q ≡ n → ⊥). (o.0, wr.other q d ∙ o.1))
          (cases_eq q n)

      names : (q : ℕ) → NilOr (HasBlock M) q → NilOr (HasBlock N) q
      names q (inl e) = inl e
      names q (inr o) = inr (there q o)

      ref_names : (q : ℕ) → In b.refs q → NilOr (HasBlock M) q
      ref_names q i = s.good n b q (b, is) is here i

      go : (m : ℕ) → HasBlock N m → HasBlock M m × ((c : Block) × (N m ≡ Some c) × Recast M (HasBlock M) N (HasBlock N) own m c)
      go m o =
          ⊎_elim
          (λ p. (
            (b, ap M p.0 ∙ is),
            (
              with_refs b (set b.refs f (form M r)),
              ap N p.0 ∙ wr.same,
              record {
                was = b;
                is = ap M p.0 ∙ is;
                forward = refl;
                stays = subst (HasBlock N) (sym here) (there n (b, is));
                words = refl;
                refs = λ e. map-set_same own b.refs f (form M r) 0 (owner_form so.zero_free s r (ref_names r ri) ∙ ap own (sym at));
                names = λ e q i. ⊎_elim
                    (λ (g : form M r ≡ q). subst (NilOr (HasBlock N)) g (names (form M r) (nil_or_form so.zero_free s r (ref_names r ri))))
                    (λ j. names q (ref_names q j))
                    (in_set_back b.refs f (form M r) i);
              },
            ),
          ))
          (λ p.
          let u = s.there m (o.0, p.1) in
          let v : u.0 ≡ o.0 = some_same u.1 p.1 in (
            (o.0, p.1),
            (
              o.0,
              o.1,
              record {
                was = o.0;
                is = p.1;
                forward = refl;
                stays = there _ (subst (HasBlock M) (ap (λ (y : Block). y.forward) v) u.2);
                words = refl;
                refs = λ e. refl;
                names = λ e q i. names q (s.good m o.0 q (o.0, p.1) p.1 e i);
              },
            ),
          ))
          (wrote_back is wr refl m o.0 o.1)

pub put_here : (f : ℕ → ℕ) (n v m : ℕ) → m ≡ n → put f n v m ≡ v
put_here f n v m e = cond-true (eqb m n) v (f m) (eq-eqb m n e)

pub put_elsewhere : (f : ℕ → ℕ) (n v m : ℕ) → m ≢ n → put f n v m ≡ f m
put_elsewhere f n v m d = cond-false (eqb m n) v (f m) (ne_eqb m n d)

-- what a place holds
pub place_nil_or : {M : Mem} {L : ℕ → Type 0} {own : ℕ → ℕ} {ns : List Record} {xs ys : List ℕ} → StandsFor M L own ns xs ys → (p : ℕ)
    → NilOr L (get_or xs p 0)
place_nil_or {xs = xs} s p =
    ⊎_elim
    (λ (l : p < length xs). s.roots (get_or xs p 0) (record { at = p; inside = l; is = refl }))
    (λ (l : length xs ≤ p). inl (get_or_past xs p 0 l))
    (cases_lt p (length xs))

-- a place is written
pub place_stands : {M : Mem} {L : ℕ → Type 0} {own : ℕ → ℕ} {ns : List Record} {xs ys : List ℕ} (p v : ℕ) → NilOr L v → StandsFor M L own ns xs ys
    → StandsFor M L own ns (set xs p v) (set ys p (own v))
place_stands {M} {L} {own} {ns} {xs} p v h s = record {
  none = s.none;
  there = s.there;
  contents = s.contents;
  one = s.one;
  good = s.good;
  roots = λ r i. ⊎_elim (λ (e : v ≡ r). subst (NilOr L) e h) (λ j. s.roots r j) (in_set_back xs p v i);
  holds = map-set own xs p v ∙ ap (λ (zs : List ℕ). set zs p (own v)) s.holds;
}

-- a current block is written, and its record with it
module _ {M N : Mem} {L : ℕ → Type 0} {own : ℕ → ℕ} {ns : List Record} {xs ys : List ℕ} {n : ℕ} {b c : Block} (s : StandsFor M L own ns xs ys)
    (i : L n) (is : M n ≡ Some b) (here : b.forward ≡ n) (wr : Wrote M N n c) (fw : c.forward ≡ b.forward) (names : (r : ℕ) → In c.refs r → NilOr L r) where
  write_there : (m : ℕ) → L m → (x : Block) × (N m ≡ Some x) × L x.forward × (own x.forward ≡ own m)
  write_there m j =
      ⊎_elim
      (λ (e : m ≡ n). (c, ap N e ∙ wr.same, subst L (sym (fw ∙ here)) i, ap own (fw ∙ here ∙ sym e)))
      (λ (d : m ≡ n → ⊥). let x = s.there m j in (x.0, wr.other m d ∙ x.1, x.2, x.3))
      (cases_eq m n)

  write_form : (m : ℕ) → form N m ≡ m → form M m ≡ m
  write_form m e =
      ⊎_elim
      (λ (f : m ≡ n). ap forward_of (ap M f ∙ is) ∙ here ∙ sym f)
      (λ (d : m ≡ n → ⊥). sym (ap forward_of (wr.other m d)) ∙ e)
      (cases_eq m n)

  write_record : (m : ℕ) (x : Block) → L m → N m ≡ Some x → x.forward ≡ m
      → find (put_record ns (own n) (record_of own c)) (own m) ≡ Some (record_of own x)
  write_record m x j e f =
      ⊎_elim
      (λ (g : m ≡ n).
      ap (find (put_record ns (own n) (record_of own c))) (ap own g)
      ∙ find_put_same ns (own n) (record_of own b) (record_of own c) (s.contents n b i is here)
      ∙ ap (λ (y : Block). Some (record_of own y)) (some_same wr.same (sym (ap N g) ∙ e)))
      (λ (d : m ≡ n → ⊥).
      let was : M m ≡ Some x = sym (wr.other m d) ∙ e in
      find_put_other ns (own n) (own m) (record_of own c) (λ o. d (s.one m n j i (ap forward_of was ∙ f) (ap forward_of is ∙ here) o))
      ∙ s.contents m x j was f)
      (cases_eq m n)

  pub block_stands : StandsFor N L own (put_record ns (own n) (record_of own c)) xs ys
  block_stands = record {
    none = s.none;
    there = write_there;
    contents = write_record;
    one = λ m k j l e f. s.one m k j l (write_form m e) (write_form k f);
    good = λ m x r j e f k. ⊎_elim
        (λ (g : m ≡ n). names r (subst (λ (y : Block). In y.refs r) (some_same (sym (ap N g) ∙ e) wr.same) k))
        (λ (d : m ≡ n → ⊥). s.good m x r j (sym (wr.other m d) ∙ e) f k)
        (cases_eq m n);
    roots = s.roots;
    holds = s.holds;
  }

-- another set of blocks with the same members
pub alike_stands : {M : Mem} {L K : ℕ → Type 0} {own : ℕ → ℕ} {ns : List Record} {xs ys : List ℕ} → ((n : ℕ) → K n → L n) → ((n : ℕ) → L n → K n)
    → StandsFor M L own ns xs ys → StandsFor M K own ns xs ys
alike_stands {M} {L} {K} f g s = record {
  none = s.none;
  there = λ n i. let x = s.there n (f n i) in (x.0, x.1, g _ x.2, x.3);
  contents = λ n b i. s.contents n b (f n i);
  one = λ m n i j. s.one m n (f m i) (f n j);
  good = λ n b r i e h j. to r (s.good n b r (f n i) e h j);
  roots = λ r i. to r (s.roots r i);
  holds = s.holds;
}
  where
    to : (r : ℕ) → NilOr L r → NilOr K r
    to r (inl e) = inl e
    to r (inr i) = inr (g r i)

-- the blocks of `L`, and block `n`
abbrev pub And : (ℕ → Type 0) → ℕ → ℕ → Type 0
And L n m = L m ⊎ (m ≡ n)

nil_or_and : (L : ℕ → Type 0) (n r : ℕ) → NilOr L r → NilOr (And L n) r
nil_or_and L n r (inl e) = inl e
nil_or_and L n r (inr i) = inr (inl i)

-- a block that was free gets the owner `v`: what is named keeps its owner
module _ {M : Mem} {L : ℕ → Type 0} {own : ℕ → ℕ} {ns : List Record} {xs ys : List ℕ} (s : StandsFor M L own ns xs ys) (n v : ℕ) (named : 0 < n)
    (free : M n ≡ None) where
  apart : (m : ℕ) → L m → m ≢ n
  apart m i e = let x = s.there m i in none_some x.0 (sym free ∙ sym (ap M e) ∙ x.1)

  pub own_live : (m : ℕ) → L m → put own n v m ≡ own m
  own_live m i = put_elsewhere own n v m (apart m i)

  own_named : (r : ℕ) → NilOr L r → put own n v r ≡ own r
  own_named r (inl e) = put_elsewhere own n v r (λ f. omega arith)
  own_named r (inr i) = own_live r i

  own_zero : put own n v 0 ≡ 0
  own_zero = own_named 0 (inl refl) ∙ s.none

  own_refs : (m : ℕ) (b : Block) → L m → M m ≡ Some b → b.forward ≡ m → map (put own n v) b.refs ≡ map own b.refs
  own_refs m b i e f = map_same b.refs (λ r j. own_named r (s.good m b r i e f j))

  own_record : (m : ℕ) (b c : Block) → L m → M m ≡ Some b → b.forward ≡ m → c.refs ≡ b.refs → c.words ≡ b.words
      → record_of own b ≡ record_of (put own n v) c
  own_record m b c i e f p q =
      ap₂ (λ (x y : List ℕ). record_with x y) (sym (own_refs m b i e f) ∙ sym (ap (map (put own n v)) p)) (sym q)
    where
      record_with : List ℕ → List ℕ → Record
      record_with x y = record { refs = x; words = y }

  own_holds : map (put own n v) xs ≡ ys
  own_holds = map_same xs (λ r j. own_named r (s.roots r j)) ∙ s.holds

-- a record is made
module _ {M N : Mem} {L : ℕ → Type 0} {own : ℕ → ℕ} {ns : List Record} {xs ys : List ℕ} (s : StandsFor M L own ns xs ys) {n : ℕ} (named : 0 < n)
    (free : M n ≡ None)
    {c : Block} (k d : ℕ) (wr : Wrote M N n c) (fw : c.forward ≡ n) (rf : c.refs ≡ replicate k 0) (wd : c.words ≡ replicate d 0) where
  abbrev pub new : ℕ
  new = suc (length ns)

  abbrev pub fresh_record : Record
  fresh_record = record { refs = replicate k 0; words = replicate d 0 }

  make_was : (m : ℕ) (x : Block) → L m → N m ≡ Some x → M m ≡ Some x
  make_was m x i e = sym (wr.other m (apart s n new named free m i)) ∙ e

  make_not_new : (m : ℕ) → L m → form N m ≡ m → own m ≢ new
  make_not_new m i e o =
      let x = s.there m i in
      let f : N m ≡ Some x.0 = wr.other m (apart s n new named free m i) ∙ x.1 in
      let h = find_in ns (own m) _ (s.contents m x.0 i x.1 (sym (ap forward_of f) ∙ e)) in
      omega (arith, h.1, o)

  make_one : (m j : ℕ) → And L n m → And L n j → form N m ≡ m → form N j ≡ j → put own n new m ≡ put own n new j → m ≡ j
  make_one m j (inl a) (inl b) e f o =
      s.one m j a b
      (sym (ap forward_of (wr.other m (apart s n new named free m a))) ∙ e)
      (sym (ap forward_of (wr.other j (apart s n new named free j b))) ∙ f)
      (sym (own_live s n new named free m a) ∙ o ∙ own_live s n new named free j b)
  make_one m j (inl a) (inr b) e f o =
      absurd (make_not_new m a e (sym (own_live s n new named free m a) ∙ o ∙ put_here own n new j b))
  make_one m j (inr a) (inl b) e f o =
      absurd (make_not_new j b f (sym (own_live s n new named free j b) ∙ sym o ∙ put_here own n new m a))
  make_one m j (inr a) (inr b) e f o = a ∙ sym b

  make_there : (m : ℕ) → And L n m → (x : Block) × (N m ≡ Some x) × And L n x.forward × (put own n new x.forward ≡ put own n new m)
  make_there m (inl i) =
      let x = s.there m i in (
        x.0,
        wr.other m (apart s n new named free m i) ∙ x.1,
        inl x.2,
        own_live s n new named free _ x.2 ∙ x.3 ∙ sym (own_live s n new named free m i),
      )
  make_there m (inr e) = (c, ap N e ∙ wr.same, inr fw, ap (put own n new) (fw ∙ sym e))

  make_record : (m : ℕ) (x : Block) → And L n m → N m ≡ Some x → x.forward ≡ m
      → find (ns ++ fresh_record ∷ []) (put own n new m) ≡ Some (record_of (put own n new) x)
  make_record m x (inl i) e f =
      let was = make_was m x i e in
      ap (find (ns ++ fresh_record ∷ [])) (own_live s n new named free m i)
      ∙ find_push ns (own m) _ fresh_record (s.contents m x i was f)
      ∙ ap Some (own_record s n new named free m x x i was f refl refl)
  make_record m x (inr g) e f =
      let h : x ≡ c = some_same (sym (ap N g) ∙ e) wr.same in
      ap (find (ns ++ fresh_record ∷ [])) (put_here own n new m g)
      ∙ find_last ns fresh_record
      ∙ ap₂ (λ (p q : List ℕ). Some (record_with p q))
      (sym (zeros (put own n new) k (own_zero s n new named free)) ∙ sym (ap (map (put own n new)) (ap (λ (y : Block). y.refs) h ∙ rf)))
      (sym (ap (λ (y : Block). y.words) h ∙ wd))
    where
      record_with : List ℕ → List ℕ → Record
      record_with x y = record { refs = x; words = y }

  make_good : (m : ℕ) (x : Block) (r : ℕ) → And L n m → N m ≡ Some x → x.forward ≡ m → In x.refs r → NilOr (And L n) r
  make_good m x r (inl i) e f j = nil_or_and L n r (s.good m x r i (make_was m x i e) f j)
  make_good m x r (inr g) e f j =
      let h : x ≡ c = some_same (sym (ap N g) ∙ e) wr.same in
      inl (in_zeros k r (subst (λ l. In l r) (ap (λ (y : Block). y.refs) h ∙ rf) j))

  pub new_block_stands : StandsFor N (And L n) (put own n new) (ns ++ fresh_record ∷ []) xs ys
  new_block_stands = record {
    none = own_zero s n new named free;
    there = make_there;
    contents = make_record;
    one = make_one;
    good = make_good;
    roots = λ r i. nil_or_and L n r (s.roots r i);
    holds = own_holds s n new named free;
  }

-- a block is moved: `to`, which was free, gets its contents, and both have `to` for their forward
module _ {M H N : Mem} {L : ℕ → Type 0} {own : ℕ → ℕ} {ns : List Record} {xs ys : List ℕ} (s : StandsFor M L own ns xs ys) {from to : ℕ}
    (named : 0 < to) (free : M to ≡ None)
    {b c : Block} (i : L from) (is : M from ≡ Some b) (here : b.forward ≡ from) (copied : Wrote M H to c) (forwarded : Wrote H N from c)
    (fw : c.forward ≡ to) (rf : c.refs ≡ b.refs) (wd : c.words ≡ b.words)
    (alone : (m : ℕ) (x : Block) → L m → M m ≡ Some x → x.forward ≡ from → m ≡ from) where
  abbrev pub moved_owner : ℕ → ℕ
  moved_owner = put own to (own from)

  move_apart : (m : ℕ) → L m → m ≢ to
  move_apart = apart s to (own from) named free

  move_own : (m : ℕ) → L m → moved_owner m ≡ own m
  move_own = own_live s to (own from) named free

  move_to : N to ≡ Some c
  move_to = forwarded.other to (λ e. move_apart from i (sym e)) ∙ copied.same

  move_other : (m : ℕ) → L m → m ≢ from → N m ≡ M m
  move_other m j d = forwarded.other m d ∙ copied.other m (move_apart m j)

  move_to_own : moved_owner to ≡ own from
  move_to_own = put_here own to (own from) to refl

  move_there : (m : ℕ) → And L to m → (x : Block) × (N m ≡ Some x) × And L to x.forward × (moved_owner x.forward ≡ moved_owner m)
  move_there m (inl j) =
      ⊎_elim
      (λ (e : m ≡ from). (c, ap N e ∙ forwarded.same, inr fw, ap moved_owner fw ∙ move_to_own ∙ sym (ap moved_owner e ∙ move_own from i)))
      (λ (d : m ≡ from → ⊥). let x = s.there m j in (x.0, move_other m j d ∙ x.1, inl x.2, move_own _ x.2 ∙ x.3 ∙ sym (move_own m j)))
      (cases_eq m from)
  move_there m (inr e) = (c, ap N e ∙ move_to, inr fw, ap moved_owner (fw ∙ sym e))

  move_not_from : (m : ℕ) → L m → form N m ≡ m → m ≢ from
  move_not_from m j e f = move_apart from i (sym (sym fw ∙ sym (ap forward_of (ap N f ∙ forwarded.same)) ∙ e ∙ f))

  move_form : (m : ℕ) → L m → form N m ≡ m → form M m ≡ m
  move_form m j e = sym (ap forward_of (move_other m j (move_not_from m j e))) ∙ e

  move_record : (m : ℕ) (x : Block) → And L to m → N m ≡ Some x → x.forward ≡ m → find ns (moved_owner m) ≡ Some (record_of moved_owner x)
  move_record m x (inl j) e f =
      let d = move_not_from m j (ap forward_of e ∙ f) in
      let was : M m ≡ Some x = sym (move_other m j d) ∙ e in
      ap (find ns) (move_own m j) ∙ s.contents m x j was f ∙ ap Some (own_record s to (own from) named free m x x j was f refl refl)
  move_record m x (inr g) e f =
      let h : c ≡ x = some_same move_to (sym (ap N g) ∙ e) in
      ap (find ns) (ap moved_owner g ∙ move_to_own) ∙ s.contents from b i is here
      ∙ ap Some (own_record s to (own from) named free from b x i is here (sym (ap (λ (y : Block). y.refs) h) ∙ rf) (sym (ap (λ (y : Block). y.words) h) ∙ wd))

  move_one : (m j : ℕ) → And L to m → And L to j → form N m ≡ m → form N j ≡ j → moved_owner m ≡ moved_owner j → m ≡ j
  move_one m j (inl p) (inl q) e f o = s.one m j p q (move_form m p e) (move_form j q f) (sym (move_own m p) ∙ o ∙ move_own j q)
  move_one m j (inl p) (inr q) e f o =
      absurd (move_not_from m p e (s.one m from p i (move_form m p e) (ap forward_of is ∙ here) (sym (move_own m p) ∙ o ∙ ap moved_owner q ∙ move_to_own)))
  move_one m j (inr p) (inl q) e f o =
      absurd (move_not_from j q f (s.one j from q i (move_form j q f) (ap forward_of is ∙ here) (sym (move_own j q) ∙ sym o ∙ ap moved_owner p ∙ move_to_own)))
  move_one m j (inr p) (inr q) e f o = p ∙ sym q

  move_good : (m : ℕ) (x : Block) (r : ℕ) → And L to m → N m ≡ Some x → x.forward ≡ m → In x.refs r → NilOr (And L to) r
  move_good m x r (inl j) e f k =
      let d = move_not_from m j (ap forward_of e ∙ f) in
      nil_or_and L to r (s.good m x r j (sym (move_other m j d) ∙ e) f k)
  move_good m x r (inr g) e f k =
      let h : x ≡ c = some_same (sym (ap N g) ∙ e) move_to in
      nil_or_and L to r (s.good from b r i is here (subst (λ l. In l r) (ap (λ (y : Block). y.refs) h ∙ rf) k))

  pub move_stands : StandsFor N (And L to) moved_owner ns xs ys
  move_stands = record {
    none = own_zero s to (own from) named free;
    there = move_there;
    contents = move_record;
    one = move_one;
    good = move_good;
    roots = λ r j. nil_or_and L to r (s.roots r j);
    holds = own_holds s to (own from) named free;
  }

  move_back : (m : ℕ) (x : Block) → N m ≡ Some x → (x ≡ c) ⊎ ((m ≢ from) × (m ≢ to) × (M m ≡ Some x))
  move_back m x e =
      ⊎_elim
      (λ (f : m ≡ from). inl (some_same (sym (ap N f) ∙ e) forwarded.same))
      (λ (d : m ≡ from → ⊥). ⊎_elim
      (λ (f : m ≡ to). inl (some_same (sym (ap N f) ∙ e) move_to))
      (λ (g : m ≡ to → ⊥). inr (d, g, sym (forwarded.other m d ∙ copied.other m g) ∙ e))
      (cases_eq m to))
      (cases_eq m from)

  -- one step still leads to the current block, since no other block led to `from`
  pub move_forwarding : ((m : ℕ) (x : Block) → M m ≡ Some x → L m) → c.marked ≡ false → Forwarding M → Forwarding N
  move_forwarding all un so = record {
    zero_free = forwarded.other 0 (λ e. none_some b (sym so.zero_free ∙ ap M e ∙ is)) ∙ copied.other 0 (λ e. omega arith) ∙ so.zero_free;
    forwards = λ m x e. ⊎_elim
        (λ (g : x ≡ c). let h = ap (λ (y : Block). y.forward) g ∙ fw in (c, ap N h ∙ move_to, fw ∙ sym h))
        (λ (o : (m ≢ from) × (m ≢ to) × (M m ≡ Some x)).
        let z = so.forwards m x o.2 in
        let j : L x.forward = all x.forward z.0 z.1 in
        (z.0, move_other x.forward j (λ f. o.0 (alone m x (all m x o.2) o.2 f)) ∙ z.1, z.2))
        (move_back m x e);
    marks = λ m x e t. ⊎_elim
        (λ (g : x ≡ c). let z : true ≡ false = sym t ∙ ap (λ (y : Block). y.marked) g ∙ un in cc)
        (λ (o : (m ≢ from) × (m ≢ to) × (M m ≡ Some x)). so.marks m x o.2 t)
        (move_back m x e);
  }

pub stands_one_each : {own : ℕ → ℕ} {M : Mem} {ns : List Record} {xs ys : List ℕ} → StandsFor M (HasBlock M) own ns xs ys
    → OneBlockEach own M (length ns)
stands_one_each {own} {M} {ns} s = record {
  one = s.one;
  most = λ m i a. (find_in ns (own m) _ (s.contents m i.0 i i.1 (sym (ap forward_of i.1) ∙ a))).1;
}
