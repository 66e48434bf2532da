-- The weak tricolour invariant: what is wanted is marked, or a chain of unmarked blocks leads to it from what is yet to be scanned.
use Rattle.std.proofs.Common.{◌≡◌, ℕ, ◌<◌, ◌⊎◌, List, ◌∷◌, Some, None, sym, refl, ap, ◌∙◌, subst, inl, inr, ⊎_elim, arith}
use Rattle.std.proofs.lemmas.Bool.{cases_eq}
use Rattle.model.specs.Pages.{Block, forward_of}
use Rattle.model.specs.Units.{marked_block}
use Rattle.theory.proofs.Lists.{In, in_head, in_tail, none_some, some_same}
use Rattle.theory.proofs.Memory.{Forwarding, Keeps, Marked, Mem, White, Wrote, form, keeps_marked, keeps_refl, keeps_white, white_marked, wrote_back, wrote_form, wrote_keeps}

-- block `n` is white, and a path of white blocks leads to it from a number that is pending
pub data Chain (M : Mem) (P : ℕ → Type 0) : ℕ → Type 0 where
  start : {n : ℕ} (r : ℕ) → P r → form M r ≡ n → White M n → Chain M P n
  next : {n : ℕ} (m : ℕ) → Chain M P m → (b : Block) → M m ≡ Some b → (r : ℕ) → In b.refs r → form M r ≡ n → White M n → Chain M P n

pub chain_white : {M : Mem} {P : ℕ → Type 0} {n : ℕ} → Chain M P n → White M n
chain_white (start r p e w) = w
chain_white (next m c b is r i e w) = w

-- where nothing is pending there is no chain
pub no_chain : {M : Mem} {P : ℕ → Type 0} {n : ℕ} → ((r : ℕ) → P r → ⊥) → Chain M P n → ⊥
no_chain f (start r p e w) = f r p
no_chain f (next m c b is r i e w) = no_chain f c

-- one step of the memory and of what is pending, under which every chain goes on or its end is marked
abbrev pub Pended : Mem → (ℕ → Type 0) → ℕ → Type 0
Pended N Q n = (s : ℕ) × Q s × (form N s ≡ n)

abbrev pub Linked : Mem → ℕ → ℕ → Type 0
Linked N m n = (c : Block) × (N m ≡ Some c) × ((s : ℕ) × In c.refs s × (form N s ≡ n))

pub record ChainStep (M : Mem) (P : ℕ → Type 0) (N : Mem) (Q : ℕ → Type 0) : Type 0 where
  pub keeps : Keeps M N
  pub starts : (r n : ℕ) → P r → form M r ≡ n → White N n → Pended N Q n
  pub greyed : (m r n : ℕ) (b : Block) → White M m → Marked N m → M m ≡ Some b → In b.refs r → form M r ≡ n → White N n → Pended N Q n
  pub linked : (m r n : ℕ) (b : Block) → White M m → White N m → M m ≡ Some b → In b.refs r → form M r ≡ n → White N n → Linked N m n

pub follow : {M : Mem} {P : ℕ → Type 0} {n : ℕ} (N : Mem) (Q : ℕ → Type 0) → ChainStep M P N Q → Chain M P n → Marked N n ⊎ Chain N Q n
follow {M} {P} {n} N Q s (start r p e w) =
    ⊎_elim inl (λ v. let x = s.starts r n p e v in inr (start x.0 x.1 x.2 v)) (keeps_white M N n s.keeps w)
follow {M} {P} {n} N Q s (next m c b is r i e w) =
    ⊎_elim inl
    (λ v. ⊎_elim
    (λ k. let x = s.greyed m r n b (chain_white c) k is i e v in inr (start x.0 x.1 x.2 v))
    (λ d. let x = s.linked m r n b (chain_white c) (chain_white d) is i e v in
    inr (next m d x.0 x.1 x.2.0 x.2.1 x.2.2 v))
    (follow N Q s c))
    (keeps_white M N n s.keeps w)

-- the weak tricolour invariant: all of `S` is marked or has a chain
abbrev pub Covers : (ℕ → Type 0) → Mem → (ℕ → Type 0) → Type 0
Covers S M P = (n : ℕ) → S n → Marked M n ⊎ Chain M P n

pub covers_step : (S : ℕ → Type 0) {M : Mem} {P : ℕ → Type 0} {N : Mem} {Q : ℕ → Type 0} → ChainStep M P N Q → Covers S M P → Covers S N Q
covers_step S {M} {P} {N} {Q} s c n i = ⊎_elim (λ m. inl (keeps_marked M N n s.keeps m)) (follow N Q s) (c n i)

pub covers_end : (S : ℕ → Type 0) {M : Mem} {P : ℕ → Type 0} → ((r : ℕ) → P r → ⊥) → Covers S M P → (n : ℕ) → S n → Marked M n
covers_end S f c n i = ⊎_elim (λ m. m) (λ d. absurd (no_chain f d)) (c n i)

-- the references of the blocks on the work list are pending
pub record WorkRef (M : Mem) (w : List ℕ) (r : ℕ) : Type 0 where
  pub from : ℕ
  pub listed : In w from
  pub block : Block
  pub is : M from ≡ Some block
  pub ref : In block.refs r

abbrev pub Pending : (ℕ → Type 0) → Mem → List ℕ → ℕ → Type 0
Pending Q M w r = Q r ⊎ WorkRef M w r

pub shrink_step : (M : Mem) (P Q : ℕ → Type 0) → ((r n : ℕ) → P r → form M r ≡ n → White M n → Pended M Q n) → ChainStep M P M Q
shrink_step M P Q h = record {
  keeps = keeps_refl M;
  starts = h;
  greyed = λ m r n b w k is i e v. white_marked w k;
  linked = λ m r n b w v is i e u. (b, is, (r, i, e));
}

-- a white block is marked and comes onto the work list
module _ {M N : Mem} {n : ℕ} {b : Block} (is : M n ≡ Some b) (wr : Wrote M N n (marked_block b)) where
  shade_form : (r : ℕ) → form N r ≡ form M r
  shade_form = wrote_form is wr refl

  shade_keeps : Keeps M N
  shade_keeps = wrote_keeps is wr refl (λ t. refl)

  -- a block's references stay
  shade_refs : (m : ℕ) (x : Block) (r : ℕ) → M m ≡ Some x → In x.refs r → (y : Block) × (N m ≡ Some y) × In y.refs r
  shade_refs m x r e i =
      ⊎_elim
      (λ (f : m ≡ n). (marked_block b, ap N f ∙ wr.same, subst (λ (y : Block). In y.refs r) (some_same (sym (ap M f) ∙ e) is) i))
      (λ (d : m ≡ n → ⊥). (x, wr.other m d ∙ e, i))
      (cases_eq m n)

  shade_pending : (Q : ℕ → Type 0) (l : List ℕ) (r : ℕ) → Pending Q M l r → Pending Q N (n ∷ l) r
  shade_pending Q l r (inl q) = inl q
  shade_pending Q l r (inr w) =
      let y = shade_refs w.from w.block r w.is w.ref in
      inr (record { from = w.from; listed = in_tail n l w.listed; block = y.0; is = y.1; ref = y.2 })

  pub shade_step : (Q : ℕ → Type 0) (l : List ℕ) → ChainStep M (Pending Q M l) N (Pending Q N (n ∷ l))
  shade_step Q l = record {
    keeps = shade_keeps;
    starts = λ r m p e v. (r, shade_pending Q l r p, shade_form r ∙ e);
    greyed = λ m r k x w d e i f v. (r, on_list m r x w d e i, shade_form r ∙ f);
    linked = λ m r k x w v e i f u. let y = shade_refs m x r e i in (y.0, y.1, (r, y.2, shade_form r ∙ f));
  }
    where
      on_list : (m r : ℕ) (x : Block) → White M m → Marked N m → M m ≡ Some x → In x.refs r → Pending Q N (n ∷ l) r
      on_list m r x w d e i =
          ⊎_elim
          (λ (f : m ≡ n). let y = shade_refs m x r e i in
          inr (record { from = n; listed = in_head n l; block = y.0; is = sym (ap N f) ∙ y.1; ref = y.2 }))
          (λ (f : m ≡ n → ⊥). white_marked w (record { block = d.block; is = sym (wr.other m f) ∙ d.is; marked = d.marked }))
          (cases_eq m n)

-- the references of one block are written; what they led to is dark, or they lead to it still
module _ {M N : Mem} {n : ℕ} {b c : Block} (is : M n ≡ Some b) (wr : Wrote M N n c) (fw : c.forward ≡ b.forward) (mk : c.marked ≡ b.marked) where
  refs_form : (r : ℕ) → form N r ≡ form M r
  refs_form = wrote_form is wr fw

  pub refs_marked_back : (m : ℕ) → Marked N m → Marked M m
  refs_marked_back m k =
      ⊎_elim
      (λ p. record { block = b; is = ap M p.0 ∙ is; marked = sym mk ∙ sym (ap (λ (y : Block). y.marked) p.1) ∙ k.marked })
      (λ p. record { block = k.block; is = p.1; marked = k.marked })
      (wrote_back is wr fw m k.block k.is)

  pub refs_white_back : (m : ℕ) → White N m → White M m
  refs_white_back m k =
      ⊎_elim
      (λ p. record {
        block = b;
        is = ap M p.0 ∙ is;
        here = sym fw ∙ sym (ap (λ (y : Block). y.forward) p.1) ∙ k.here;
        unmarked = sym mk ∙ sym (ap (λ (y : Block). y.marked) p.1) ∙ k.unmarked;
      })
      (λ p. record { block = k.block; is = p.1; here = k.here; unmarked = k.unmarked })
      (wrote_back is wr fw m k.block k.is)

  module _ (old : (r k : ℕ) → In b.refs r → form M r ≡ k → White M k → (s : ℕ) × In c.refs s × (form M s ≡ k)) where
    refs_kept : (m r k : ℕ) (x : Block) → M m ≡ Some x → In x.refs r → form M r ≡ k → White N k → Linked N m k
    refs_kept m r k x e i f v =
        ⊎_elim
        (λ (g : m ≡ n).
        let s = old r k (subst (λ (y : Block). In y.refs r) (some_same (sym (ap M g) ∙ e) is) i) f (refs_white_back k v) in
        (c, ap N g ∙ wr.same, (s.0, s.1, refs_form s.0 ∙ s.2)))
        (λ (d : m ≡ n → ⊥). (x, wr.other m d ∙ e, (r, i, refs_form r ∙ f)))
        (cases_eq m n)

    refs_pending : (Q : ℕ → Type 0) (l : List ℕ) (r k : ℕ) → Pending Q M l r → form M r ≡ k → White N k → Pended N (Pending Q N l) k
    refs_pending Q l r k (inl q) f v = (r, inl q, refs_form r ∙ f)
    refs_pending Q l r k (inr w) f v =
        let y = refs_kept w.from r k w.block w.is w.ref f v in
        (y.2.0, inr (record { from = w.from; listed = w.listed; block = y.0; is = y.1; ref = y.2.1 }), y.2.2)

    pub refs_step : (Q : ℕ → Type 0) (l : List ℕ) → ChainStep M (Pending Q M l) N (Pending Q N l)
    refs_step Q l = record {
      keeps = wrote_keeps is wr fw (λ t. mk ∙ t);
      starts = λ r k p f v. refs_pending Q l r k p f v;
      greyed = λ m r k x w d e i f v. white_marked w (refs_marked_back m d);
      linked = λ m r k x w d e i f v. refs_kept m r k x e i f v;
    }

-- a block is made where none was, and is marked
module _ {M N : Mem} {n : ℕ} {c : Block} (zero_free : M 0 ≡ None) (named : 0 < n) (free : M n ≡ None) (wr : Wrote M N n c) where
  new_there : (m : ℕ) (x : Block) → M m ≡ Some x → N m ≡ Some x
  new_there m x e =
      ⊎_elim
      (λ (f : m ≡ n). none_some x (sym free ∙ sym (ap M f) ∙ e))
      (λ (d : m ≡ n → ⊥). wr.other m d ∙ e)
      (cases_eq m n)

  pub new_keeps : Keeps M N
  new_keeps m x e = (x, new_there m x e, record { forward = refl; marked = λ t. t })

  new_form : (r k : ℕ) → form M r ≡ k → White N k → form N r ≡ k
  new_form r k f v =
      ⊎_elim
      (λ (g : r ≡ n).
      let z : 0 ≡ k = sym (ap forward_of (ap M g ∙ free)) ∙ f in
      none_some v.block (sym zero_free ∙ sym (wr.other 0 (λ o. omega arith)) ∙ ap N z ∙ v.is))
      (λ (d : r ≡ n → ⊥). ap forward_of (wr.other r d) ∙ f)
      (cases_eq r n)

  pub new_step : (Q : ℕ → Type 0) (l : List ℕ) → ChainStep M (Pending Q M l) N (Pending Q N l)
  new_step Q l = record {
    keeps = new_keeps;
    starts = λ r k p f v. (r, pending r p, new_form r k f v);
    greyed = λ m r k x w d e i f v. white_marked w (back m x e d);
    linked = λ m r k x w d e i f v. (x, new_there m x e, (r, i, new_form r k f v));
  }
    where
      pending : (r : ℕ) → Pending Q M l r → Pending Q N l r
      pending r (inl q) = inl q
      pending r (inr w) = inr (record { from = w.from; listed = w.listed; block = w.block; is = new_there w.from w.block w.is; ref = w.ref })

      back : (m : ℕ) (x : Block) → M m ≡ Some x → Marked N m → Marked M m
      back m x e d = record { block = d.block; is = e ∙ sym (new_there m x e) ∙ d.is; marked = d.marked }

  pub new_forwarding : c.forward ≡ n → Forwarding M → Forwarding N
  new_forwarding fw s = record {
    zero_free = wr.other 0 (λ o. omega arith) ∙ zero_free;
    forwards = forwards;
    marks = λ m x e t. ⊎_elim
        (λ (f : m ≡ n). ap (λ (y : Block). y.forward) (some_same (sym (ap N f) ∙ e) wr.same) ∙ fw ∙ sym f)
        (λ (d : m ≡ n → ⊥). s.marks m x (sym (wr.other m d) ∙ e) t)
        (cases_eq m n);
  }
    where
      forwards : (m : ℕ) (x : Block) → N m ≡ Some x → (z : Block) × (N x.forward ≡ Some z) × (z.forward ≡ x.forward)
      forwards m x e =
          ⊎_elim
          (λ (f : m ≡ n).
          let g = ap (λ (y : Block). y.forward) (some_same (sym (ap N f) ∙ e) wr.same) in
          (c, ap N (g ∙ fw) ∙ wr.same, sym g))
          (λ (d : m ≡ n → ⊥).
          let z = s.forwards m x (sym (wr.other m d) ∙ e) in (z.0, new_there x.forward z.0 z.1, z.2))
          (cases_eq m n)

pub covers_sub : (S R : ℕ → Type 0) (M : Mem) (P : ℕ → Type 0) → ((n : ℕ) → R n → S n) → Covers S M P → Covers R M P
covers_sub S R M P f c n i = c n (f n i)
