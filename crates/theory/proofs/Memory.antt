-- A memory is a function from numbers to blocks. Current forms, marks, and what one written block changes.
use Rattle.std.proofs.Common.{◌≡◌, ℕ, ◌≤◌, true, false, ◌≢◌, ◌⊎◌, List, Some, None, Option, sym, refl, ap, ◌∙◌, inl, inr, ⊎_elim}
use Rattle.std.proofs.lemmas.Bool.{cases_Bool, cases_eq}
use Rattle.model.specs.Pages.{Block, forward_of}
use Rattle.theory.proofs.Lists.{In, none_some, some_same}

abbrev pub Mem : Type 0
Mem = ℕ → Option Block

-- the current form of a number
abbrev pub form : Mem → ℕ → ℕ
form M n = forward_of (M n)

-- a current block that is unmarked
pub record White (M : Mem) (n : ℕ) : Type 0 where
  pub block : Block
  pub is : M n ≡ Some block
  pub here : block.forward ≡ n
  pub unmarked : block.marked ≡ false

pub record Marked (M : Mem) (n : ℕ) : Type 0 where
  pub block : Block
  pub is : M n ≡ Some block
  pub marked : block.marked ≡ true

pub white_marked : {M : Mem} {n : ℕ} {P : Type 0} → White M n → Marked M n → P
white_marked w k =
    let e : w.block ≡ k.block = cc in
    let f : true ≡ false = sym k.marked ∙ sym (ap (λ (b : Block). b.marked) e) ∙ w.unmarked in
    cc

-- blocks stay, with their forwards, and what is marked stays marked
pub record BlockKept (b c : Block) : Type 0 where
  pub forward : c.forward ≡ b.forward
  pub marked : b.marked ≡ true → c.marked ≡ true

abbrev pub Keeps : Mem → Mem → Type 0
Keeps M N = (n : ℕ) (b : Block) → M n ≡ Some b → (c : Block) × (N n ≡ Some c) × BlockKept b c

pub keeps_marked : (M N : Mem) (n : ℕ) → Keeps M N → Marked M n → Marked N n
keeps_marked M N n k m =
    let x = k n m.block m.is in
    record { block = x.0; is = x.1; marked = x.2.marked m.marked }

pub keeps_white : (M N : Mem) (n : ℕ) → Keeps M N → White M n → Marked N n ⊎ White N n
keeps_white M N n k w =
    let x = k n w.block w.is in
    ⊎_elim
    (λ e. inl (record { block = x.0; is = x.1; marked = e }))
    (λ e. inr (record { block = x.0; is = x.1; here = x.2.forward ∙ w.here; unmarked = e }))
    (cases_Bool x.0.marked)

-- one block is written, and nothing else
pub record Wrote (M N : Mem) (n : ℕ) (b : Block) : Type 0 where
  pub same : N n ≡ Some b
  pub other : (m : ℕ) → m ≢ n → N m ≡ M m

-- one step leads from a block to a current block, and only current blocks are marked
pub record Forwarding (M : Mem) : Type 0 where
  pub zero_free : M 0 ≡ None
  pub forwards : (n : ℕ) (b : Block) → M n ≡ Some b → (c : Block) × (M b.forward ≡ Some c) × (c.forward ≡ b.forward)
  pub marks : (n : ℕ) (b : Block) → M n ≡ Some b → b.marked ≡ true → b.forward ≡ n

abbrev pub AllMarked : Mem → List ℕ → Type 0
AllMarked M w = (n : ℕ) → In w n → Marked M n

-- a current form is its own current form
pub form_twice : {M : Mem} → Forwarding M → (r : ℕ) → form M (form M r) ≡ form M r
form_twice {M} s r = go (M r) refl
  where
    go : (x : Option Block) → M r ≡ x → form M (form M r) ≡ form M r
    go None e = ap (form M) (ap forward_of e) ∙ ap forward_of s.zero_free ∙ sym (ap forward_of e)
    go (Some b) e =
        let x = s.forwards r b e in
        ap (form M) (ap forward_of e) ∙ ap forward_of x.1 ∙ x.2 ∙ sym (ap forward_of e)

-- a block is written that keeps its forward: current forms stay, and with marks kept so does the rest
module _ {M N : Mem} {n : ℕ} {b c : Block} (is : M n ≡ Some b) (w : Wrote M N n c) (fw : c.forward ≡ b.forward) where
  pub wrote_form : (r : ℕ) → form N r ≡ form M r
  wrote_form r =
      ⊎_elim
      (λ (e : r ≡ n). ap (form N) e ∙ ap forward_of w.same ∙ fw ∙ sym (ap forward_of is) ∙ sym (ap (form M) e))
      (λ (d : r ≡ n → ⊥). ap forward_of (w.other r d))
      (cases_eq r n)

  pub wrote_keeps : (b.marked ≡ true → c.marked ≡ true) → Keeps M N
  wrote_keeps k m x e =
      ⊎_elim
      (λ (f : m ≡ n).
      let g : x ≡ b = some_same (sym (ap M f) ∙ e) is in
      (c, ap N f ∙ w.same, record { forward = fw ∙ sym (ap (λ (y : Block). y.forward) g); marked = λ t. k (sym (ap (λ (y : Block). y.marked) g) ∙ t) }))
      (λ (d : m ≡ n → ⊥). (x, w.other m d ∙ e, record { forward = refl; marked = λ t. t }))
      (cases_eq m n)

  -- a block after the write is the written one, or was there before
  pub wrote_back : (m : ℕ) (x : Block) → N m ≡ Some x → ((m ≡ n) × (x ≡ c)) ⊎ ((m ≡ n → ⊥) × (M m ≡ Some x))
  wrote_back m x e =
      ⊎_elim
      (λ (f : m ≡ n). inl (f, some_same (sym (ap N f) ∙ e) w.same))
      (λ (d : m ≡ n → ⊥). inr (d, sym (w.other m d) ∙ e))
      (cases_eq m n)

  wrote_there : (m : ℕ) (x : Block) → M m ≡ Some x → (y : Block) × (N m ≡ Some y) × (y.forward ≡ x.forward)
  wrote_there m x e =
      ⊎_elim
      (λ (f : m ≡ n). (c, ap N f ∙ w.same, fw ∙ sym (ap (λ (y : Block). y.forward) (some_same (sym (ap M f) ∙ e) is))))
      (λ (d : m ≡ n → ⊥). (x, w.other m d ∙ e, refl))
      (cases_eq m n)

  wrote_was : (m : ℕ) (x : Block) → N m ≡ Some x → (y : Block) × (M m ≡ Some y) × (y.forward ≡ x.forward)
  wrote_was m x e =
      ⊎_elim
      (λ p. (b, ap M p.0 ∙ is, sym (ap (λ (y : Block). y.forward) p.1 ∙ fw)))
      (λ p. (x, p.1, refl))
      (wrote_back m x e)

  wrote_forwards : Forwarding M → (m : ℕ) (x : Block) → N m ≡ Some x → (z : Block) × (N x.forward ≡ Some z) × (z.forward ≡ x.forward)
  wrote_forwards s m x e =
      let y = wrote_was m x e in
      let z = s.forwards m y.0 y.1 in
      let u = wrote_there y.0.forward z.0 z.1 in
      (u.0, ap N (sym y.2) ∙ u.1, u.2 ∙ z.2 ∙ y.2)

  pub wrote_forwarding : (c.marked ≡ true → c.forward ≡ n) → Forwarding M → Forwarding N
  wrote_forwarding k s = record {
    zero_free = ⊎_elim (λ (e : 0 ≡ n). none_some b (sym s.zero_free ∙ ap M e ∙ is)) (λ (d : 0 ≡ n → ⊥). w.other 0 d ∙ s.zero_free) (cases_eq 0 n);
    forwards = wrote_forwards s;
    marks = λ m x e t. ⊎_elim
        (λ p. let q = ap (λ (y : Block). y.marked) p.1 in ap (λ (y : Block). y.forward) p.1 ∙ k (sym q ∙ t) ∙ sym p.0)
        (λ p. s.marks m x p.1 t)
        (wrote_back m x e);
  }

  pub wrote_all_marked : (b.marked ≡ true → c.marked ≡ true) → (l : List ℕ) → AllMarked M l → AllMarked N l
  wrote_all_marked k l h m i = keeps_marked M N m (wrote_keeps k) (h m i)

pub keeps_refl : (M : Mem) → Keeps M M
keeps_refl M n b e = (b, e, record { forward = refl; marked = λ t. t })

-- a block but for its mark
abbrev pub bare : Option Block → Option Block
bare None = None
bare (Some b) = Some (record { forward = b.forward; marked = false; refs = b.refs; words = b.words })

pub bare_forward : (x : Option Block) → forward_of (bare x) ≡ forward_of x
bare_forward None = refl
bare_forward (Some b) = refl

-- a block with the same forward, references and words
pub record Alike (x : Option Block) (b : Block) : Type 0 where
  pub block : Block
  pub is : x ≡ Some block
  pub forward : block.forward ≡ b.forward
  pub refs : block.refs ≡ b.refs
  pub words : block.words ≡ b.words

pub bare_alike : (x : Option Block) (b : Block) → bare x ≡ bare (Some b) → Alike x b
bare_alike None b e = none_some _ e
bare_alike (Some c) b e =
    let f : record { forward = c.forward; marked = false; refs = c.refs; words = c.words } ≡ record { forward = b.forward; marked = false; refs = b.refs; words = b.words } = some_same refl e in
    record { block = c; is = refl; forward = ap (λ (y : Block). y.forward) f; refs = ap (λ (y : Block). y.refs) f; words = ap (λ (y : Block). y.words) f }

abbrev pub HasBlock : Mem → ℕ → Type 0
HasBlock M n = (b : Block) × (M n ≡ Some b)

pub has_block_bare : (M N : Mem) → ((m : ℕ) → bare (N m) ≡ bare (M m)) → (q : ℕ) → HasBlock M q → HasBlock N q
has_block_bare M N e q o = let a = bare_alike (N q) o.0 (e q ∙ ap bare o.1) in (a.block, a.is)

-- no two current blocks have one owner, doomed or not, and owners are records
pub record OneBlockEach (own : ℕ → ℕ) (M : Mem) (k : ℕ) : Type 0 where
  pub one : (m n : ℕ) → HasBlock M m → HasBlock M n → form M m ≡ m → form M n ≡ n → own m ≡ own n → m ≡ n
  pub most : (m : ℕ) → HasBlock M m → form M m ≡ m → own m ≤ k

pub one_each_back : {own : ℕ → ℕ} {M N : Mem} {k : ℕ} → ((m : ℕ) → HasBlock N m → HasBlock M m × (form N m ≡ form M m)) → OneBlockEach own M k
    → OneBlockEach own N k
one_each_back f s = record {
  one = λ m n i j a b e. s.one m n (f m i).0 (f n j).0 (sym (f m i).1 ∙ a) (sym (f n j).1 ∙ b) e;
  most = λ m i a. s.most m (f m i).0 (sym (f m i).1 ∙ a);
}
