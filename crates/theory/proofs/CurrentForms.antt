-- Current forms: what a written block leaves of them, and pages whose counts and current forms are the same.
use Rattle.std.proofs.Common.{◌≡◌, ℕ, ◌<◌, Bool, true, eqb, ◌≢◌, List, [], set, Some, sym, ap, ◌∙◌, ⊎_elim, arith}
use Rattle.std.proofs.lemmas.Bool.{cases_eq}
use Rattle.model.specs.Maps.{has}
use Rattle.model.specs.Pages.{Block, Page, cut, page_of, page_at, block_at, put_block, current, forward_of}
use Rattle.model.specs.Units.{close_page}
use Rattle.theory.proofs.Numbers.{Room, put_other, put_same, room_from}
use Rattle.theory.proofs.PageShapes.{close_blocks, cut_blocks}
use Rattle.theory.proofs.Counts.{Weight, total, total_close, total_cut, total_put, weigh}

-- a current form is current
abbrev pub Straight : List Page → Type 0
Straight ps = (n : ℕ) → current ps (current ps n) ≡ current ps n

-- the current form of a number that is not current is nil or a current block in a page of the map
abbrev pub Forwards : ℕ → List Page → Type 0
Forwards targets ps = (n : ℕ) → current ps n ≢ n → (current ps (current ps n) ≡ current ps n) × (0 < current ps n → has targets (page_of (current ps n)) ≡ true)

pub forwards_straight : (targets : ℕ) (ps : List Page) → Forwards targets ps → Straight ps
forwards_straight targets ps f n = ⊎_elim (λ (e : current ps n ≡ n). ap (current ps) e) (λ (d : current ps n ≢ n). (f n d).0) (cases_eq (current ps n) n)

-- a block is put into its slot
pub put_current : (ps : List Page) (n : ℕ) (b : Block) → Room ps n → current (put_block ps n b) n ≡ b.forward
put_current ps n b r = ap forward_of (put_same ps n b r)

pub put_current_other : (ps : List Page) (n m : ℕ) (b : Block) → Room ps n → m ≢ n → current (put_block ps n b) m ≡ current ps m
put_current_other ps n m b r d = ap forward_of (put_other ps n m b r d)

pub put_current_same : (ps : List Page) (n : ℕ) (b : Block) → Room ps n → b.forward ≡ current ps n → (m : ℕ)
    → current (put_block ps n b) m ≡ current ps m
put_current_same ps n b r e m =
    ⊎_elim
    (λ (z : m ≡ n). ap (current (put_block ps n b)) z ∙ put_current ps n b r ∙ e ∙ ap (current ps) (sym z))
    (λ (d : m ≢ n). put_current_other ps n m b r d)
    (cases_eq m n)

-- the same current forms
module _ (ps qs : List Page) (e : (n : ℕ) → current qs n ≡ current ps n) where
  twice : (n : ℕ) → current qs (current qs n) ≡ current ps (current ps n)
  twice n = e (current qs n) ∙ ap (current ps) (e n)

  pub straight_same : Straight ps → Straight qs
  straight_same s n = twice n ∙ s n ∙ sym (e n)

  pub forwards_same : (targets : ℕ) → Forwards targets ps → Forwards targets qs
  forwards_same targets f n d =
      let x = f n (λ q. d (e n ∙ q)) in
      (twice n ∙ x.0 ∙ sym (e n), λ p. ap (λ m. has targets (page_of m)) (e n) ∙ x.1 (rw (e n) at p))

-- the same counts and the same current forms
pub record Alike (ps qs : List Page) : Type 0 where
  pub counts : (f : Weight) → total f qs ≡ total f ps
  pub current : (n : ℕ) → current qs n ≡ current ps n

-- a block is changed in its references or words
pub alike_put : (ps : List Page) (n : ℕ) (b c : Block) → block_at ps n ≡ Some b → c.forward ≡ b.forward → c.marked ≡ b.marked
    → Alike ps (put_block ps n c)
alike_put ps n b c e p q =
    let r = room_from ps n b e in
    record {
      counts = λ f.
          let t = total_put f ps n c r in
          let w : weigh f (page_of n) n (block_at ps n) ≡ weigh f (page_of n) n (Some c) =
          ap (weigh f (page_of n) n) e ∙ ap (λ m. f (page_of n) m (eqb b.forward n)) (sym q) ∙ ap (λ x. f (page_of n) c.marked (eqb x n)) (sym p) in
          omega arith;
      current = put_current_same ps n c r (p ∙ sym (ap forward_of e));
    }

-- a page is closed or opened
pub alike_close : (ps : List Page) (g : ℕ) (c : Bool) → Alike ps (close_page ps g c)
alike_close ps g c = record { counts = λ f. total_close f ps g c; current = λ n. ap forward_of (close_blocks ps g c n) }

-- a page with no slot is cut
pub alike_cut : (ps : List Page) (g size : ℕ) → (page_at ps g).slots ≡ [] → Alike ps (set ps g (cut size))
alike_cut ps g size e = record { counts = λ f. total_cut f ps g size e; current = λ n. ap forward_of (cut_blocks ps g size e n) }
