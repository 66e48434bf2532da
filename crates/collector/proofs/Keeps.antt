-- What a write that keeps forms and marks leaves of the numbers.
use Rattle.std.proofs.Common.{◌≡◌, ℕ, ◌+◌, ◌-◌, ◌*◌, ◌<◌, Bool, cond, eqb, List, length, get_or, set, Some, None, Option, sym, refl, ap, ◌∙◌, subst, ap₂, inl, inr, arith, get_or-set_other, get_or-set_same}
use Rattle.std.proofs.lemmas.Bool.{cases_eq}
use Rattle.model.specs.Pages.{Block, Page, uncut, page_of, slot_of, page_at, block_at, put_block, with_slots}
use Rattle.model.specs.Units.{with_refs}
use Rattle.model.specs.Calls.{with_word}
use Rattle.heap.specs.Blocks.{write_ref, write_ref_in}
use Rattle.heap.specs.View.{write_word, write_word_in}
use Rattle.collector.specs.declared.phase.Phase.{Phase}
use Rattle.collector.specs.declared.phase.Phase.TheVariants.{Idle, Roots, Marking, Sweeping, Moving}
use Rattle.collector.specs.Counts.{sum_of, slot_white, white, page_spent, spent, stays, slot_stays}
use Rattle.collector.specs.Sound.{left, pressed, at_hand, Source, Placed}
use Rattle.collector.proofs.Sums.{sum_set, some_within, block_slot, page_within, put_sum}

pub record SamePage (g : ℕ) (p q : Page) : Type 0 where
  pub size : q.size ≡ p.size
  pub closed : q.closed ≡ p.closed
  pub stay : stays g q ≡ stays g p

pub record Keeps (ps qs : List Page) : Type 0 where
  pub whites : white qs ≡ white ps
  pub spends : (k : ℕ) → spent k qs ≡ spent k ps
  pub pages : (g : ℕ) → SamePage g (page_at ps g) (page_at qs g)

pub same_page : (g : ℕ) (p q : Page) → q ≡ p → SamePage g p q
same_page g p q e = record { size = ap (λ (x : Page). x.size) e; closed = ap (λ (x : Page). x.closed) e; stay = ap (stays g) e }

module _ (ps qs : List Page) (k : Keeps ps qs) where
  keep_hand : (s : Option ℕ) → at_hand s qs ≡ at_hand s ps
  keep_hand None = refl
  keep_hand (Some g) = ap (λ (x : ℕ). 1 + x) (k.pages g).stay

  keep_source : (c : ℕ) (s : Option ℕ) → Source c s ps → Source c s qs
  keep_source c None p = tt
  keep_source c (Some g) p = (p.0, (k.pages g).closed ∙ p.1, (k.pages g).size ∙ p.2)

  pub keep_left : (ph : Phase) (t : ℕ) → left ph qs t ≡ left ph ps t
  keep_left Idle t = refl
  keep_left (Roots i) t = ap (λ (x : ℕ). 7000 + (65536 - i) + (t + x)) k.whites
  keep_left Marking t = ap (λ (x : ℕ). 7000 + (t + x)) k.whites
  keep_left (Sweeping g) t = refl
  keep_left (Moving c s) t = ap₂ (λ (x y : ℕ). 70 * (64 - x) + 100 * (20 - c) + y) (k.spends c) (keep_hand s)

  pub keep_pressed : (ph : Phase) (t : ℕ) → pressed ph qs t ≡ pressed ph ps t
  keep_pressed Idle t = refl
  keep_pressed (Roots i) t = ap (λ (x : ℕ). t + x) k.whites
  keep_pressed Marking t = ap (λ (x : ℕ). t + x) k.whites
  keep_pressed (Sweeping g) t = refl
  keep_pressed (Moving c s) t = refl

  pub keep_placed : (ph : Phase) → Placed ph ps → Placed ph qs
  keep_placed Idle p = tt
  keep_placed (Roots i) p = p
  keep_placed Marking p = tt
  keep_placed (Sweeping g) p = p
  keep_placed (Moving c s) p = (p.0, keep_source c s p.1)

pub keeps_same : (ps : List Page) → Keeps ps ps
keeps_same ps = record { whites = refl; spends = λ k. refl; pages = λ g. same_page g (page_at ps g) (page_at ps g) refl }

-- a block is put where one with the same form and mark was
pub put_keeps : (ps : List Page) (n : ℕ) (b a : Block) → block_at ps n ≡ Some b → a.marked ≡ b.marked → a.forward ≡ b.forward → Keeps ps (put_block ps n a)
unfolding white spent stays
put_keeps ps n b a is mark form = record {
  whites =
      let put = put_sum slot_white ps n a low short in
      let old : slot_white (get_or (page_at ps (page_of n)).slots (slot_of n) None) ≡ cond b.marked 0 1 = ap slot_white sl in
      let new : ◌≡◌ {A = ℕ} (cond a.marked 0 1) (cond b.marked 0 1) = ap (λ (x : Bool). cond x 0 1) mark in
      omega arith;
  spends = λ k. let e = sum_set (page_spent k) ps (page_of n) P uncut low in omega arith;
  pages = λ g. elim (cases_eq g (page_of n)) [
    | inl e ↦ subst At (sym e) here
    | inr ne ↦ same_page g (page_at ps g) (page_at (put_block ps n a) g) (get_or-set_other ps (page_of n) g P uncut ne)
  ];
}
  where
    P : Page
    P = with_slots (page_at ps (page_of n)) (set (page_at ps (page_of n)).slots (slot_of n) (Some a))

    sl : get_or (page_at ps (page_of n)).slots (slot_of n) None ≡ Some b
    sl = block_slot ps n b is

    low : page_of n < length ps
    low = page_within ps (page_of n) (slot_of n) b sl

    short : slot_of n < length (page_at ps (page_of n)).slots
    short = some_within (page_at ps (page_of n)).slots (slot_of n) b sl

    At : ℕ → Type 0
    At g = SamePage g (page_at ps g) (page_at (put_block ps n a) g)

    count : (g : ℕ) → sum_of (slot_stays g) (set (page_at ps (page_of n)).slots (slot_of n) (Some a)) ≡ sum_of (slot_stays g) (page_at ps (page_of n)).slots
    count g =
        let e = sum_set (slot_stays g) (page_at ps (page_of n)).slots (slot_of n) (Some a) None short in
        let old : slot_stays g (get_or (page_at ps (page_of n)).slots (slot_of n) None) ≡ cond (eqb (page_of b.forward) g) 1 0 = ap (slot_stays g) sl in
        let new : ◌≡◌ {A = ℕ} (cond (eqb (page_of a.forward) g) 1 0) (cond (eqb (page_of b.forward) g) 1 0) = ap (λ (x : ℕ). cond (eqb (page_of x) g) 1 0) form in
        omega arith

    here : SamePage (page_of n) (page_at ps (page_of n)) (page_at (put_block ps n a) (page_of n))
    here =
        let e : page_at (put_block ps n a) (page_of n) ≡ P = get_or-set_same ps (page_of n) P uncut low in
        record {
          size = ap (λ (x : Page). x.size) e;
          closed = ap (λ (x : Page). x.closed) e;
          stay = ap (λ (x : Page). sum_of (slot_stays (page_of n)) x.slots) e ∙ count (page_of n);
        }

pub write_ref_keeps : (ps : List Page) (n f v : ℕ) → Keeps ps (write_ref ps n f v)
write_ref_keeps ps n f v = by_block (block_at ps n) refl
  where
    by_block : (o : Option Block) → block_at ps n ≡ o → Keeps ps (write_ref_in ps n f v o)
    by_block None e = keeps_same ps
    by_block (Some b) e = put_keeps ps n b (with_refs b (set b.refs f v)) e refl refl

pub write_word_keeps : (ps : List Page) (n w v : ℕ) → Keeps ps (write_word ps n w v)
write_word_keeps ps n w v = by_block (block_at ps n) refl
  where
    by_block : (o : Option Block) → block_at ps n ≡ o → Keeps ps (write_word_in ps n w v o)
    by_block None e = keeps_same ps
    by_block (Some b) e = put_keeps ps n b (with_word b w v) e refl refl
