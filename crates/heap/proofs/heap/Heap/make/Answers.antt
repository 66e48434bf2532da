use Rattle.std.proofs.Common.{◌≡◌, ℕ, ◌+◌, ◌-◌, ◌<◌, ◌≤◌, Bool, leb, List, Some, None, Option, sym, ap, ◌∙◌, subst, arith, length-set}
use Rattle.model.specs.Classes.{fitting}
use Rattle.model.specs.Pages.{Page, put_block}
use Rattle.model.specs.Making.{ready_pages, free_number}
use Rattle.model.specs.Calls.{if_some}
use Rattle.pages.specs.declared.entry.Entry.{Entry}
use Rattle.pages.specs.Entries.{Taken}
use Rattle.pages.proofs.Sizes.{smallest}
use Rattle.heap.specs.View.{view, new_block, new_page}
use Rattle.heap.proofs.Views.{full}
use Rattle.heap.proofs.Making.{new_over, new_some, made_wide, made_fits, made_at, made_view}
use Rattle.heap.proofs.heap.Heap.make.Goals as goal
use Rattle.heap.proofs.heap.Heap.make.Goals.{then-r-gt30-via-then-r-gt30, then-r-gt30-via-else-r-gt30+then-d-r}

-- the number of what is not made, and the pages without it
module _ (ps : List Page) (r d from : ℕ) (e : new_page ps r d ≡ None) where
  no_number : None ≡ if_some (new_page ps r d) (λ g. Some (free_number (ready_pages ps g (fitting (2 + r + d))) g)) None
  no_number = sym (ap (λ (o : Option ℕ). if_some o (λ g. Some (free_number (ready_pages ps g (fitting (2 + r + d))) g)) None) e)

  no_pages : ps ≡ if_some (new_page ps r d) (λ g. put_block (ready_pages ps g (fitting (2 + r + d))) (free_number (ready_pages ps g (fitting (2 + r + d))) g) (new_block (free_number (ready_pages ps g (fitting (2 + r + d))) g) (leb from g) r d)) ps
  no_pages = sym (ap (λ (o : Option ℕ). if_some o (λ g. put_block (ready_pages ps g (fitting (2 + r + d))) (free_number (ready_pages ps g (fitting (2 + r + d))) g) (new_block (free_number (ready_pages ps g (fitting (2 + r + d))) g) (leb from g) r d)) ps) e)

pub returns-then-r-gt30 : goal.returns-then-r-gt30
returns-then-r-gt30 c =
    let h = c.args.self.now in
    let over : 30 < c.args.r + c.args.d =
    elim c.then-r-gt30.branch [
      | then-r-gt30-via-then-r-gt30 w ↦ (let a = w.if-r-gt30.true in omega arith)
      | then-r-gt30-via-else-r-gt30+then-d-r w ↦ (let a = w.if-d-r.true in let b = w.if-r-gt30.false in omega arith)
    ] in
    let e = new_over (view h) c.args.r c.args.d over in
    record { number = no_number (view h) c.args.r c.args.d c.args.mark_from e; view = no_pages (view h) c.args.r c.args.d c.args.mark_from e }

-- the block that was taken, by the size that the code has
taken : (es fs : List Entry) (g z size f : ℕ) (m : Bool) → size ≡ f → Taken es fs g z f m → Taken es fs g z size m
taken es fs g z size f m e tk = let T : ℕ → Type 0 = λ x. Taken es fs g z x m in subst T (sym e) tk

few_of : (r d : ℕ) → r ≤ 30 → d ≤ 30 - r → r + d ≤ 30
few_of r d a b = omega arith

pub invariant_of-self-2 : goal.invariant_of-self-2
invariant_of-self-2 c =
    let h = c.args.self.now in
    let es = h.pages.entries in
    let fs = c.allocate.new.self.entries in
    let g : ℕ = c.in_ok-page.page in
    let z : ℕ = c.in_ok-page.slot in
    let m : Bool = leb c.args.mark_from g in
    let few = few_of c.args.r c.args.d c.if-r-gt30.false c.if-d-r.false in
    let is : c.size.result ≡ fitting (2 + c.args.r + c.args.d) = c.size.ensures ∙ c.in_ok-page.ensures.block.0.size_is in
    let t = taken es fs g z c.size.result (fitting (2 + c.args.r + c.args.d)) m is c.in_ok-page.ensures.block.0 in record {
      count = t.count ∙ h.count;
      tall = length-set h.words g c.clear.new.words ∙ h.tall;
      wide = made_wide es fs h.words g z c.size.result c.args.r c.args.d m t (full h) h.wide few (smallest (2 + c.args.r + c.args.d) c.size.result is) c.number_of-n.result c.clear.new.words c.clear.ensures;
      fits = made_fits es fs h.words g z c.size.result c.args.r c.args.d m t (full h) h.wide few (smallest (2 + c.args.r + c.args.d) c.size.result is) c.number_of-n.result c.clear.new.words c.clear.ensures h.fits;
    }

pub returns : goal.returns
returns c =
    let h = c.args.self.now in
    let es = h.pages.entries in
    let fs = c.allocate.new.self.entries in
    let g : ℕ = c.in_ok-page.page in
    let z : ℕ = c.in_ok-page.slot in
    let r : ℕ = c.args.r in
    let d : ℕ = c.args.d in
    let m : Bool = leb c.args.mark_from g in
    let few = few_of r d c.if-r-gt30.false c.if-d-r.false in
    let is : c.size.result ≡ fitting (2 + r + d) = c.size.ensures ∙ c.in_ok-page.ensures.block.0.size_is in
    let t = taken es fs g z c.size.result (fitting (2 + r + d)) m is c.in_ok-page.ensures.block.0 in
    let e = new_some (view h) r d g few (c.in_ok-page.ensures.block.1 h.words h.tall) in
    record {
      number =
          ap Some (made_at es fs h.words g z c.size.result r d m t (full h) h.wide few (smallest (2 + c.args.r + c.args.d) c.size.result is) c.number_of-n.result c.clear.new.words c.clear.ensures c.number_of-n.ensures)
          ∙ ap (λ (x : ℕ). Some (free_number (ready_pages (view h) g x) g)) is
          ∙ sym (ap (λ (o : Option ℕ). if_some o (λ g. Some (free_number (ready_pages (view h) g (fitting (2 + r + d))) g)) None) e);
      view =
          made_view es fs h.words g z c.size.result r d m t (full h) h.wide few (smallest (2 + c.args.r + c.args.d) c.size.result is) c.number_of-n.result c.clear.new.words c.clear.ensures c.number_of-n.ensures
          ∙ ap (λ (x : ℕ). put_block (ready_pages (view h) g x) (free_number (ready_pages (view h) g x) g) (new_block (free_number (ready_pages (view h) g x) g) m r d)) is
          ∙ sym (ap (λ (o : Option ℕ). if_some o (λ g. put_block (ready_pages (view h) g (fitting (2 + r + d))) (free_number (ready_pages (view h) g (fitting (2 + r + d))) g) (new_block (free_number (ready_pages (view h) g (fitting (2 + r + d))) g) (leb c.args.mark_from g) r d)) (view h)) e);
    }
