use Rattle.std.proofs.Common.{◌≡◌, ℕ, Bool, true, false, cond, None, sym, ap, ◌∙◌, subst, ap₂}
use Rattle.model.specs.Pages.{page_of, page_at, block_at}
use Rattle.model.specs.Units.{target_page}
use Rattle.pages.specs.Entries.{entry_at}
use Rattle.heap.specs.declared.heap.Heap.{Heap}
use Rattle.heap.specs.Blocks.{Located}
use Rattle.heap.specs.View.{view, target_of, target_number, moved_to}
use Rattle.heap.proofs.Views.{closed_is}
use Rattle.heap.proofs.Found.{size_is, numbered}
use Rattle.heap.proofs.heap.Heap.move_block.Goals as goal

module _ (h : Heap) (n g s : ℕ) (at : Located h.pages.entries h.words n g s) where
  closed_here : (page_at (view h) (page_of n)).closed ≡ (entry_at h.pages.entries g).closed
  closed_here = ap (λ (x : ℕ). (page_at (view h) x).closed) (sym at.page) ∙ closed_is h g at.low

  target_is : (b : Bool) → (entry_at h.pages.entries g).closed ≡ b
      → target_of (view h) n (block_at (view h) n) ≡ cond b (target_page (view h) (entry_at h.pages.entries g).size) None
  target_is b e =
      ap (target_of (view h) n) at.block
      ∙ ap₂ (λ (x : Bool) (y : ℕ). cond x (target_page (view h) y) None) (closed_here ∙ e)
      (ap (λ (x : ℕ). (page_at (view h) x).size) (sym at.page) ∙ size_is h.pages.entries h.words g h.count h.tall at.low)

pub returns-then-not-is_closed : goal.returns-then-not-is_closed
returns-then-not-is_closed c =
    let h = c.args.self.now in
    let e = target_is h c.args.n c.in_ok-g.g c.in_ok-g.s c.in_ok-g.ensures false (sym c.is_closed.ensures ∙ c.if-not-is_closed.true) in
    record { target = sym (ap target_number e); view = sym (ap (moved_to (view h) c.args.n) e) }

pub move_found-requires : goal.move_found-requires
move_found-requires c =
    let h = c.args.self.now in
    let at = c.in_ok-g.ensures in
    let L : ℕ → Type 0 = λ x. Located h.pages.entries h.words x c.in_ok-g.g c.in_ok-g.s in
    record {
      found = subst L (numbered h.pages.entries h.words c.args.n c.in_ok-g.g c.in_ok-g.s at) at;
      closed = sym c.is_closed.ensures ∙ c.if-not-is_closed.false;
    }

pub returns : goal.returns
returns c =
    let h = c.args.self.now in
    let at = c.in_ok-g.ensures in
    let n = numbered h.pages.entries h.words c.args.n c.in_ok-g.g c.in_ok-g.s at in
    let e = target_is h c.args.n c.in_ok-g.g c.in_ok-g.s at true (sym c.is_closed.ensures ∙ c.if-not-is_closed.false) in
    record {
      target = c.move_found.ensures.target ∙ sym (ap target_number e);
      view =
          c.move_found.ensures.view
          ∙ ap (λ (x : ℕ). moved_to (view h) x (target_page (view h) (entry_at h.pages.entries c.in_ok-g.g).size)) (sym n)
          ∙ sym (ap (moved_to (view h) c.args.n) e);
    }
