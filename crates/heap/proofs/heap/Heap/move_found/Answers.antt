use Rattle.std.proofs.Common.{◌≡◌, ℕ, ◌<◌, Bool, true, List, Some, None, sym, refl, ap, ◌∙◌, arith, rules}
use Rattle.std.proofs.lemmas.Bool.{both_ways}
use Rattle.model.specs.Pages.{Page, number, page_at, block_at, lowest_free}
use Rattle.model.specs.Units.{target_page, moved}
use Rattle.pages.specs.declared.entry.Entry.{Entry}
use Rattle.pages.specs.Entries.{pages_of, entry_at}
use Rattle.pages.specs.Choices.{Target}
use Rattle.pages.proofs.Taking.{ready_same}
use Rattle.heap.specs.declared.heap.Heap.{Heap}
use Rattle.heap.specs.View.{view, target_number, moved_to}
use Rattle.heap.proofs.Views.{closed_is}
use Rattle.heap.proofs.Moving.{moved_room, moved_wide, moved_tall, moved_fits, moved_view}
use Rattle.heap.proofs.heap.Heap.move_found.Goals as goal

-- no target: nothing changes
module _ (h : Heap) (g n size : ℕ) (size_is : size ≡ (entry_at h.pages.entries g).size) (none : target_page (view h) size ≡ None) where
  none_of : target_page (view h) (entry_at h.pages.entries g).size ≡ None
  none_of = ap (target_page (view h)) (sym size_is) ∙ none

pub returns-in_err-page : goal.returns-in_err-page
returns-in_err-page c =
    let h = c.args.self.now in
    let e = none_of h c.args.g (number c.args.g c.args.s) c.size-size.result c.size-size.ensures (c.in_err-page.ensures.block.1 h.words h.tall) in
    let none : c.from_residual.result ≡ None = search rules in
    record {
      target = none ∙ sym (ap target_number e);
      view = ap (λ (es : List Entry). pages_of es h.words) c.in_err-page.ensures.block.0 ∙ sym (ap (moved_to (view h) (number c.args.g c.args.s)) e);
    }

-- the target is another page
apart : (h : Heap) (g t size : ℕ) → g < 64 → (entry_at h.pages.entries g).closed ≡ true → Target (view h) size t → g ≡ t → ⊥
apart h g t size l closed target e =
    both_ways (page_at (view h) t).closed target.takes.open_yet
    (ap (λ (x : ℕ). (page_at (view h) x).closed) (sym e) ∙ closed_is h g l ∙ closed)

pub copy_block-requires : goal.copy_block-requires
copy_block-requires c =
    let h = c.args.self.now in
    let at = c.requires.found in
    let tk = c.in_ok-page.ensures.block.0 in
    let target = c.in_ok-page.ensures.chosen h.words h.tall in
    let ne = apart h c.args.g c.in_ok-page.page c.size-size.result at.low c.requires.closed target in
    let room = moved_room h.pages.entries c.take_target.new.self.entries h.words h.words (number c.args.g c.args.s) c.args.g c.args.s c.in_ok-page.page c.in_ok-page.slot c.size-size.result c.is_marked-marked.result
    h.count h.tall h.wide h.fits at refl c.size-size.ensures c.is_marked-marked.ensures tk ne target.takes.class in
    let f = at.fit in
    let e = c.size-size.ensures in
    record {
      pages = (at.low, (tk.low, ne));
      within = (omega arith, (room.0, room.1));
      long = (h.tall, (h.wide c.args.g at.low, h.wide c.in_ok-page.page tk.low));
    }

pub invariant_of-self-2 : goal.invariant_of-self-2
invariant_of-self-2 c =
    let h = c.args.self.now in
    let es = h.pages.entries in
    let fs = c.take_target.new.self.entries in
    let vss = c.copy_block.new.words in
    let at = c.requires.found in
    let g : ℕ = c.args.g in
    let s : ℕ = c.args.s in
    let t : ℕ = c.in_ok-page.page in
    let z : ℕ = c.in_ok-page.slot in
    let size : ℕ = c.size-size.result in
    let m : Bool = c.is_marked-marked.result in
    let tk = c.in_ok-page.ensures.block.0 in
    let target = c.in_ok-page.ensures.chosen h.words h.tall in
    let ne = apart h g t size at.low c.requires.closed target in
    let size_is = c.size-size.ensures in
    let m-is = c.is_marked-marked.ensures in record {
      count = tk.count ∙ h.count;
      tall = moved_tall es fs h.words vss (number g s) g s t z size m h.count h.tall h.wide h.fits at refl size_is m-is tk ne target.takes.class c.number_of-copy.result c.number_of-copy.ensures c.copy_block.ensures;
      wide = moved_wide es fs h.words vss (number g s) g s t z size m h.count h.tall h.wide h.fits at refl size_is m-is tk ne target.takes.class c.number_of-copy.result c.number_of-copy.ensures c.copy_block.ensures;
      fits = moved_fits es fs h.words vss (number g s) g s t z size m h.count h.tall h.wide h.fits at refl size_is m-is tk ne target.takes.class c.number_of-copy.result c.number_of-copy.ensures c.copy_block.ensures;
    }

pub returns : goal.returns
returns c =
    let h = c.args.self.now in
    let es = h.pages.entries in
    let fs = c.take_target.new.self.entries in
    let vss = c.copy_block.new.words in
    let at = c.requires.found in
    let g : ℕ = c.args.g in
    let s : ℕ = c.args.s in
    let t : ℕ = c.in_ok-page.page in
    let z : ℕ = c.in_ok-page.slot in
    let size : ℕ = c.size-size.result in
    let m : Bool = c.is_marked-marked.result in
    let tk = c.in_ok-page.ensures.block.0 in
    let target = c.in_ok-page.ensures.chosen h.words h.tall in
    let ne = apart h g t size at.low c.requires.closed target in
    let size_is = c.size-size.ensures in
    let m-is = c.is_marked-marked.ensures in
    let found = c.in_ok-page.ensures.block.1 h.words h.tall in
    let e : target_page (view h) (entry_at es g).size ≡ Some (found.0, t) = ap (target_page (view h)) (sym size_is) ∙ found.1 in
    let f = at.fit in
    let some : (size ≡ 0 → ⊥) = λ q. omega arith in
    let low : z ≡ lowest_free (page_at (view h) t).slots =
    tk.lowest h.words h.tall ∙ ap (λ (p : Page). lowest_free p.slots) (ready_same (page_at (view h) t) size (λ q. some (sym target.takes.class ∙ q))) in
    record {
      target = sym (ap target_number e);
      view =
          moved_view es fs h.words vss (number g s) g s t z size m h.count h.tall h.wide h.fits at refl size_is m-is tk ne target.takes.class c.number_of-copy.result c.number_of-copy.ensures c.copy_block.ensures
          ∙ ap (λ (x : ℕ). moved (view h) (number g s) x (block_at (view h) (number g s))) (c.number_of-copy.ensures ∙ ap (number t) low)
          ∙ sym (ap (moved_to (view h) (number g s)) e);
    }
