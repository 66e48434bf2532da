use Rattle.std.proofs.Common.{◌≡◌, ℕ, ◌+◌, true, List, [], ◌∷◌, length, reverse, sym, ap, ◌∙◌, ap₂, arith}
use Rattle.std.proofs.lemmas.List.{reverse-append}
use Rattle.model.specs.Pages.{Page, block_at, current}
use Rattle.heap.specs.Blocks.{marking}
use Rattle.heap.specs.View.{view, white_of}
use Rattle.collector.specs.Counts.{white}
use Rattle.collector.specs.Tracing.{traced}
use Rattle.collector.proofs.Sounds.{white_marking, grey_white}
use Rattle.collector.proofs.tracing.Tracing.grey.Goals as goal

-- one block less is not marked
fewer : (ps qs : List Page) (m : ℕ) → qs ≡ marking ps m → true ≡ white_of (block_at ps m) → white qs + 1 ≡ white ps
fewer ps qs m e w = ap (λ (xs : List Page). white xs + 1) e ∙ white_marking ps m (sym w)

pub push-requires : goal.push-requires
push-requires c =
    let f = fewer (view c.args.self.now.heap) (view c.mark.new.self) c.current-m.result c.mark.ensures c.if-is_white.ensures in
    omega arith

pub returns-then-is_white : goal.returns-then-is_white
returns-then-is_white c =
    let ps : List Page = view c.args.self.now.heap in
    let m : ℕ = c.current-m.result in
    let is : m ≡ current ps c.args.n = c.current-m.ensures in
    let f = fewer ps (view c.mark.new.self) m c.mark.ensures c.if-is_white.ensures in
    let long = ap length c.push.ensures.items in
    let wh : white_of (block_at ps (current ps c.args.n)) ≡ true = ap (λ (x : ℕ). white_of (block_at ps x)) (sym is) ∙ sym c.if-is_white.ensures in
    record {
      heap = λ at units.
          ap₂ (λ (x : List Page) (y : List ℕ). record { pages = x; work = y; phase = at; units = units })
          (c.mark.ensures ∙ ap (marking ps) is)
          (ap reverse c.push.ensures.items ∙ reverse-append c.args.self.now.work.items (m ∷ []) ∙ ap (λ (x : ℕ). x ∷ reverse c.args.self.now.work.items) is)
          ∙ sym (grey_white (traced c.args.self.now at units) c.args.n wh);
      tally = omega arith;
    }
