use Rattle.std.proofs.Common.{ℕ, ◌+◌, ◌%◌, ltb, get_or, refl, sym, ap, ◌∙◌, subst}
use Rattle.std.specs.Bool.{then_some}
use Rattle.heap.specs.Blocks.{block_words, FindsReference}
use Rattle.heap.proofs.Found.{reference_lies}
use Rattle.heap.proofs.heap.Heap.reference_at.Goals as goal

pub returns : goal.returns
returns c =
    let h = c.args.self.now in
    let f : ℕ = c.args.f in
    let g : ℕ = c.in_ok-g.g in
    let s : ℕ = c.in_ok-g.s in
    subst (FindsReference h.pages.entries h.words c.args.n f)
    (sym (c.then_some.ensures ∙ ap (λ (x : ℕ). then_some {T = ℕ × ℕ × ℕ} (ltb f (x % 32)) (g, s, 2 + f)) c.word-references.ensures))
    (reference_lies h.pages.entries h.words c.args.n g s h.count h.tall h.wide c.in_ok-g.ensures f (ltb f (get_or (block_words h.pages.entries h.words g s) 1 0 % 32)) refl)
