use Rattle.std.proofs.Common.{ℕ, ◌+◌, ◌/◌, ◌%◌, ltb, get_or, refl, sym, ap, ◌∙◌, subst}
use Rattle.std.specs.Bool.{then_some}
use Rattle.heap.specs.Blocks.{block_words, FindsWord}
use Rattle.heap.proofs.Found.{word_lies}
use Rattle.heap.proofs.heap.Heap.word_at.Goals as goal

pub returns : goal.returns
returns c =
    let h = c.args.self.now in
    let w : ℕ = c.args.w in
    let g : ℕ = c.in_ok-g.g in
    let s : ℕ = c.in_ok-g.s in
    subst (FindsWord h.pages.entries h.words c.args.n w)
    (sym (c.then_some.ensures ∙ ap (λ (x : ℕ). then_some {T = ℕ × ℕ × ℕ} (ltb w (x / 32)) (g, s, 2 + x % 32 + w)) c.word-shape.ensures))
    (word_lies h.pages.entries h.words c.args.n g s h.count h.tall h.wide c.in_ok-g.ensures w (ltb w (get_or (block_words h.pages.entries h.words g s) 1 0 / 32)) refl)
