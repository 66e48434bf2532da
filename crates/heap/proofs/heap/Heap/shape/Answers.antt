use Rattle.std.proofs.Common.{◌≡◌, ℕ, ◌/◌, ◌%◌, get_or, sym, ◌∙◌, ap₂, rules}
use Rattle.heap.specs.Blocks.{block_words}
use Rattle.heap.specs.View.{shape_of}
use Rattle.heap.proofs.Found.{found_value, its_count, its_words}
use Rattle.heap.proofs.heap.Heap.shape.Goals as goal

pair : ℕ → ℕ → ℕ × ℕ
pair a b = (a, b)

pub returns : goal.returns
unfolding pair
returns c =
    let h = c.args.self.now in
    found_value shape_of h.pages.entries h.words c.args.n c.find.result c.map_or.result c.find.ensures c.map_or.ensures
    (λ x at p.
    let is : c.map_or.result ≡ (get_or (block_words h.pages.entries h.words x.0 x.1) 1 0 % 32, get_or (block_words h.pages.entries h.words x.0 x.1) 1 0 / 32) = search rules in
    is
    ∙ sym (ap₂ pair (its_count h.pages.entries h.words c.args.n x.0 x.1 h.count h.tall h.wide at) (its_words h.pages.entries h.words c.args.n x.0 x.1 h.count h.tall h.wide at)))
