use Rattle.std.proofs.Common.{◌≡◌, ℕ, List, [], length, get_or, set, sym, ap, ◌∙◌, arith, length-set, get_or-set_other, get_or-set_same}
use Rattle.heap.proofs.Copying.{copying_more, copying_all}
use Rattle.heap.proofs.heap.moving.copy_block.Goals as goal

-- the words with the number of the copy in both pages
abbrev first_of : List (List ℕ) → ℕ → ℕ → ℕ → List (List ℕ)
first_of wss g from n = set wss g (set (get_or wss g []) from n)

abbrev both_of : List (List ℕ) → ℕ → ℕ → ℕ → ℕ → ℕ → List (List ℕ)
both_of wss g from t to n = set (first_of wss g from n) t (set (get_or (first_of wss g from n) t []) to n)

pub loop-k-preserved : goal.loop-k-preserved
loop-k-preserved c =
    let wss = c.args.words.now in
    let g : ℕ = c.args.from.0 in
    let t : ℕ = c.args.to.0 in
    let n : ℕ = c.args.n in
    let U = first_of wss g c.args.from.1 n in
    let a = length-set wss g (set (get_or wss g []) c.args.from.1 n) in
    let b = length-set U t (set (get_or U t []) c.args.to.1 n) in
    let tall = c.requires.long.0 in
    let lt = c.requires.pages.1.0 in
    let here = get_or-set_same U t (set (get_or U t []) c.args.to.1 n) [] (omega arith) in
    let old = get_or-set_other wss g t (set (get_or wss g []) c.args.from.1 n) [] (λ e. c.requires.pages.1.1 (sym e)) in
    let long : length (get_or (both_of wss g c.args.from.1 t c.args.to.1 n) t []) ≡ 256 =
    ap length here ∙ length-set (get_or U t []) c.args.to.1 n ∙ ap length old ∙ c.requires.long.1.1 in
    let l = c.loop-k-test.true in
    let m = c.requires.within.1.1 in
    copying_more (both_of wss g c.args.from.1 t c.args.to.1 n) c.loop-k.words g c.args.from.1 t c.args.to.1 c.loop-k.k c.requires.pages.1.1 c.loop-k.auto.k (omega arith) (omega arith) c.loop-k.invariant

pub returns : goal.returns
returns c =
    let tall = c.requires.long.0 in
    let wide = c.requires.long.1.1 in
    let lg = c.requires.pages.0 in
    let lt = c.requires.pages.1.0 in
    let one = c.requires.within.0 in
    let m = c.requires.within.1.1 in
    copying_all c.args.words.now c.loop-k.words c.args.from.0 c.args.from.1 c.args.to.0 c.args.to.1 c.args.len c.args.n c.loop-k.k c.requires.pages.1.1 (omega arith) (omega arith) c.requires.within.0 (omega arith)
    c.loop-k-test.false (c.loop-k.auto.k-end c.requires.within.0) c.loop-k.invariant
