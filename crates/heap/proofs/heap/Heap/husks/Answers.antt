use Rattle.std.proofs.Common.{◌≡◌, false, ◌∙◌, rules, arith}
use Rattle.std.specs.List.{range_with_len}
use Rattle.std.proofs.lemmas.Iterator.{YieldsList-from_range, YieldsList-from_map}
use Rattle.std.proofs.lemmas.Iterator.Consumers.{sum_by_from_yields_List, fits_by_from_yields_list}
use Rattle.model.specs.Pages.{page_at, count_slots, count_of_blocks}
use Rattle.heap.specs.View.{view}
use Rattle.heap.proofs.Views.{long, few_in_all}
use Rattle.heap.proofs.Counts.{sum_of_blocks, all_either_way}
use Rattle.heap.proofs.heap.Heap.husks.Goals as goal

pub sum-requires-clause-fits : goal.sum-requires-clause-fits
sum-requires-clause-fits c =
    let h = c.args.self.now in
    let few = few_in_all h false in
    fits_by_from_yields_list (λ g. count_slots false g 0 (page_at (view h) g).slots) (range_with_len 0 64) c.map.result _
    (YieldsList-from_map _ (λ g. count_slots false g 0 (page_at (view h) g).slots) (YieldsList-from_range 0 64 64 c.map.ensures.source (omega arith)) c.map.ensures.closure (λ x r q k. search rules))
    (omega arith)

counted : (c : goal.After-sum) → c.sum.result ≡ count_of_blocks false 0 (view c.args.self.now)
counted c =
    let h = c.args.self.now in
    sum_by_from_yields_List (λ g. count_slots false g 0 (page_at (view h) g).slots) (range_with_len 0 64) c.map.result c.sum.result c.sum.ensures.ran
    (YieldsList-from_map _ (λ g. count_slots false g 0 (page_at (view h) g).slots) (YieldsList-from_range 0 64 64 c.map.ensures.source (omega arith)) c.map.ensures.closure (λ x r q k. search rules))
    ∙ sum_of_blocks false (view h) (long h)

pub returns-clause-count : goal.returns-clause-count
returns-clause-count c = counted c

pub returns-clause-together : goal.returns-clause-together
returns-clause-together c = let a = all_either_way 0 (view c.args.self.now) in let e = counted c in omega arith
