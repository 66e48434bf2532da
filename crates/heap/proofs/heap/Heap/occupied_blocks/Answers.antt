use Rattle.std.proofs.Common.{◌≡◌, ◌∙◌, rules, arith}
use Rattle.std.specs.List.{range_with_len}
use Rattle.std.proofs.lemmas.Iterator.{YieldsList-from_range, YieldsList-from_map}
use Rattle.std.proofs.lemmas.Iterator.Consumers.{sum_by_from_yields_List, fits_by_from_yields_list}
use Rattle.model.specs.Pages.{page_at, occupied}
use Rattle.pages.specs.Entries.{WhateverWords}
use Rattle.heap.specs.View.{view, occupied_blocks}
use Rattle.heap.proofs.Views.{long, few_occupied}
use Rattle.heap.proofs.Counts.{sum_of_occupied, all_either_way}
use Rattle.heap.proofs.heap.Heap.occupied_blocks.Goals as goal

pub sum-requires-clause-fits : goal.sum-requires-clause-fits
sum-requires-clause-fits c =
    let h = c.args.self.now in
    let few = few_occupied h in
    fits_by_from_yields_list (λ g. occupied (page_at (view h) g).slots) (range_with_len 0 64) c.map.result _
    (YieldsList-from_map _ (λ g. occupied (page_at (view h) g).slots) (YieldsList-from_range 0 64 64 c.map.ensures.source (omega arith)) c.map.ensures.closure (λ x r q k. let u : WhateverWords h.pages.entries (λ ps. r ≡ occupied (page_at ps x).slots) = search rules in (search rules, u h.words h.tall)))
    (omega arith)

counted : (c : goal.After-sum) → c.sum.result ≡ occupied_blocks (view c.args.self.now)
counted c =
    let h = c.args.self.now in
    sum_by_from_yields_List (λ g. occupied (page_at (view h) g).slots) (range_with_len 0 64) c.map.result c.sum.result c.sum.ensures.ran
    (YieldsList-from_map _ (λ g. occupied (page_at (view h) g).slots) (YieldsList-from_range 0 64 64 c.map.ensures.source (omega arith)) c.map.ensures.closure (λ x r q k. let u : WhateverWords h.pages.entries (λ ps. r ≡ occupied (page_at ps x).slots) = search rules in (search rules, u h.words h.tall)))
    ∙ sum_of_occupied (view h) (long h)

pub returns-clause-count : goal.returns-clause-count
returns-clause-count c = counted c

pub returns-clause-together : goal.returns-clause-together
returns-clause-together c = let a = all_either_way 0 (view c.args.self.now) in let e = counted c in omega arith
