use Rattle.std.proofs.Common.{None, refl, ap, ◌∙◌, arith}
use Rattle.std.proofs.lemmas.List.FromFn.{fill_by_all}
use Rattle.pages.specs.Choices.{candidate_at, least_candidate}
use Rattle.pages.proofs.Rows.{low_none}
use Rattle.pages.proofs.table.choices.least_by.Goals as goal

pub loop-page-init : goal.loop-page-init
loop-page-init g c = (refl, low_none, λ h f k l. absurd (omega arith))

pub returns-clause-page : goal.returns-clause-page
returns-clause-page g c h f =
    let l = c.loop-page-test.false in
    c.least_page.ensures
    ∙ ap least_candidate
    (fill_by_all (λ k. candidate_at (h k) k) c.loop-page.place-items 64 None c.loop-page.invariant.0 (λ k m. c.loop-page.invariant.2 h f k (omega arith)))
