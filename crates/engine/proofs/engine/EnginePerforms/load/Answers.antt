use Rattle.std.proofs.Common.{rules, ap, sym, ◌∙◌, arith}
use Rattle.std.specs.Option.{ok_or}
use Rattle.std.proofs.lemmas.Grind.{common_steps}
use Rattle.calls.specs.declared.Refusal.TheVariants.{NoSuchReference}
use Rattle.model.specs.Pages.{block_at, refs_of}
use Rattle.collector.specs.View.{heap_of}
use Rattle.engine.proofs.Asks.{asked, gone, there}
use Rattle.engine.proofs.engine.EnginePerforms.load.Goals as goal

pub returns-in_err-referred : goal.returns-in_err-referred
returns-in_err-referred g c =
    let refs = refs_of (block_at (heap_of c.args.self.now.parts.collector).pages c.in-Some.block) in
    let e = gone refs c.args.reference NoSuchReference _ (ap (λ o. ok_or o NoSuchReference) (sym c.reference.ensures) ∙ sym c.ok_or.ensures.value ∙ c.in_err-referred.was) in
    record { answered = grind (arith, common_steps, asked); after = search rules }

pub returns : goal.returns
returns g c =
    let refs = refs_of (block_at (heap_of c.args.self.now.parts.collector).pages c.in-Some.block) in
    let e = there refs c.args.reference NoSuchReference c.in_ok-referred.referred (ap (λ o. ok_or o NoSuchReference) (sym c.reference.ensures) ∙ sym c.ok_or.ensures.value ∙ c.in_ok-referred.was) in
    record { answered = grind (arith, common_steps, asked); after = grind (arith, common_steps) }
