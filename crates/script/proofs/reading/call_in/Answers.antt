-- What `call_in` ensures, and what its steps need.
use Rattle.std.proofs.Common.{map, Some, inl, inr, sym, ap, ◌∙◌, arith, rules, tests}
use Rattle.std.proofs.lemmas.List.{map-append}
use Rattle.std.proofs.lemmas.Iterator.Consumers.{YieldsList-at, YieldsList-end}
use Rattle.script.specs.Lines.{call_of_fields, named_call}
use Rattle.script.specs.Numerals.{numbers}
use Rattle.script.proofs.Letters.{too_many_none}
use Rattle.script.proofs.Splitting.{first_yielded, lettered, not_lettered, on_none, on_some, one_more, stopped}
use Rattle.script.proofs.reading.call_in.Goals as goal

pub returns-in_default : goal.returns-in_default
returns-in_default c =
    let first = first_yielded _ c.split-fields.result c.next.new.self c.in_ok-next.field-0 c.args.line.now c.split-fields.ensures.rest c.split-fields.ensures.done c.split-fields.ensures.closure (λ x b q k. search (rules, tests)) c.in_ok-next.ensures.steps in
    not_lettered c.in_ok-next.field-0.now first.0 (λ one. omega arith) ∙ ap call_of_fields (sym first.1)

pub returns-in_default-2 : goal.returns-in_default-2
returns-in_default-2 c =
    let first = first_yielded _ c.split-fields.result c.next.new.self c.in_ok-next.field-0 c.args.line.now c.split-fields.ensures.rest c.split-fields.ensures.done c.split-fields.ensures.closure (λ x b q k. search (rules, tests)) c.in_ok-next.ensures.steps in
    not_lettered c.in_ok-next.field-0.now first.0 (λ one. omega arith) ∙ ap call_of_fields (sym first.1)

pub returns-in_err-numeral_of : goal.returns-in_err-numeral_of
returns-in_err-numeral_of c =
    let first = first_yielded _ c.split-fields.result c.next.new.self c.in_ok-next.field-0 c.args.line.now c.split-fields.ensures.rest c.split-fields.ensures.done c.split-fields.ensures.closure (λ x b q k. search (rules, tests)) c.in_ok-next.ensures.steps in
    let road = YieldsList-at c.into_iter-field-iterator.ensures.into_iter_gives first.2 in
    rw c.from_residual-in_err-numeral_of.ensures
    (too_many_none c.in_ok-next.field-0.now first.0 (stopped road c.loop-field.yielded _ c.next-in-loop-field.new.self c.in-Some.field _ c.loop-field.yielded_by c.in-Some.ensures.steps c.loop-field.invariant.2 (inl (sym c.numeral_of.ensures ∙ c.in_err-numeral_of.was))) ∙ ap call_of_fields (sym first.1))

pub loop-field-preserved : goal.loop-field-preserved
loop-field-preserved c =
    let pushed = on_some _ _ c.ok.ensures.value c.in_ok-ok.was c.try_push.ensures.ok in
    let more = one_more (map (λ f. f.now) c.loop-field.yielded) c.in-Some.field.now _ _ c.loop-field.invariant.2 (sym c.numeral_of.ensures ∙ c.in_ok-numeral_of.was) in
    (search rules, search rules, rw (map-append, pushed) more)

pub returns-in_err-ok : goal.returns-in_err-ok
returns-in_err-ok c =
    let first = first_yielded _ c.split-fields.result c.next.new.self c.in_ok-next.field-0 c.args.line.now c.split-fields.ensures.rest c.split-fields.ensures.done c.split-fields.ensures.closure (λ x b q k. search (rules, tests)) c.in_ok-next.ensures.steps in
    let road = YieldsList-at c.into_iter-field-iterator.ensures.into_iter_gives first.2 in
    rw c.from_residual-in_err-ok.ensures
    (too_many_none c.in_ok-next.field-0.now first.0 (stopped road c.loop-field.yielded _ c.next-in-loop-field.new.self c.in-Some.field _ c.loop-field.yielded_by c.in-Some.ensures.steps c.loop-field.invariant.2 (inr (omega (arith, on_none _ _ c.ok.ensures.value c.in_err-ok.was c.try_push.ensures.full)))) ∙ ap call_of_fields (sym first.1))

pub returns : goal.returns
returns c =
    let first = first_yielded _ c.split-fields.result c.next.new.self c.in_ok-next.field-0 c.args.line.now c.split-fields.ensures.rest c.split-fields.ensures.done c.split-fields.ensures.closure (λ x b q k. search (rules, tests)) c.in_ok-next.ensures.steps in
    let road = YieldsList-at c.into_iter-field-iterator.ensures.into_iter_gives first.2 in
    let end = YieldsList-end road c.loop-field.yielded _ c.loop-field.yielded_by _ _ c.in-None.is c.next-in-loop-field.ensures.steps in
    c.call_named.ensures ∙
    ap (named_call c.from.result) (ap Some c.as_slice.ensures.value ∙ sym c.loop-field.invariant.2 ∙ ap numbers end.0) ∙
    lettered c.in_ok-next.field-0.now first.0 c.from.result (omega arith) c.from.ensures ∙
    ap call_of_fields (sym first.1)
