-- Each turn sifts one more event; the row that is left and the one carried are the split.
use Rattle.std.proofs.Common.{◌≡◌, ℕ, ◌+◌, ◌<◌, true, false, List, map, length, get_or, set, sym, ap, ◌∙◌, subst, arith, rules}
use Rattle.std.proofs.lemmas.List.{length-map, map-set, get_or-map, set-get_or}
use Rattle.model.specs.Graph as model
use Rattle.model.specs.Graph.{before, split_first}
use Rattle.graph.specs.declared.events.Event.{Event}
use Rattle.graph.specs.View.{event_of}
use Rattle.graph.proofs.Sifting.{Sifted, stays, passed}
use Rattle.graph.proofs.events.take_first.Goals as goal
use Rattle.graph.proofs.events.take_first.Goals.{then-lt, else-lt}

-- what stands past the end of the row
abbrev unset : Event
unset = record { key = record { time = 0; serial = 0 }; names = 0 }

module _ (whole : model.Event × List model.Event) (rows : List Event) (i : ℕ) (first : Event) (within : i < length rows) (so-far : Sifted whole (event_of first) (map event_of rows) i) where
  below : i < length (map event_of rows)
  below = omega (arith, length-map rows event_of)

  -- the event and the carried one change places
  exchanged : (d first' old : Event) (rows' : List Event) → before (event_of (get_or rows i d)) (event_of first) ≡ true →
      first' ≡ get_or rows i d → old ≡ first → rows' ≡ set rows i old → Sifted whole (event_of first') (map event_of rows') (i + 1)
  exchanged d first' old rows' b e f g =
      let x = event_of (get_or rows i d) in
      subst (λ y. Sifted whole (event_of y) (map event_of rows') (i + 1)) (sym e)
      (subst (λ row. Sifted whole x row (i + 1)) (sym (ap (map event_of) (g ∙ ap (set rows i) f) ∙ map-set event_of rows i first))
      (passed whole (event_of first) (map event_of rows) i x below (sym (get_or-map event_of rows i d x within)) b so-far))

  -- both stay
  kept : (d first' : Event) (rows' : List Event) → before (event_of (get_or rows i d)) (event_of first) ≡ false →
      first' ≡ first → rows' ≡ set rows i (get_or rows i d) → Sifted whole (event_of first') (map event_of rows') (i + 1)
  kept d first' rows' b e g =
      let x = event_of (get_or rows i d) in
      subst (λ y. Sifted whole (event_of y) (map event_of rows') (i + 1)) (sym e)
      (subst (λ row. Sifted whole (event_of first) (map event_of row) (i + 1)) (sym (g ∙ set-get_or rows i d))
      (stays whole (event_of first) (map event_of rows) i x below (sym (get_or-map event_of rows i d x within)) b so-far))

pub loop-event-preserved : goal.loop-event-preserved
loop-event-preserved c =
    let rows = c.loop-event.event-items in
    let i = c.loop-event.event-index in
    let first = c.loop-event.first in
    let whole = split_first (event_of c.in_ok-events.first.now) (map event_of c.in_ok-events.others.now) in
    let within : i < length rows = omega (arith, c.loop-event.auto.event-items) in
    let sooner : c.lt.result ≡ before (event_of (get_or rows i unset)) (event_of first) = search rules in
    elim c.if-lt.branch [
      | then-lt w ↦
          exchanged whole rows i first within c.loop-event.invariant unset c.if-lt.first w.swap.new.x c.if-lt.event-items
          (sym sooner ∙ w.if-lt.true) (w.first-is ∙ w.swap.ensures.y_after) w.swap.ensures.x_after w.event-items-is
      | else-lt w ↦
          kept whole rows i first within c.loop-event.invariant unset c.if-lt.first c.if-lt.event-items
          (sym sooner ∙ w.if-lt.false) w.first-is w.event-items-is
    ]
