use Rattle.collector.proofs.collector.Collector.next_place.Goals as goal

pub invariant_of-self-else-next-saturating_sub-clause-sited : goal.invariant_of-self-else-next-saturating_sub-clause-sited
invariant_of-self-else-next-saturating_sub-clause-sited c = tt
