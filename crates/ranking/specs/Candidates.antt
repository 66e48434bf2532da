-- The order of candidates. Assumes nothing.
use Rattle.std.specs.Prelude.{Bool}
use Rattle.ranking.specs.declared.candidate.Candidate.{Candidate}
use Rattle.ranking.specs.Orders.{by_number, then_by}

-- by figure, then by number
abbrev pub candidate_before : Candidate → Candidate → Bool
candidate_before = then_by (by_number (λ c. c.figure)) (by_number (λ c. c.number))
