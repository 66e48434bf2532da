use Rattle.std.proofs.Common.{rules, arith}
use Rattle.std.proofs.lemmas.Grind.{common_steps}
use Rattle.engine.proofs.Asks.{asked}
use Rattle.engine.proofs.engine.EnginePerforms.read.Goals as goal

pub returns : goal.returns
returns g c = record { answered = grind (arith, common_steps, asked); after = search rules }
