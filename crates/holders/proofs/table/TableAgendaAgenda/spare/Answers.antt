use Rattle.std.proofs.Common.{◌≡◌, length, refl, arith}
use Rattle.std.proofs.lemmas.Grind.{common_steps}
use Rattle.holders.specs.Keys.{spare_of}
use Rattle.holders.proofs.Firsts.{spare_position}
use Rattle.holders.proofs.Words.{spare_stands}
use Rattle.holders.proofs.table.TableAgendaAgenda.spare.Goals as goal

pub returns-clause-value : goal.returns-clause-value
returns-clause-value c =
    let ks = c.args.self.now.keys in
    let s = spare_position ks in
    let w = (spare_stands ks (spare_of ks) refl).within in
    let l : length ks ≡ 64 = c.args.self.now.deep in
    grind (arith, common_steps)

pub returns-clause-lowest : goal.returns-clause-lowest
returns-clause-lowest c = spare_stands _ _ (returns-clause-value c)
