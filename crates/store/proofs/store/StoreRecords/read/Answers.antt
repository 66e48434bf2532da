use Rattle.store.proofs.Performed.{performed}
use Rattle.store.proofs.store.StoreRecords.read.Goals as goal

pub returns : goal.returns
returns g c = performed _ _ _ _ _ _ g.met.H.Holder.some g.met.H.Holder.few g.met.A.Holder.some g.met.A.Holder.few c.read.ensures
