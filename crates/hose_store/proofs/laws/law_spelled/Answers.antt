use Rattle.hose_store.proofs.Spelled.{history_spelled}
use Rattle.hose_store.proofs.laws.law_spelled.Goals as goal

pub returns : goal.returns
returns g c = λ store history doubt has. history_spelled g.D.Disk store history doubt has
