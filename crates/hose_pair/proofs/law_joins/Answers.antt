use Rattle.hose_pair.proofs.Compared.{joins}
use Rattle.hose_pair.proofs.law_joins.Goals as goal

pub returns : goal.returns
returns g c = λ state own packet at mine given left leader sent told is_network has offered low same.
    joins g.D.Disk c.args.top.now state own packet at mine given left leader sent told is_network has offered low same
