use Rattle.hose_pair.proofs.Compared.{own_disk}
use Rattle.hose_pair.proofs.law_own_disk.Goals as goal

pub returns : goal.returns
returns g c = λ store list doubt image is_network has may. own_disk g.D.Disk c.args.top.now store list doubt image is_network has may
