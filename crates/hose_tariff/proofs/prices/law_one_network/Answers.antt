use Rattle.hose_tariff.proofs.OneNetwork.{one_network}
use Rattle.hose_tariff.proofs.prices.law_one_network.Goals as goal

pub returns : goal.returns
returns g c = λ cost is network priced told by. one_network _ cost is network priced told by
