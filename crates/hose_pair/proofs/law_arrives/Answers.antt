use Rattle.hose_pair.proofs.Arrivals.{arrives}
use Rattle.hose_pair.proofs.law_arrives.Goals as goal

pub returns : goal.returns
returns c = λ sent packets from got unread rest are also all cut. arrives sent packets from got unread rest are also all cut
