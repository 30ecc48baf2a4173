use Rattle.std.proofs.Common.{rules}
use Rattle.hose_topo_json.proofs.OneAnswer.{accepts, refuses}
use Rattle.hose_topo_json.proofs.reading.read_json.Goals as goal

pub returns-clause-accepts : goal.returns-clause-accepts
returns-clause-accepts c = accepts c.args.bytes.now c.read_members.result (search rules)

pub returns-clause-refuses : goal.returns-clause-refuses
returns-clause-refuses c = refuses c.args.bytes.now c.read_members.result (search rules)
