use Rattle.hose_lead.proofs.Parts.{number_told}
use Rattle.hose_lead.proofs.reading.number_after.Goals as goal

pub returns : goal.returns
returns c = number_told c.number.result c.args.line.now c.args.words.now c.in_ok-rest.rest.now c.in_ok-rest.ensures c.number.ensures.value
