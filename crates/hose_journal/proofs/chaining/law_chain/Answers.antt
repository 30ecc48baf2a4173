use Rattle.hose_journal.proofs.Chains.{one_chain}
use Rattle.hose_journal.proofs.chaining.law_chain.Goals as goal

pub returns : goal.returns
returns c =
    one_chain c.args.digest.now c.args.one.now c.args.other.now c.requires.one c.requires.other c.requires.length c.requires.chain
