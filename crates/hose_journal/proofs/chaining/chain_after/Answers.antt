use Rattle.std.proofs.Common.{◌++◌, []}
use Rattle.hose_journal.proofs.Chains.{chain_with}
use Rattle.hose_journal.proofs.chaining.chain_after.Goals as goal

pub returns : goal.returns
returns c = λ digest entries entry value body.
    let held = c.update-2.ensures c.args.value.now (c.update.ensures [] c.new-hasher.ensures) in
    chain_with c.args.value.now c.finalize.result c.args.body.now digest entries entry value body (c.finalize.ensures (c.args.value.now ++ c.args.body.now) held)
