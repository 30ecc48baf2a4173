use Rattle.std.proofs.Common.{refl, rules}
use Rattle.hose_offline.specs.GenOutcome.{EndsSummary}
use Rattle.hose_outside.specs.Why.{why_status}
use Rattle.hose_offline.proofs.GenOutcomes.{ends_summary, gen_not_1}
use Rattle.hose_offline.proofs.generating.run_generated.Goals as goal

pub returns : goal.returns
returns g c =
    let ends : EndsSummary c.args.sizes g.O.Sink c.args.outside.now.output.now c.end.new.output (why_status c.end.result) = rw c.end.ensures.status (ends_summary c.args.sizes g.O.Sink _ _ _ c.sum_up-done.result c.sum_up-done.ensures.came c.end.ensures.last_line) in
    record { outcome = record { ends = ends; input = refl; cabinet = refl }; told = c.end.ensures.told; fails = tt; not_words = gen_not_1 c.args.sizes g.O.Sink _ _ (why_status c.end.result) ends; out = refl; keeps = search rules }
