use Rattle.std.proofs.Common.{◌∙◌, length, ap}
use Rattle.hose_graph.specs.Network.{Network}
use Rattle.hose_gen.proofs.Numbered.{length-node_names}
use Rattle.hose_gen.proofs.generate.Goals as goal

pub returns-clause-asks : goal.returns-clause-asks
returns-clause-asks c =
    c.in_ok-script.ensures.asks c.add_links.new.top (ap (λ (n : Network). length n.nodes) c.add_links.ensures.added ∙ length-node_names c.args.nodes)
