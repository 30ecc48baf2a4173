use Rattle.std.proofs.Common.{[], ◌∷◌, List, Some, ⊎_elim, subst, arith}
use Rattle.hose_graph.specs.declared.entry.Entry.{Entry}
use Rattle.hose_clerk.specs.declared.doors.DoorRule.TheVariants.{Any}
use Rattle.hose_pair.specs.steps.Orders.{HasOrders}
use Rattle.hose_pair.proofs.Stored.{met_somewhere, met_there}
use Rattle.hose_pair.proofs.TwoNodes.{both_networks}
use Rattle.hose_pair.proofs.law_met.Goals as goal

pub returns-clause-here : goal.returns-clause-here
returns-clause-here c = λ path may_be_alone required some differs. met_there c.args.top.now some path may_be_alone required differs

pub returns-clause-somewhere : goal.returns-clause-somewhere
returns-clause-somewhere c = λ path may_be_alone required. met_somewhere path may_be_alone required

pub returns-clause-networks : goal.returns-clause-networks
returns-clause-networks c = both_networks

pub returns-clause-told : goal.returns-clause-told
returns-clause-told c = λ path may_be_alone required met. ⊎_elim
    (λ has. subst (λ (orders : List Entry). HasOrders c.args.top.now orders met.image) met.entered has)
    (λ collide. absurd (omega (arith, collide.one_there.1)))
    (c.law_standby.ensures.told (Any ∷ []) (Some path) may_be_alone required [] met.start met.told met.end met.exchange met.state met.image met.was met.goes met.leader met.leaves)
