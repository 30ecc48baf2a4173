use Rattle.std.proofs.Common.{List, ℕ, subst, sym, take}
use Rattle.hose_net.specs.Happening.{Took}
use Rattle.hose_net.specs.Story.{Exchange, Link, link_after}
use Rattle.hose_host.proofs.Keepings.{link_quiet, link_took}
use Rattle.hose_host.proofs.linking.send_some.Goals as goal

pub returns-in-Ok-clause-keeps : goal.returns-in-Ok-clause-keeps
returns-in-Ok-clause-keeps g c =
    let by = g.A.HostAnswers in
    let old = c.args.answers.now in
    let new = c.was_sent.new.self in
    link_took g.N.Connections g.A.HostAnswers c.args.network.now c.write_link.new.self old new c.unsent-unsent.result.now c.in-Ok.count c.kept.result.now c.in-Ok.ensures.did c.in-Ok.ensures.saw (λ from xs link. c.kept.ensures from xs link) c.unsent-unsent.ensures.leads
    (subst (λ (bytes : List ℕ). (from : by.origin) (xs : List (Exchange by.said _)) (link : Link) → by.comes from xs link old → by.comes from xs (link_after link (Took (take c.in-Ok.count bytes))) new) (sym c.unsent-unsent.ensures.is) c.was_sent.ensures.comes) c.was_sent.ensures.leaves

pub returns-in-Err-clause-keeps : goal.returns-in-Err-clause-keeps
returns-in-Err-clause-keeps g c = link_quiet g.N.Connections g.A.HostAnswers _ c.args.network.now c.write_link.new.self c.args.answers.now c.in-Err.ensures.did
