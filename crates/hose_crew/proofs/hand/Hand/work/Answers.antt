use Rattle.std.proofs.Common.{◌∷◌, [], ◌∙◌, ap, rules, subst, sym}
use Rattle.std.proofs.lemmas.List.{map-append}
use Rattle.hose_graph.specs.Network.{Network}
use Rattle.hose_session.proofs.Accounting.{one_accounts}
use Rattle.hose_session.specs.steps.Session.{ServesSession}
use Rattle.hose_shared.proofs.Passes.{same_on}
use Rattle.hose_turn.specs.declared.view.Origin.{Origin}
use Rattle.hose_crew.specs.steps.Desk.{AreFresh}
use Rattle.hose_crew.proofs.Serving.{one_more}
use Rattle.hose_crew.proofs.Working.{works_more}
use Rattle.hose_crew.proofs.hand.Hand.work.Goals as goal

pub loop-one-preserved : goal.loop-one-preserved
loop-one-preserved g c =
    let told = g.N.DoorStart.start.told in
    let works = c.loop-one.invariant.0 in
    let one = c.in-Some-accept.one in
    let fresh : AreFresh g.L.In.Source g.L.Out.Sink told one.input one.output = rw c.in-Some-accept.is at c.accept.ensures.fresh in
    let served = c.serve_session-later in
    let takes = served.ensures.takes in
    let network = ap (λ (o : Origin). o.network) works.same.origin ∙ c.requires.may.of.network in
    let session = subst (λ (n : Network). ServesSession g.L.In.Source g.L.Out.Sink n one.input served.new.source one.output served.new.sink c.loop-one.pass served.result.1 served.result.0) (sym network) served.ensures.session in
    let more = works_more told _ _ (record { pass = served.result.1; parts = c.accept.new.share.parts; amount = c.accept.new.share.amount }) _ (g.L.Door.came_to c.done.result) c.requires.may.since works
    (same_on _ _ _ works.same served.ensures.session.same) (search rules) (search rules)
    (λ told began connections account. (one_more g.L.In.Source g.L.Out.Sink _ _ _ _ fresh.ends connections _ _ _ _ takes.0 _ c.done.ensures (fresh.empty told) takes.1 served.ensures.session
    (λ connection is. one_accounts g.L.In.Source g.L.Out.Sink connections connection _ _ _ _ _ _ _ takes.0 began account is session takes.1 takes.3))) in
    (rw (c.push_reserved.ensures.items, map-append g.L.Door.came_to c.loop-one.self-inside.ended.items (c.done.result ∷ [])) more, search rules)
