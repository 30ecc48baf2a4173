use Rattle.std.proofs.Common.{Bool, subst, sym, true, ◌∙◌}
use Rattle.hose_host.specs.steps.Keeping.{KeepsHost, host_of, housed}
use Rattle.hose_host.specs.steps.Seats.{AllFinished, Resting}
use Rattle.hose_host.proofs.Keepings.{host_all, host_link, host_then}
use Rattle.hose_host.proofs.ending.finish.Goals as goal

pub returns-then-is_ending-clause-keeps : goal.returns-then-is_ending-clause-keeps
returns-then-is_ending-clause-keeps g c =
    let was = c.args.places.now in
    let ended = g.A.HostAnswers.ends c.finish_all.new.answers in
    let first = housed c.args.network.now c.args.answers.now was.seats.items was.heard was.opened in
    let mid = housed c.finish_all.new.network c.finish_all.new.answers c.finish_all.new.seats.items was.heard was.opened in
    let sent = housed c.bring.new.network c.bring.new.answers c.finish_all.new.seats.items was.heard was.opened in
    let brought = host_then g.N.Connections g.A.HostAnswers Resting (AllFinished ended) (AllFinished ended) first mid sent
    (host_all g.N.Connections g.A.HostAnswers Resting (AllFinished ended) was.opened first.hall mid.hall c.finish_all.ensures.keeps)
    (host_link g.N.Connections g.A.HostAnswers (AllFinished ended) was.opened was.opened c.finish_all.new.network c.bring.new.network c.finish_all.new.answers c.bring.new.answers c.finish_all.new.seats.items was.heard c.bring.ensures.keeps) in
    let last = host_of c.write_out.new.network c.write_out.new.answers c.write_out.new.places in
    let yes = sym c.is_ending.ensures ∙ c.if-is_ending.true in
    subst (λ (b : Bool). KeepsHost g.N.Connections g.A.HostAnswers Resting (AllFinished b) first last) (sym (c.write_out.ensures.ends ∙ yes))
    (host_then g.N.Connections g.A.HostAnswers Resting (AllFinished true) (AllFinished true) first sent last
    (subst (λ (b : Bool). KeepsHost g.N.Connections g.A.HostAnswers Resting (AllFinished b) first sent) (sym c.bring.ensures.ends ∙ yes) brought)
    c.write_out.ensures.keeps)

pub returns-else-is_ending-clause-keeps : goal.returns-else-is_ending-clause-keeps
returns-else-is_ending-clause-keeps g c =
    let was = c.args.places.now in
    let ended = g.A.HostAnswers.ends c.finish_all.new.answers in
    let first = housed c.args.network.now c.args.answers.now was.seats.items was.heard was.opened in
    let mid = housed c.finish_all.new.network c.finish_all.new.answers c.finish_all.new.seats.items was.heard was.opened in
    let sent = housed c.bring.new.network c.bring.new.answers c.finish_all.new.seats.items was.heard was.opened in
    let brought = host_then g.N.Connections g.A.HostAnswers Resting (AllFinished ended) (AllFinished ended) first mid sent
    (host_all g.N.Connections g.A.HostAnswers Resting (AllFinished ended) was.opened first.hall mid.hall c.finish_all.ensures.keeps)
    (host_link g.N.Connections g.A.HostAnswers (AllFinished ended) was.opened was.opened c.finish_all.new.network c.bring.new.network c.finish_all.new.answers c.bring.new.answers c.finish_all.new.seats.items was.heard c.bring.ensures.keeps) in
    subst (λ (b : Bool). KeepsHost g.N.Connections g.A.HostAnswers Resting (AllFinished b) first sent) (sym c.bring.ensures.ends) brought
