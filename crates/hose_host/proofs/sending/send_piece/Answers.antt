use Rattle.std.proofs.Common.{arith, rules, [], ◌∷◌, List, ℕ, ap, sym, subst, take, ◌∙◌, length}
use Rattle.std.proofs.lemmas.Bool.{eqb-true}
use Rattle.std.proofs.lemmas.List.{nil_from_length}
use Rattle.hose_net.specs.Happening.{Sent}
use Rattle.hose_host.proofs.Keepings.{keeps_lost, keeps_quiet, keeps_refused, keeps_same, keeps_sent, keeps_then, quiet_lost}
use Rattle.hose_host.specs.steps.Keeping.{at}
use Rattle.hose_host.specs.steps.Seats.{Freed, Quiet}
use Rattle.hose_host.proofs.sending.send_piece.Goals as goal

pub returns-in-Ok-clause-keeps : goal.returns-in-Ok-clause-keeps
returns-in-Ok-clause-keeps g c = λ heard kept. keeps_sent g.N.Connections g.A.HostAnswers heard kept c.args.place c.args.network.now c.write.new.self c.args.answers.now c.args.seat.now c.was_sent.new.self c.in-Ok.count c.kept.result.now (cc (c.is_lost.ensures, c.if-is_lost.false))
    (subst (λ (bytes : List ℕ). g.N.Connections.did c.args.network.now (Sent c.args.place (take c.in-Ok.count bytes) ∷ []) c.write.new.self) c.unsent-unsent.ensures c.in-Ok.ensures.did)
    c.in-Ok.ensures.saw (λ from xs link. c.kept.ensures from xs link)
    c.was_sent.ensures

pub returns-in-Err-NotNow-clause-keeps : goal.returns-in-Err-NotNow-clause-keeps
returns-in-Err-NotNow-clause-keeps g c = λ heard kept. keeps_refused g.N.Connections g.A.HostAnswers heard kept c.args.place c.args.network.now c.write.new.self c.args.answers.now c.args.seat.now kept (search (rules, arith)) (rw c.in-Err-NotNow.field-0-is at c.in-Err-NotNow.ensures.did)

pub returns-in-Err-Over-clause-keeps : goal.returns-in-Err-Over-clause-keeps
returns-in-Err-Over-clause-keeps g c = λ heard kept.
    let lost = ap (λ s. s.lost) c.lose.ensures in
    keeps_then g.N.Connections g.A.HostAnswers heard (Freed heard kept) (Freed heard kept) (Quiet heard kept) c.args.place (at c.args.network.now c.args.answers.now c.args.seat.now kept) (at c.write.new.self c.args.answers.now c.args.seat.now kept) (at c.write.new.self c.args.answers.now c.lose.new.self kept)
    (keeps_quiet g.N.Connections g.A.HostAnswers heard (Freed heard kept) c.args.place c.args.network.now c.write.new.self c.args.answers.now c.args.seat.now kept (rw c.in-Err-Over.field-0-is at c.in-Err-Over.ensures.did))
    (keeps_lost g.N.Connections g.A.HostAnswers heard (Freed heard kept) (Quiet heard kept) c.args.place c.write.new.self c.args.answers.now c.args.seat.now c.lose.new.self kept kept lost (λ life. quiet_lost g.N.Connections g.A.HostAnswers heard kept c.lose.new.self life lost))

pub returns-then-is_lost-clause-keeps : goal.returns-then-is_lost-clause-keeps
returns-then-is_lost-clause-keeps g c = λ heard kept. keeps_same g.N.Connections g.A.HostAnswers heard (Freed heard kept) (Quiet heard kept) c.args.place (at c.args.network.now c.args.answers.now c.args.seat.now kept) (λ life so. quiet_lost g.N.Connections g.A.HostAnswers heard kept c.args.seat.now life (cc (c.is_lost.ensures, c.if-is_lost.true)))

pub returns-then-is_empty-clause-keeps : goal.returns-then-is_empty-clause-keeps
returns-then-is_empty-clause-keeps g c = λ heard kept. keeps_same g.N.Connections g.A.HostAnswers heard (Freed heard kept) (Quiet heard kept) c.args.place (at c.args.network.now c.args.answers.now c.args.seat.now kept) (λ life so. record { freed = so; out = λ was never. nil_from_length c.args.seat.now.output (ap length (sym c.unsent-unsent.ensures) ∙ eqb-true (length c.unsent-unsent.result.now) 0 (sym c.is_empty.ensures ∙ c.if-is_empty.true)) })
