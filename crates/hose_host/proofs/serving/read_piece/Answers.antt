use Rattle.std.proofs.Common.{[], subst, sym, take}
use Rattle.hose_host.specs.steps.Keeping.{Keeps, at}
use Rattle.hose_host.specs.steps.Seats.{Calm, Freed, SeatState}
use Rattle.hose_host.proofs.Keepings.{keeps_freed, keeps_got, keeps_quiet, keeps_same, keeps_then}
use Rattle.hose_host.proofs.serving.read_piece.Goals as goal

pub returns-in-Ok-clause-keeps : goal.returns-in-Ok-clause-keeps
returns-in-Ok-clause-keeps g c =
    let heard = c.args.heard in
    let bytes = take c.in-Ok.count c.read.new.into in
    let was = at c.args.network.now c.args.answers.now c.args.seat.now [] in
    let got = at c.read.new.self c.args.answers.now c.args.seat.now bytes in
    let told = at c.read.new.self c.take_piece.new.answers c.take_piece.new.seat c.take_piece.new.seat.kept in
    keeps_then g.N.Connections g.A.HostAnswers heard (Calm heard []) (Freed heard []) (Freed heard c.take_piece.new.seat.kept) c.args.place was got told
    (keeps_got g.N.Connections g.A.HostAnswers heard c.args.place c.args.network.now c.read.new.self c.args.answers.now c.args.seat.now bytes c.requires.sits c.requires.out c.in-Ok.ensures.did)
    c.take_piece.ensures.keeps

pub returns-in-Err-NotNow-clause-keeps : goal.returns-in-Err-NotNow-clause-keeps
returns-in-Err-NotNow-clause-keeps g c =
    let heard = c.args.heard in
    let seat = c.args.seat.now in
    let was = at c.args.network.now c.args.answers.now seat [] in
    let now = at c.read.new.self c.args.answers.now seat [] in
    keeps_freed g.N.Connections g.A.HostAnswers heard (Calm heard []) [] c.args.place was c.read.new.self c.args.answers.now seat
    (keeps_then g.N.Connections g.A.HostAnswers heard (Calm heard []) (Calm heard []) (Freed heard []) c.args.place was now now
    (keeps_quiet g.N.Connections g.A.HostAnswers heard (Calm heard []) c.args.place c.args.network.now c.read.new.self c.args.answers.now seat [] c.in-Err-NotNow.ensures.did)
    (keeps_same g.N.Connections g.A.HostAnswers heard (Calm heard []) (Freed heard []) c.args.place now (λ life so. so.freed)))

pub returns-in-Err-Over-clause-keeps : goal.returns-in-Err-Over-clause-keeps
returns-in-Err-Over-clause-keeps g c =
    let heard = c.args.heard in
    let seat = c.args.seat.now in
    let was = at c.args.network.now c.args.answers.now seat [] in
    let now = at c.read.new.self c.args.answers.now seat [] in
    subst (λ (s : SeatState). Keeps g.N.Connections g.A.HostAnswers (Calm heard []) (Freed heard s.kept) c.args.place heard was (at c.read.new.self c.args.answers.now s s.kept)) (sym c.end.ensures) (keeps_freed g.N.Connections g.A.HostAnswers heard (Calm heard []) [] c.args.place was c.read.new.self c.args.answers.now seat
    (keeps_then g.N.Connections g.A.HostAnswers heard (Calm heard []) (Calm heard []) (Freed heard []) c.args.place was now now
    (keeps_quiet g.N.Connections g.A.HostAnswers heard (Calm heard []) c.args.place c.args.network.now c.read.new.self c.args.answers.now seat [] c.in-Err-Over.ensures.did)
    (keeps_same g.N.Connections g.A.HostAnswers heard (Calm heard []) (Freed heard []) c.args.place now (λ life so. so.freed))))
