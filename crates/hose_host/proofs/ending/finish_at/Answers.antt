use Rattle.std.proofs.Common.{rules}
use Rattle.hose_host.proofs.Keepings.{all_finished}
use Rattle.hose_host.proofs.ending.finish_at.Goals as goal

pub returns-then-finish_seat-clause-keeps : goal.returns-then-finish_seat-clause-keeps
returns-then-finish_seat-clause-keeps g c = all_finished g.N.Connections g.A.HostAnswers c.args.heard (g.A.HostAnswers.ends c.args.answers.now) (g.A.HostAnswers.ends c.finish_seat.new.answers) c.args.place c.args.network.now c.finish_seat.new.network c.args.answers.now c.finish_seat.new.answers c.args.seats.now.items c.in-Some.seat.now c.finish_seat.new.seat c.finish_seat.ensures.ends (search rules) c.in-Some.ensures.value c.finish_seat.ensures.keeps

pub returns-else-finish_seat-clause-keeps : goal.returns-else-finish_seat-clause-keeps
returns-else-finish_seat-clause-keeps g c = all_finished g.N.Connections g.A.HostAnswers c.args.heard (g.A.HostAnswers.ends c.args.answers.now) (g.A.HostAnswers.ends c.finish_seat.new.answers) c.args.place c.args.network.now c.finish_seat.new.network c.args.answers.now c.finish_seat.new.answers c.args.seats.now.items c.in-Some.seat.now c.finish_seat.new.seat c.finish_seat.ensures.ends (search rules) c.in-Some.ensures.value c.finish_seat.ensures.keeps
