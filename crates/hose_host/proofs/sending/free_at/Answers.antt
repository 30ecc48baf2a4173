use Rattle.std.proofs.Common.{rules}
use Rattle.hose_host.proofs.Keepings.{all_freed}
use Rattle.hose_host.proofs.sending.free_at.Goals as goal

pub returns-then-free_seat-clause-keeps : goal.returns-then-free_seat-clause-keeps
returns-then-free_seat-clause-keeps g c = all_freed g.N.Connections g.A.HostAnswers c.args.heard c.args.place c.args.network.now c.free_seat.new.network c.args.answers.now c.free_seat.new.answers c.args.seats.now.items c.in-Some.seat.now c.free_seat.new.seat (search rules) c.in-Some.ensures.value c.free_seat.ensures.keeps

pub returns-else-free_seat-clause-keeps : goal.returns-else-free_seat-clause-keeps
returns-else-free_seat-clause-keeps g c = all_freed g.N.Connections g.A.HostAnswers c.args.heard c.args.place c.args.network.now c.free_seat.new.network c.args.answers.now c.free_seat.new.answers c.args.seats.now.items c.in-Some.seat.now c.free_seat.new.seat (search rules) c.in-Some.ensures.value c.free_seat.ensures.keeps
