use Rattle.std.proofs.Common.{rules}
use Rattle.hose_host.proofs.Keepings.{all_written}
use Rattle.hose_host.proofs.ending.write_at.Goals as goal

pub returns-then-write_seat-clause-keeps : goal.returns-then-write_seat-clause-keeps
returns-then-write_seat-clause-keeps g c = λ heard. all_written g.N.Connections g.A.HostAnswers heard c.args.place c.args.network.now c.write_seat.new.network c.args.answers.now c.write_seat.new.answers c.args.seats.now.items c.in-Some.seat.now c.write_seat.new.seat (search rules) c.in-Some.ensures.value (c.write_seat.ensures.keeps heard)

pub returns-else-write_seat-clause-keeps : goal.returns-else-write_seat-clause-keeps
returns-else-write_seat-clause-keeps g c = λ heard. all_written g.N.Connections g.A.HostAnswers heard c.args.place c.args.network.now c.write_seat.new.network c.args.answers.now c.write_seat.new.answers c.args.seats.now.items c.in-Some.seat.now c.write_seat.new.seat (search rules) c.in-Some.ensures.value (c.write_seat.ensures.keeps heard)
