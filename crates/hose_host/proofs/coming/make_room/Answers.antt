use Rattle.std.proofs.Common.{rules}
use Rattle.hose_host.proofs.Keepings.{all_rest}
use Rattle.hose_host.proofs.coming.make_room.Goals as goal

pub returns-then-turn_out-clause-keeps : goal.returns-then-turn_out-clause-keeps
returns-then-turn_out-clause-keeps g c = λ heard. all_rest g.N.Connections g.A.HostAnswers heard c.in-Some.place c.args.network.now c.turn_out.new.network c.args.answers.now c.turn_out.new.answers c.args.seats.now.items c.in-Some-get_mut.seat.now c.turn_out.new.seat (search rules) c.in-Some-get_mut.ensures.value (c.turn_out.ensures.keeps heard)

pub returns-else-turn_out-clause-keeps : goal.returns-else-turn_out-clause-keeps
returns-else-turn_out-clause-keeps g c = λ heard. all_rest g.N.Connections g.A.HostAnswers heard c.in-Some.place c.args.network.now c.turn_out.new.network c.args.answers.now c.turn_out.new.answers c.args.seats.now.items c.in-Some-get_mut.seat.now c.turn_out.new.seat (search rules) c.in-Some-get_mut.ensures.value (c.turn_out.ensures.keeps heard)
