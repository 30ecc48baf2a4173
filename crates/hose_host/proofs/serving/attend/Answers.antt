use Rattle.std.proofs.Common.{rules}
use Rattle.hose_host.proofs.Keepings.{all_rest}
use Rattle.hose_host.proofs.serving.attend.Goals as goal

pub returns-then-serve-clause-keeps : goal.returns-then-serve-clause-keeps
returns-then-serve-clause-keeps g c = all_rest g.N.Connections g.A.HostAnswers c.args.heard c.args.place c.args.network.now c.serve.new.network c.args.answers.now c.serve.new.answers c.args.seats.now.items c.in-Some.seat.now c.serve.new.seat (search rules) c.in-Some.ensures.value c.serve.ensures.keeps

pub returns-else-serve-clause-keeps : goal.returns-else-serve-clause-keeps
returns-else-serve-clause-keeps g c = all_rest g.N.Connections g.A.HostAnswers c.args.heard c.args.place c.args.network.now c.serve.new.network c.args.answers.now c.serve.new.answers c.args.seats.now.items c.in-Some.seat.now c.serve.new.seat (search rules) c.in-Some.ensures.value c.serve.ensures.keeps
