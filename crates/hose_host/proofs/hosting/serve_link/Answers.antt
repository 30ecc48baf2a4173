use Rattle.std.proofs.Common.{false}
use Rattle.hose_net.specs.declared.hold.Parting.TheVariants as parting
use Rattle.hose_host.specs.steps.Keeping.{host_of}
use Rattle.hose_host.specs.steps.Seats.{Resting}
use Rattle.hose_host.proofs.Keepings.{host_parts}
use Rattle.hose_host.proofs.hosting.serve_link.Goals as goal

pub returns-clause-keeps : goal.returns-clause-keeps
returns-clause-keeps g c =
    let now = host_of c.listen.new.network c.listen.new.answers c.listen.new.places in
    host_parts g.N.Connections g.A.HostAnswers (parting.Ahead c.in-Some.count) Resting Resting Resting (host_of c.args.network.now c.args.answers.now c.args.places.now) now now (c.listen.ensures.keeps false) (c.in-Some.ensures false)

pub returns-in_default-clause-keeps : goal.returns-in_default-clause-keeps
returns-in_default-clause-keeps g c = c.listen.ensures.keeps false
