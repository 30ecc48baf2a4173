use Rattle.hose_outside.proofs.Told.{put_out}
use Rattle.hosed_host.specs.HostWhy.{last_of_host}
use Rattle.hosed_host.specs.steps.HostOutcome.{why_of_standby}
use Rattle.hosed_host.proofs.hosting.put_last.Goals as goal

pub returns-clause-out : goal.returns-clause-out
returns-clause-out g c = put_out g.O.Sink c.args.output.now c.put_standby.new.output (last_of_host (why_of_standby c.args.ahead)) c.put_standby.result c.put_standby.ensures
