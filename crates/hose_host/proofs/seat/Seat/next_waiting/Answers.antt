use Rattle.std.proofs.Common.{rules}
use Rattle.hose_host.proofs.Keepings.{popped}
use Rattle.hose_host.proofs.seat.Seat.next_waiting.Goals as goal

pub returns-clause-later : goal.returns-clause-later
returns-clause-later c = popped _ _ c.pop_front.result c.in_ok-first.first.now c.args.heard (search rules) (search rules) (search rules) (search rules)
