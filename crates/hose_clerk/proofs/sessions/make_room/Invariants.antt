use Rattle.std.proofs.Common.{◌+◌, ◌-◌, length}
use Rattle.hose_clerk.specs.steps.Sessions.{LeavesAll}
use Rattle.hose_clerk.proofs.sessions.make_room.Given as goal

abbrev pub invariant-loop-sessions : goal.invariant-loop-sessions
invariant-loop-sessions l = LeavesAll l.fn.sessions.items l.sessions.items

abbrev pub decreases-loop-sessions : goal.decreases-loop-sessions
decreases-loop-sessions l = l.place + 1 - length l.sessions.items
