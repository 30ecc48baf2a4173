use Rattle.std.proofs.Common.{take}
use Rattle.hose_lead.specs.steps.Standby.{TakesIn}
use Rattle.hose_lead.proofs.leading.Standby.take_in.Given as goal

abbrev pub invariant-loop-byte : goal.invariant-loop-byte
invariant-loop-byte g l = TakesIn (g.H.History.is_of l.history) l.initial.self (take l.byte-index l.bytes) l.self
