use Rattle.std.proofs.Common.{take}
use Rattle.std.specs.List.{flat_map}
use Rattle.hose_io.specs.steps.Gather.{IsAdded}
use Rattle.hose_audit.specs.Audit.{vpn_line}
use Rattle.hose_audit.proofs.lines.add_vpns.Given as goal

abbrev pub invariant-loop-vpn : goal.invariant-loop-vpn
invariant-loop-vpn g l = IsAdded g.S.Sink l.fn.gather l.fn.sink l.gather l.sink (flat_map (vpn_line l.top) (take l.vpn-index l.live))
