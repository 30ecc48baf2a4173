use Rattle.std.proofs.Common.{subst, sym, ap, arith, length}
use Rattle.hose_lead.specs.steps.History.{AreKept}
use Rattle.hose_lead.proofs.recent.RecentPackets.new.Goals as goal

pub returns-clause-is : goal.returns-clause-is
returns-clause-is c = λ network list count value. record {
  epoch = count;
  value = value;
  first = length list;
  reaches = omega (arith, ap length c.new.ensures.items);
  are = subst (AreKept network list (length list)) (sym c.new.ensures.items) tt;
}
