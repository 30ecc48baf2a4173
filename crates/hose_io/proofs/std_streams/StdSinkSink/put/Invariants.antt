use Rattle.std.proofs.Common.{◌≡◌}
use Rattle.std.specs.Io.KnownBytes.{Keeps}
use Rattle.hose_io.proofs.std_streams.StdSinkSink.put.Given as goal

abbrev pub invariant-loop : goal.invariant-loop
invariant-loop g l = record {
  faults : l.self.faults ≡ l.initial.self.faults;
  pieces : l.self.pieces ≡ l.initial.self.pieces;
  keeps : Keeps (g.W.Write.contents l.initial.self.writer) (g.W.Write.contents l.self.writer);
}
