use Rattle.std.proofs.Common.{length, ◌-◌, ◌<◌, ◌≡◌, ◌≢◌, ◌≤◌, take}
use Rattle.hose_io.specs.Count.{one_more}
use Rattle.hose_io.specs.Stream.{Grows}
use Rattle.hose_io.proofs.gather.write_all.Given as goal

abbrev pub invariant-loop-written : goal.invariant-loop-written
invariant-loop-written g l = record {
  within : l.written ≤ length l.bytes;
  grows : Grows (g.S.Sink.content l.initial.sink) (g.S.Sink.content l.sink) (take l.written l.bytes);
  frame : g.S.Sink.frame l.sink ≡ g.S.Sink.frame l.initial.sink;
  untouched : l.written ≡ 0 → l.sink ≡ l.initial.sink;
  no_piece : l.written < length l.bytes → g.S.Sink.pieces l.sink ≡ g.S.Sink.pieces l.initial.sink;
  one_piece : l.written ≡ length l.bytes → l.written ≢ 0 → g.S.Sink.pieces l.sink ≡ one_more (g.S.Sink.pieces l.initial.sink);
}

abbrev pub decreases-loop-written : goal.decreases-loop-written
decreases-loop-written g l = length l.bytes - l.written
