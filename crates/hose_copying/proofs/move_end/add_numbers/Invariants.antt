use Rattle.std.proofs.Common.{length, take}
use Rattle.std.specs.List.{flat_map, range_with_len}
use Rattle.hose_io.specs.steps.Gather.{IsAdded}
use Rattle.hose_copying.specs.MoveEnd.{number_line}
use Rattle.hose_copying.proofs.move_end.add_numbers.Given as goal

abbrev pub invariant-loop-place : goal.invariant-loop-place
invariant-loop-place g l = IsAdded g.O.Sink l.fn.gather l.fn.output l.gather l.output (flat_map (number_line l.numbers) (take l.place (range_with_len 0 (length l.numbers))))
