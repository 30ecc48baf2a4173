use Rattle.std.proofs.Common.{◌+◌, ◌-◌, length}
use Rattle.hose_words.specs.declared.lines.TheConstants.{INPUT_LIMIT}
use Rattle.hose_topo.proofs.TopologyReading.{HasRead}
use Rattle.hose_topo.proofs.reading.read.Given as goal

abbrev pub invariant-loop-top : goal.invariant-loop-top
invariant-loop-top g l = HasRead g.S.Source l.fn.lines l.lines l.line l.top

-- how many bytes may still be taken, and those that were taken and belong to no line yet
abbrev pub decreases-loop-top : goal.decreases-loop-top
decreases-loop-top g l = INPUT_LIMIT + 1 - l.lines.taken + length l.lines.pending
