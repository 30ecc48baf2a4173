use Rattle.std.proofs.Common.{◌+◌, ◌-◌, length}
use Rattle.hose_words.specs.declared.lines.TheConstants.{INPUT_LIMIT}
use Rattle.hose_cert.proofs.LinesRead.{HasRead}
use Rattle.hose_cert.proofs.reading.read_text.Given as goal

abbrev pub invariant-loop-more : goal.invariant-loop-more
invariant-loop-more g l = HasRead g.S.Source l.top l.fn.lines l.lines l.draft

-- how many bytes may still be taken, and those that were taken and belong to no line yet
abbrev pub decreases-loop-more : goal.decreases-loop-more
decreases-loop-more g l = INPUT_LIMIT + 1 - l.lines.taken + length l.lines.pending
