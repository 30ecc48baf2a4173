use Rattle.std.proofs.Common.{None, ◌+◌, ◌-◌, length}
use Rattle.hose_words.specs.declared.lines.TheConstants.{INPUT_LIMIT}
use Rattle.hose_cert.specs.steps.Taking.{ReadsUpTo}
use Rattle.hose_cert.proofs.reading.pass_over.Given as goal

abbrev pub invariant-loop : goal.invariant-loop
invariant-loop g l = ReadsUpTo g.S.Source l.fn.lines l.lines None

-- how many bytes may still be taken, and those that were taken and belong to no line yet
abbrev pub decreases-loop : goal.decreases-loop
decreases-loop g l = INPUT_LIMIT + 1 - l.lines.taken + length l.lines.pending
