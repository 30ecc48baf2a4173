use Rattle.std.proofs.Common.{length}
use Rattle.std.specs.Prelude.{◌↔◌}
use Rattle.hose_codec.specs.steps.Reading.{ArePairsFrom, pairs_of}
use Rattle.hose_codec.proofs.fields.are_pairs.Given as goal

abbrev pub invariant-loop-first : goal.invariant-loop-first
invariant-loop-first l = ArePairsFrom l.bound l.most 0 (pairs_of l.bytes) ↔ ArePairsFrom l.bound l.most l.least (pairs_of l.fields)

abbrev pub decreases-loop-first : goal.decreases-loop-first
decreases-loop-first l = length l.fields
