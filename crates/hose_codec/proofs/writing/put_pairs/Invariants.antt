use Rattle.std.proofs.Common.{◌≡◌, ◌++◌, take}
use Rattle.hose_codec.specs.Fields.{pairs_field}
use Rattle.hose_codec.proofs.writing.put_pairs.Given as goal

abbrev pub invariant-loop-first : goal.invariant-loop-first
invariant-loop-first l = l.out.items ≡ l.initial.out.items ++ pairs_field (take l.first-index l.pairs)
