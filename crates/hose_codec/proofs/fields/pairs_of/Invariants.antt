use Rattle.std.proofs.Common.{◌≡◌, ◌+◌, ◌/◌, ◌≤◌, ◌++◌, length, vec_len}
use Rattle.std.specs.Vec.{vec_capacity}
use Rattle.hose_codec.specs.steps.Reading.{pairs_of}
use Rattle.hose_codec.specs.declared.limits.TheConstants.{PAIR_BYTES}
use Rattle.hose_codec.proofs.fields.pairs_of.Given as goal

abbrev pub invariant-loop-pair : goal.invariant-loop-pair
invariant-loop-pair l = record {
  read : l.pairs.items ++ pairs_of l.fields ≡ pairs_of l.bytes;
  room : vec_len l.pairs + length l.fields / PAIR_BYTES ≤ vec_capacity l.pairs;
}

abbrev pub decreases-loop-pair : goal.decreases-loop-pair
decreases-loop-pair l = length l.fields
