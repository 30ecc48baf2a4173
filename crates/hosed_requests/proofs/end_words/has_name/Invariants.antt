use Rattle.std.proofs.Common.{ℕ, ◌<◌, ◌≢◌, slice_index_or}
use Rattle.std.specs.String.{string_bytes}
use Rattle.hose_proto.specs.EndWords.{name_in}
use Rattle.hosed_requests.proofs.end_words.has_name.Given as goal

-- No word so far has the name.
abbrev pub invariant-loop-place : goal.invariant-loop-place
invariant-loop-place l = (k : ℕ) (d : _) → k < l.place → name_in (string_bytes (slice_index_or l.ends k d)) ≢ l.name
