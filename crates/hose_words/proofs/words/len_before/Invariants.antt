use Rattle.std.proofs.Common.{◌==◌, false, ◌≡◌, ℕ, ◌<◌, get_or}
use Rattle.hose_words.proofs.words.len_before.Given as goal

abbrev pub invariant-loop-len : goal.invariant-loop-len
invariant-loop-len l = (k : ℕ) → k < l.len → (get_or l.bytes k 0 == l.byte) ≡ false
