-- What is taken behind a part of a buffer.
use Rattle.std.proofs.Common.{◌≡◌, ◌∙◌, ℕ, ◌+◌, ◌≤◌, List, [], ◌++◌, Option, None, Some, length, take, drop, sym, subst, Result, MatchResult}
use Rattle.std.specs.List.{slice_range}
use Rattle.std.specs.Result.{result_unwrap_or}
use Rattle.std.proofs.lemmas.List.{take_at}
use Rattle.hose_io.specs.Stream.{Gives, IsAtEnd, Stream}
use Rattle.hose_io.specs.steps.Stream.{Appends}
use Rattle.hose_io.specs.declared.Failed.{Failed}
use Rattle.hose_io.proofs.Parts.{appended}

-- what was appended in a slice is appended in the vector into which the slice is written back
pub appended_back : (taken : Result ℕ Failed) (before after : Option Stream) (xs new : List ℕ) (len start end : ℕ) → length new ≡ len → take end new ≡ take end xs → start ≤ end → end + result_unwrap_or taken 0 ≤ length new
    → MatchResult taken (λ count. Gives before after (take count (drop end new))) (λ _. after ≡ before)
    → MatchResult taken (λ count. Appends before after (slice_range xs start end) (slice_range (take len (new ++ drop (length new) xs)) start (end + result_unwrap_or taken 0)) count)
    (λ _. (after ≡ before) × (slice_range (take len (new ++ drop (length new) xs)) start (end + result_unwrap_or taken 0) ≡ slice_range xs start end))
appended_back taken before after xs new len start end size same ordered inside gives =
    subst (λ (ys : List ℕ). MatchResult taken (λ count. Appends before after (slice_range xs start end) (slice_range ys start (end + result_unwrap_or taken 0)) count)
    (λ _. (after ≡ before) × (slice_range ys start (end + result_unwrap_or taken 0) ≡ slice_range xs start end)))
    (sym (take_at new (drop (length new) xs) len size)) (appended taken before after xs new start end same ordered inside gives)

-- ---- nothing was given

pub end_after : (before after : Option Stream) → Gives before after [] → IsAtEnd before → IsAtEnd after
end_after None None gives end = tt
end_after None (Some after) gives end = absurd gives
end_after (Some before) None gives end = absurd gives
end_after (Some before) (Some after) gives end = sym gives.left ∙ end
