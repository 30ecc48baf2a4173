-- What filling a buffer from a source does.
use Rattle.std.specs.Prelude.{◌≡◌, ◌≤◌, ℕ, List, Result, Ok, IfOk, MatchResult}
use Rattle.hose_io.specs.Frame.{Met}
use Rattle.hose_io.specs.Stream.{IsAtEnd}
use Rattle.hose_io.specs.steps.Stream.{Appends}
use Rattle.hose_io.specs.declared.Failed.{Failed}
use Rattle.hose_io.specs.declared.source.Source.{Ghosts}

-- At most so many bytes that a source gave come after those that were pending, and none only at its
-- end. A call that fails takes nothing.
pub record IsFilled {S : Type 0} (source : Ghosts S) (was now : S) (old new : List ℕ) (limit : ℕ)
    (result : Result ℕ Failed) : Type 0 where
  pub most : IfOk result (λ count. count ≤ limit)
  pub taken : MatchResult result
      (λ count. Appends (source.content was) (source.content now) old new count)
      (λ _. (source.content now ≡ source.content was) × (new ≡ old))
  pub none_only_at_end : result ≡ Ok 0 → IsAtEnd (source.content was)
  pub met : Met (source.frame was) (source.frame now) result
  pub went : source.went was now
