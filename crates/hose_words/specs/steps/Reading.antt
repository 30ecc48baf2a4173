-- What reading lines does to a reader, whatever it reads: steps of proofs.
use Rattle.std.specs.Prelude.{◌≡◌, ◌≢◌, ◌⊎◌, ℕ, ◌+◌, ◌≤◌, IsFalse, IsTrue, List, ◌++◌, length, None, Some, IfSome}
use Rattle.hose_io.specs.steps.Calls.{HasGone}
use Rattle.hose_io.specs.Frame.{Stays}
use Rattle.hose_io.specs.Stream.{Gives}
use Rattle.hose_io.specs.declared.source.Source.{Ghosts}
use Rattle.hose_words.specs.Lines.{IsAfterLines, PassesOver}
use Rattle.hose_words.specs.steps.Lines.{Reader, WhereAsked}
use Rattle.hose_words.specs.declared.lines.LineFault.TheVariants.{Read}
use Rattle.hose_words.specs.Reading.{WhereTold}

-- A source of a reader was asked last after whole lines and a part of one, which may have been
-- taken since.
pub record IsAskedAfterLines {S : Type 0} (source : Ghosts S) (old new : Reader S) : Type 0 where
  pub asked : S
  pub went : source.went asked new.source
  pub lines : WhereAsked (source.content old.source) (source.content asked) (λ before left.
      IfSome (source.content new.source) (λ after. (line : List ℕ)
      × IsAfterLines (old.pending ++ before) line × PassesOver line left
      × (length (new.pending ++ after.left) ≤ length line)))

-- bytes were taken, each counted, and the source is the one that it was
pub record ReadsOn {S : Type 0} (source : Ghosts S) (old new : Reader S) : Type 0 where
  pub takes : (bytes : List ℕ) × Gives (source.content old.source) (source.content new.source) bytes
      × (new.taken ≡ old.taken + length bytes)
  -- where neither a fault nor the end of the source was met, whole lines were given
  pub whole : new.fault ≡ None → IsFalse new.ended
      → WhereTold (source.content old.source) (source.content new.source) (λ before after.
      IsAfterLines (old.pending ++ before) (new.pending ++ after))
  -- a fault is kept, and so is the end
  pub fault : new.fault ≡ None → old.fault ≡ None
  pub read : old.fault ≡ Some Read → new.fault ≡ Some Read
  pub ended : IsFalse new.ended → IsFalse old.ended
  pub stays : Stays (source.frame old.source) (source.frame new.source)
  -- only a call of the source that fails raises its count
  pub unfailed : new.fault ≢ Some Read → source.frame new.source ≡ source.frame old.source
  -- the source was called one time after the other, or not at all
  pub gone : HasGone source old.source new.source
  -- what is to come does not grow
  pub shorter : WhereTold (source.content old.source) (source.content new.source) (λ before after.
      length (new.pending ++ after) ≤ length (old.pending ++ before))
  -- after a fault or at its end the source is asked no more
  pub after_fault : old.fault ≢ None → new.source ≡ old.source
  pub after_end : IsTrue old.ended → new.source ≡ old.source
  pub asked : (new.source ≡ old.source) ⊎ IsAskedAfterLines source old new
