-- What becomes of a text on its way through a gatherer.
use Rattle.std.specs.Prelude.{◌≡◌, ◌≢◌, ℕ, ◌≤◌, Bool, IsTrue, IsFalse, List, [], ◌++◌, length, Option, Result, IsErr, OnOk, OnErr}
use Rattle.hose_io.specs.Count.{one_more}
use Rattle.hose_io.specs.Frame.{Rose, Stays}
use Rattle.hose_io.specs.Stream.{Grows}
use Rattle.hose_io.specs.Writing.{GrowsInPart}
use Rattle.hose_io.specs.declared.Failed.{Failed}
use Rattle.hose_io.specs.declared.gather.TheConstants.{GATHER_LIMIT}
use Rattle.hose_io.specs.declared.sink.Sink.{Ghosts}

-- what a gatherer holds, and whether a sink failed it
pub record Gathered : Type 0 where
  pub held : List ℕ
  pub broke : Bool

-- Of this text the front went out to a sink, and the rest is held.
pub record GoesOut (old new : Option (List ℕ)) (text held : List ℕ) : Type 0 where
  pub given : List ℕ
  pub grows : Grows old new given
  pub whole : text ≡ given ++ held

-- Of this text only a part went out, since the sink failed.
pub record IsCutShort {S : Type 0} (sink : Ghosts S) (was now : S) (text : List ℕ) : Type 0 where
  pub part : GrowsInPart (sink.content was) (sink.content now) text
  pub rose : Rose (sink.frame was) (sink.frame now)

-- A text was added to what was held. Where the sink fails the gatherer is broken, and nothing goes
-- out any more.
pub record IsAdded {S : Type 0} (sink : Ghosts S) (old : Gathered) (was : S) (new : Gathered)
    (now : S) (text : List ℕ) : Type 0 where
  pub idle : IsTrue old.broke → (new ≡ old) × (now ≡ was)
  pub whole : IsFalse new.broke
      → GoesOut (sink.content was) (sink.content now) (old.held ++ text) new.held
  pub cut : IsFalse old.broke → IsTrue new.broke → IsCutShort sink was now (old.held ++ text)
  pub stays : Stays (sink.frame was) (sink.frame now)
  pub unbroken : IsFalse new.broke → sink.frame now ≡ sink.frame was
  -- what fits is held, and the sink is not called
  pub fits : length (old.held ++ text) ≤ GATHER_LIMIT
      → (now ≡ was) × (IsFalse old.broke → new ≡ record old { held = old.held ++ text })

-- All that was held went out, as one piece; or the sink failed, now or before.
pub record IsFinished {S T : Type 0} (sink : Ghosts S) (old : Gathered) (was now : S)
    (result : Result T Failed) : Type 0 where
  pub idle : IsTrue old.broke → IsErr result × (now ≡ was)
  pub whole : OnOk result (Grows (sink.content was) (sink.content now) old.held)
  pub cut : IsFalse old.broke → OnErr result (IsCutShort sink was now old.held)
  pub stays : Stays (sink.frame was) (sink.frame now)
  pub ok : OnOk result (sink.frame now ≡ sink.frame was)
  pub one_piece : old.held ≢ [] → OnOk result (sink.pieces now ≡ one_more (sink.pieces was))
