-- What stands after `check`, by what ended it.
use Rattle.std.specs.Prelude.{◌≡◌, ◌↔◌, ℕ, ◌+◌, ◌<◌, ◌≤◌, List, [], ◌++◌, codes, decimal, length, Result, Ok, Err, ⊤}
use Rattle.hose_io.specs.Frame.{Rose, Stays}
use Rattle.hose_io.specs.Stream.{Gives}
use Rattle.hose_io.specs.declared.source.Source.{Ghosts as SourceGhosts}
use Rattle.hose_io.specs.declared.sink.Sink.{Ghosts as SinkGhosts}
use Rattle.hose_words.specs.Limits.{input_limit}
use Rattle.hose_words.specs.Reading.{WhereTold}
use Rattle.hose_graph.specs.Network.{Network}
use Rattle.hose_cert.specs.Verdict.{AreCheapestFound, IsVerdict}
use Rattle.hose_cert.specs.declared.Verdict.{Verdict}
use Rattle.hose_cert.specs.declared.Verdict.TheVariants.{Yes, No}
use Rattle.hose_proto.specs.ReplyText.{line_of}
use Rattle.hose_outside.specs.Ending.{EndsTold, IsOut}
use Rattle.hose_outside.specs.Fault.{last_line, status_of}
use Rattle.hose_offline.specs.Named.{ReadsThen}
use Rattle.hose_outside.specs.Parts.{Parts, Tellings}
use Rattle.hose_outside.specs.declared.fault.Fault.{Fault}
use Rattle.hose_outside.specs.declared.fault.Fault.TheVariants.{Read, Memory, TooLong}

-- ---- the input

module _ {I : Type 0} (source : SourceGhosts I) (input input' : I) (network : Network) where
  -- The input was read to its end, and this is found of all that it had left. Where it is a valid
  -- certificate, its amounts are a cheapest way to carry its hose over the links that it does not
  -- leave out.
  pub record IsJudged (verdict : Verdict) : Type 0 where
    pub found : WhereTold (source.content input) (source.content input') (λ text left.
        (left ≡ []) × IsVerdict network text verdict)
    pub cheapest : AreCheapestFound network verdict
    pub held : source.frame input' ≡ source.frame input

  -- why the input was not judged
  abbrev pub IsNotJudged : Fault → Type 0
  IsNotJudged Read = Rose (source.frame input) (source.frame input')
  IsNotJudged TooLong = source.frame input' ≡ source.frame input
  IsNotJudged Memory = source.frame input' ≡ source.frame input
  IsNotJudged _ = ⊥

  -- what judging the input came to
  abbrev pub JudgedAs : Result Verdict Fault → Type 0
  JudgedAs (Ok verdict) = IsJudged verdict
  JudgedAs (Err why) = IsNotJudged why

  -- what judging the input came to, and what was taken of it; it is the one that it was
  pub record JudgesInput (result : Result Verdict Fault) : Type 0 where
    pub taken : List ℕ
    pub gives : Gives (source.content input) (source.content input') taken
    pub limit : length taken ≤ input_limit + 1
    -- more than the limit was taken exactly where that is told
    pub too_long : (result ≡ Err TooLong) ↔ (input_limit < length taken)
    pub judged : JudgedAs result
    pub stays : Stays (source.frame input) (source.frame input')

-- ---- the topology and the input

module _ {I O C E : Type 0} (tells : Tellings I O C E) (prices : Network → Network → Type 0)
    (topology : List ℕ) (before after : Parts I O C) where
  -- The topology that was named was read, and the input judged by its network; or one of the two
  -- was not, and why.
  abbrev pub JudgesNamed : Result Verdict Fault → Type 0
  JudgesNamed = ReadsThen tells prices topology before after
      (JudgesInput tells.source before.input after.input)

module _ {O : Type 0} (sink : SinkGhosts O) (output output' : O) (status : ℕ) where
  -- How what judging came to is told: a valid certificate with its cost and the status 0, or 4
  -- where the output failed; the lowest rule that fails with the status 10, also where it did; or
  -- the last line of the fault.
  abbrev pub EndsChecked : Result Verdict Fault → Type 0
  EndsChecked (Ok (Yes hose without amounts cost)) = EndsTold {T = ⊤} sink output output' status
      (Ok tt) (line_of (codes "yes " ++ decimal cost))
  EndsChecked (Ok (No rule)) =
      (status ≡ 10) × IsOut sink output output' (line_of (codes "no " ++ decimal rule))
  EndsChecked (Err why) = (status ≡ status_of why) × IsOut sink output output' (last_line why)

module _ {I O C E : Type 0} (tells : Tellings I O C E) (prices : Network → Network → Type 0)
    (topology : List ℕ) (before after : Parts I O C) where
  -- A topology was read and the input judged, or not, which left the output alone, and that was
  -- told.
  pub record CheckOutcome (status : ℕ) : Type 0 where
    pub result : Result Verdict Fault
    pub judges : JudgesNamed tells prices topology before
        (record after { output = before.output }) result
    pub ends : EndsChecked tells.sink before.output after.output status result
