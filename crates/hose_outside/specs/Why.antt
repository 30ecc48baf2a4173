-- Why a command ended: the status and the last line that come of it.
use Rattle.std.specs.Prelude.{ℕ, List, [], ◌++◌, codes, decimal}
use Rattle.hose_io.specs.declared.sink.Sink.{Ghosts}
use Rattle.hose_proto.specs.ReplyText.{line_of}
use Rattle.hose_outside.specs.Ending.{IsOut}
use Rattle.hose_outside.specs.Fault.{last_line, status_of}
use Rattle.hose_outside.specs.MoveStop.{stop_line, stop_status}
use Rattle.hose_outside.specs.declared.why.Why.{Why}
use Rattle.hose_outside.specs.declared.why.Why.TheVariants.{Done, Stopped, NotValid, NotMoved}

-- the status
abbrev pub why_status : Why → ℕ
why_status Done = 0
why_status (Stopped fault) = status_of fault
why_status (NotValid rule) = 10
why_status (NotMoved stop) = stop_status stop

-- the last line, with its line feed; none where all was done, or the output failed
abbrev pub why_line : Why → List ℕ
why_line Done = []
why_line (Stopped fault) = last_line fault
why_line (NotValid rule) = line_of (codes "no " ++ decimal rule)
why_line (NotMoved stop) = stop_line stop

-- What was put out last ends with the line that tells why; or the output failed, and a part of that
-- is out.
pub record IsTold {O : Type 0} (sink : Ghosts O) (now : O) (why : Why) : Type 0 where
  pub was : O
  pub text : List ℕ
  pub out : IsOut sink was now (text ++ why_line why)
