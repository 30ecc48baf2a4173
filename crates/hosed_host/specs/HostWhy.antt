-- Why a host ended: the status and the last line that come of it.
use Rattle.std.specs.Prelude.{ℕ, List, ◌++◌, codes, decimal}
use Rattle.hose_io.specs.declared.sink.Sink.{Ghosts}
use Rattle.hose_proto.specs.ReplyText.{line_of}
use Rattle.hose_outside.specs.Ending.{IsOut}
use Rattle.hose_outside.specs.Why.{why_line, why_status}
use Rattle.hosed_host.specs.declared.why.HostWhy.{HostWhy}
use Rattle.hosed_host.specs.declared.why.HostWhy.TheVariants.{Door, Ended, StandbyAhead, StandbyGone}

-- the status
abbrev pub host_status : HostWhy → ℕ
host_status (Ended why) = why_status why
host_status (Door word trouble) = 9
host_status StandbyGone = 16
host_status (StandbyAhead count) = 17

-- the last line, which tells of a door that could not be opened the number of its word
abbrev pub last_of_host : HostWhy → List ℕ
last_of_host (Ended why) = why_line why
last_of_host (Door word trouble) = line_of (codes "door " ++ decimal word)
last_of_host StandbyGone = line_of (codes "standby")
last_of_host (StandbyAhead count) = line_of (codes "ahead " ++ decimal count)

-- What was put out last ends with the line that tells why; or the output failed, and a part of that
-- is out.
pub record TellsWhy {O : Type 0} (sink : Ghosts O) (now : O) (why : HostWhy) : Type 0 where
  pub was : O
  pub text : List ℕ
  pub out : IsOut sink was now (text ++ last_of_host why)
