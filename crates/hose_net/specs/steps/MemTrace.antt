-- What connections in memory tell.
use Rattle.std.specs.Prelude.{Bool, List}
use Rattle.std.specs.String.{string_bytes}
use Rattle.hose_net.specs.Happening.{Happening, Came, Closed, Gave, Got, Late, Left, Linked, Opened, Refused, Sent, Stopped, Took}
use Rattle.hose_net.specs.declared.mem_connections.Happened.{Happened}
use Rattle.hose_net.specs.declared.mem_connections.Happened.TheVariants as happened

-- what happened, where all of it was kept
pub record Trace : Type 0 where
  pub trace : List Happening
  pub whole : Bool

-- what happened, as a story tells it
abbrev pub happening_of : Happened → Happening
happening_of (happened.Came door place) = Came door place
happening_of (happened.Got place bytes) = Got place bytes.items
happening_of (happened.Sent place bytes) = Sent place bytes.items
happening_of (happened.Refused place) = Refused place
happening_of (happened.Left place) = Left place
happening_of (happened.Opened path) = Linked (Opened (string_bytes path))
happening_of (happened.Gave bytes) = Linked (Gave bytes.items)
happening_of (happened.Took bytes) = Linked (Took bytes.items)
happening_of happened.Closed = Linked Closed
happening_of happened.Late = Linked Late
happening_of happened.Stopped = Stopped
