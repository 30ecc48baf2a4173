-- What tells why a move ended early: the status, and the last line.
use Rattle.std.specs.Prelude.{ℕ, List, ◌++◌, codes, decimal}
use Rattle.hose_proto.specs.ReplyText.{line_of}
use Rattle.hose_outside.specs.Fault.{last_line, status_of}
use Rattle.hose_outside.specs.declared.move_stop.MoveStop.{MoveStop}
use Rattle.hose_outside.specs.declared.move_stop.MoveStop.TheVariants.{Old, New, Node, Link, Unsound, Differs, Less}

-- the status of a move that ended early
abbrev pub stop_status : MoveStop → ℕ
stop_status (Old why) = status_of why
stop_status (New why) = status_of why
stop_status (Node node) = 12
stop_status (Link link) = 12
stop_status (Unsound epoch) = 13
stop_status (Differs epoch) = 14
stop_status (Less entries) = 15

-- The last line of a move that ended early, with its line feed; none where the output failed. A
-- fault of the new topology or journal is told as one of the old, after `new `.
abbrev pub stop_line : MoveStop → List ℕ
stop_line (Old why) = last_line why
stop_line (New why) = codes "new " ++ last_line why
stop_line (Node node) = line_of (codes "network node " ++ decimal node)
stop_line (Link link) = line_of (codes "network link " ++ decimal link)
stop_line (Unsound epoch) = line_of (codes "unsound " ++ decimal epoch)
stop_line (Differs epoch) = line_of (codes "differs at " ++ decimal epoch)
stop_line (Less entries) = line_of (codes "less " ++ decimal entries)
