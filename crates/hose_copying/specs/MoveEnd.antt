-- What tells how a move ended: the status, and the lines that it writes.
use Rattle.std.specs.Prelude.{◌≡◌, ℕ, ◌+◌, List, ◌++◌, codes, decimal, get_or, length, Result, Ok, Err}
use Rattle.std.specs.List.{flat_map, range_with_len}
use Rattle.hose_io.specs.declared.sink.Sink.{Ghosts as SinkGhosts}
use Rattle.hose_move.specs.declared.changing.NetworkChange.{NetworkChange}
use Rattle.hose_move.specs.declared.changing.NetworkChange.TheVariants as change
use Rattle.hose_move.specs.declared.fault.MoveFault.{MoveFault}
use Rattle.hose_move.specs.declared.fault.MoveFault.TheVariants as moving
use Rattle.hose_proto.specs.ReplyText.{line_of}
use Rattle.hose_outside.specs.Ending.{EndsTold, IsOut}
use Rattle.hose_outside.specs.Fault.{of_store}
use Rattle.hose_outside.specs.declared.fault.Fault.TheVariants.{Cabinet, Memory}
use Rattle.hose_outside.specs.declared.move_stop.MoveStop.{MoveStop}
use Rattle.hose_outside.specs.declared.move_stop.MoveStop.TheVariants.{New, Node, Link, Unsound, Differs}
use Rattle.hose_copying.specs.declared.move_end.Moved.{Moved}
use Rattle.hose_outside.specs.MoveStop.{stop_line, stop_status}

-- why a move ends at this first change of a network
abbrev pub stop_of_change : NetworkChange → MoveStop
stop_of_change (change.Node node) = Node node
stop_of_change (change.Link link) = Link link

-- the last line of a move that came to its end: how many entries the new journal has, and how many
-- VPNs are live
abbrev pub moved_line : Moved → List ℕ
moved_line moved =
    line_of (codes "moved " ++ decimal moved.entries ++ codes " live " ++ decimal moved.live)

-- the line of the VPN of a place, of those that have these old numbers: its new number is one more
-- than its place
abbrev pub number_line : List ℕ → ℕ → List ℕ
number_line numbers place = line_of (codes "vpn " ++ decimal (get_or numbers place 0)
    ++ codes " is " ++ decimal (place + 1))

-- the lines of all VPNs that had these numbers
abbrev pub number_lines : List ℕ → List ℕ
number_lines numbers = flat_map (number_line numbers) (range_with_len 0 (length numbers))

-- what moving so many entries into a journal comes to, for the program
abbrev pub moved_done : ℕ → Result ℕ MoveFault → Result Moved MoveStop
moved_done entries (Ok live) = Ok (record { entries = entries; live = live })
moved_done entries (Err (moving.Store fault)) = Err (New (of_store fault))
moved_done entries (Err (moving.Differs epoch)) = Err (Differs epoch)
moved_done entries (Err (moving.Unsound epoch)) = Err (Unsound epoch)
moved_done entries (Err moving.Disk) = Err (New Cabinet)
moved_done entries (Err moving.Memory) = Err (New Memory)

-- The last line is out, or the output failed and a part of it is, which ends a move that came to
-- its end with the status of that, and leaves the status of another one.
abbrev pub EndsMoved : {O : Type 0} → SinkGhosts O → O → O → ℕ → Result Moved MoveStop → Type 0
EndsMoved sink was now status (Ok moved) =
    EndsTold {T = Moved} sink was now status (Ok moved) (moved_line moved)
EndsMoved sink was now status (Err stop) =
    (status ≡ stop_status stop) × IsOut sink was now (stop_line stop)
