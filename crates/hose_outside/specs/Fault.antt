-- What tells a fault: the status with which the program ends, and the last line that it writes.
use Rattle.std.specs.Prelude.{ℕ, List, [], ◌++◌, codes, decimal}
use Rattle.hex.specs.Hex.{encode_lower}
use Rattle.hose_store.specs.declared.fault.StoreFault.{StoreFault}
use Rattle.hose_store.specs.declared.fault.StoreFault.TheVariants as store
use Rattle.hose_proto.specs.ReplyText.{line_of}
use Rattle.hose_outside.specs.declared.fault.Fault.{Fault}
use Rattle.hose_outside.specs.declared.notation.Refusal.{Refusal}
use Rattle.hose_outside.specs.declared.notation.Refusal.TheVariants.{Word, Json, Nodes, Node, Links, Link}
use Rattle.hose_outside.specs.declared.fault.Fault.TheVariants.{Words, Topology, Text, Read, Write, Other, Damaged, Cabinet, Memory, TooLong, Door, Packet}

-- the status
abbrev pub status_of : Fault → ℕ
status_of (Words word) = 1
status_of (Topology refusal) = 2
status_of Text = 6
status_of Read = 3
status_of Write = 4
status_of (Other kept given) = 5
status_of (Damaged at) = 5
status_of Cabinet = 6
status_of Memory = 7
status_of TooLong = 8
status_of Door = 9
status_of (Packet at) = 11

-- where a topology is wrong
abbrev pub refusal_words : Refusal → List ℕ
refusal_words (Word line word) = decimal line ++ codes " " ++ decimal word
refusal_words Json = codes "json"
refusal_words Nodes = codes "nodes"
refusal_words (Node index) = codes "nodes " ++ decimal index
refusal_words Links = codes "links"
refusal_words (Link index) = codes "links " ++ decimal index

-- the last line, with its line feed; none where the output failed
abbrev pub last_line : Fault → List ℕ
last_line (Words word) = line_of (codes "words " ++ decimal word)
last_line (Topology refusal) = line_of (codes "topology " ++ refusal_words refusal)
last_line Text = line_of (codes "cabinet")
last_line Read = line_of (codes "read")
last_line Write = []
last_line (Other kept given) =
    line_of (codes "journal other " ++ encode_lower kept ++ codes " " ++ encode_lower given)
last_line (Damaged at) = line_of (codes "journal damaged at " ++ decimal at)
last_line Cabinet = line_of (codes "cabinet")
last_line Memory = line_of (codes "no memory")
last_line TooLong = line_of (codes "too long")
last_line Door = line_of (codes "door")
last_line (Packet at) = line_of (codes "packet " ++ decimal at)

-- what a fault of opening a store is for a run
abbrev pub of_store : StoreFault → Fault
of_store store.Disk = Cabinet
of_store (store.Other kept given) = Other kept given
of_store (store.Damaged at) = Damaged at
of_store store.Memory = Memory
