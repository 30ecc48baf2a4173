-- What reading a topology in JSON of a source comes to.
use Rattle.std.specs.Prelude.{ℕ, ◌+◌, ◌<◌, ◌≤◌, List, Option, Result, Ok, Err, length, ⊤}
use Rattle.hose_io.specs.Stream.{Gives, Stream}
use Rattle.hose_words.specs.Reading.{WhereTold}
use Rattle.hose_graph.specs.Network.{IsNetwork, Network}
use Rattle.hose_topo_json.specs.JsonTopology.{IsJsonTopology}
use Rattle.hose_outside.specs.TopologyTold.{TellsNoNetwork}
use Rattle.hose_outside.specs.declared.fault.Fault.{Fault}
use Rattle.hose_outside.specs.declared.fault.Fault.TheVariants.{Topology, Text, Memory, TooLong}
use Rattle.hose_outside.specs.Limits.{json_limit}
use Rattle.hose_outside.specs.declared.notation.Notation.TheVariants as notation

-- why the bytes that a source had left were not taken all
abbrev pub IsPieceFault : Option Stream → Option Stream → Fault → Type 0
IsPieceFault old new TooLong = (bytes : List ℕ) × Gives old new bytes
    × (json_limit < length bytes) × (length bytes ≤ json_limit + 1)
IsPieceFault old new Text =
    (bytes : List ℕ) × Gives old new bytes × (length bytes ≤ json_limit)
IsPieceFault old new Memory =
    (bytes : List ℕ) × Gives old new bytes × (length bytes ≤ json_limit)
IsPieceFault old new fault = ⊥

-- the topology that the bytes are, or why none was read
abbrev pub IsJsonOf : Option Stream → Option Stream → Result Network Fault → Type 0
IsJsonOf old new (Ok network) =
    IsNetwork network × WhereTold old new (λ bytes _. IsJsonTopology bytes network)
IsJsonOf old new (Err (Topology refusal)) = TellsNoNetwork notation.Json refusal old new
IsJsonOf old new (Err Text) = ⊤
IsJsonOf old new (Err Memory) = ⊤
IsJsonOf old new (Err TooLong) = ⊤
IsJsonOf old new (Err fault) = ⊥
