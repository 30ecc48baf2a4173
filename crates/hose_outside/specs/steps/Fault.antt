-- What tells a fault: the status with which the program ends, and the last line that it writes:
-- steps of proofs.
use Rattle.hose_topo.specs.declared.fault.TopoFault.{TopoFault}
use Rattle.hose_topo.specs.declared.fault.TopoFault.TheVariants as topology
use Rattle.hose_topo_json.specs.declared.reading.JsonFault.{JsonFault}
use Rattle.hose_topo_json.specs.declared.reading.JsonFault.TheVariants as json
use Rattle.hose_outside.specs.declared.fault.Fault.{Fault}
use Rattle.hose_outside.specs.declared.notation.Refusal.TheVariants.{Word, Json, Nodes, Node, Links, Link}
use Rattle.hose_outside.specs.declared.fault.Fault.TheVariants.{Topology, Read, Memory, TooLong}

-- what a fault of reading a topology is, where a source that fails is told so
abbrev pub of_topology : Fault → TopoFault → Fault
of_topology failed (topology.At line word) = Topology (Word line word)
of_topology failed topology.Read = failed
of_topology failed topology.TooLong = TooLong
of_topology failed topology.Memory = Memory

-- what a fault of reading one in JSON is
abbrev pub of_json : JsonFault → Fault
of_json json.Json = Topology Json
of_json json.Nodes = Topology Nodes
of_json (json.Node index) = Topology (Node index)
of_json json.Links = Topology Links
of_json (json.Link index) = Topology (Link index)
of_json json.Memory = Memory
