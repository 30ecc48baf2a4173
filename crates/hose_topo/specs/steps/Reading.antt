-- Why no topology was read, and what a fault leaves: steps of proofs.
use Rattle.std.specs.Prelude.{◌≡◌, Option, None, Some, Result, Ok, Err}
use Rattle.hose_graph.specs.Network.{Network}
use Rattle.hose_words.specs.declared.lines.LineFault.{LineFault}
use Rattle.hose_words.specs.declared.lines.LineFault.TheVariants as line
use Rattle.hose_topo.specs.declared.fault.TopoFault.{TopoFault}
use Rattle.hose_topo.specs.declared.fault.TopoFault.TheVariants.{At, Read, TooLong, Memory}

-- what a fault of reading is called where no topology was read for it
abbrev pub fault_of : LineFault → TopoFault
fault_of line.Read = Read
fault_of line.TooLong = TooLong

-- A fault of reading is kept. Without one the reader has none, and want of memory leaves it as it
-- was.
abbrev pub KeepsLineFault : Option LineFault → Option LineFault → Result Network TopoFault → Type 0
KeepsLineFault old new (Ok network) = (old ≡ None) × (new ≡ None)
KeepsLineFault old new (Err (At line word)) = (old ≡ None) × (new ≡ None)
KeepsLineFault old new (Err Read) = new ≡ Some line.Read
KeepsLineFault old new (Err TooLong) = new ≡ Some line.TooLong
KeepsLineFault old new (Err Memory) = new ≡ old
