-- What is done by the network of a topology that is named.
use Rattle.std.specs.Prelude.{◌≡◌, ◌⊎◌, List, ℕ, Result, Ok, Err}
use Rattle.hose_graph.specs.Network.{Network}
use Rattle.hose_outside.specs.Reading.{ReadsTopology}
use Rattle.hose_outside.specs.Parts.{Parts, Tellings}
use Rattle.hose_outside.specs.declared.fault.Fault.{Fault}

module _ {I O C E : Type 0} (tells : Tellings I O C E) (prices : Network → Network → Type 0)
    (name : List ℕ) (before after : Parts I O C) where
  -- The topology of this name was read, at these prices, and this was done by its network, with the
  -- cabinet left alone; or it was not, and why, and then nothing was taken of the input, and
  -- nothing is out.
  abbrev pub ReadsThen : {T : Type 0} → (Network → Result T Fault → Type 0) → Result T Fault
      → Type 0
  ReadsThen Done result = ((network : Network)
      × ReadsTopology tells.cabinet before.cabinet after.cabinet prices name (Ok network)
      × Done network result)
      ⊎ ((why : Fault) × (result ≡ Err why)
      × ReadsTopology tells.cabinet before.cabinet after.cabinet prices name (Err why)
      × (after.input ≡ before.input) × (after.output ≡ before.output))
