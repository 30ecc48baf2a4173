-- What stands after `ship`, by what ended it: steps of proofs.
use Rattle.hose_follow.specs.declared.shipping.ShipFault.{ShipFault}
use Rattle.hose_follow.specs.declared.shipping.ShipFault.TheVariants as shipping
use Rattle.hose_outside.specs.declared.fault.Fault.{Fault}
use Rattle.hose_outside.specs.declared.fault.Fault.TheVariants.{Write}
use Rattle.hose_outside.specs.Fault.{of_store}
use Rattle.std.specs.Prelude.{ℕ, Result, Ok, Err, ⊤}

-- what a fault of shipping a journal is
abbrev pub of_shipping : ShipFault → Fault
of_shipping (shipping.Store fault) = of_store fault
of_shipping shipping.Write = Write

-- what came of shipping, as a fault of the program
abbrev pub shipping_done : Result ℕ ShipFault → Result ⊤ Fault
shipping_done (Ok count) = Ok tt
shipping_done (Err why) = Err (of_shipping why)
