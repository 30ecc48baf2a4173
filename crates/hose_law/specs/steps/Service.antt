-- Links in service and out of it. A book keeps those that are out, so that it begins without a
-- network: all links are in service then: steps of proofs.
use Rattle.std.specs.Prelude.{ℕ, Bool, true, false}
use Rattle.hose_graph.specs.declared.entry.Entry.{Entry}
use Rattle.hose_graph.specs.declared.entry.Entry.TheVariants.{Down, Up}

-- the entry that takes a link out of service, where this is true, or puts it back
abbrev pub service_entry : Bool → ℕ → Entry
service_entry true link = Down link
service_entry false link = Up link
