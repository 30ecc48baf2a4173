use Rattle.std.proofs.Common.{inl, inr, refl, subst}
use Rattle.hose_outside.specs.Reading.{ReadsTopology}
use Rattle.hose_copying.specs.steps.Moving.{names_of}
use Rattle.hose_outside.specs.steps.Parts.{held}
use Rattle.hose_copying.proofs.moving.move_from.Goals as goal

pub returns-in-Ok-clause-moves : goal.returns-in-Ok-clause-moves
returns-in-Ok-clause-moves g c =
    let names = names_of (g.P.Prices.prices c.args.costs.now) c.args.of in
    let before = held c.args.outside.now in
    let reads = subst (ReadsTopology g.C.Cabinet before.cabinet c.read_topology.new.cabinet names.prices names.new_topology) c.in-Ok.is c.read_topology.ensures.reads in
    inr (c.in-Ok.new, c.read_topology.new.cabinet, reads, c.move_on.ensures.moves)

pub returns-in-Err-clause-moves : goal.returns-in-Err-clause-moves
returns-in-Err-clause-moves g c =
    let names = names_of (g.P.Prices.prices c.args.costs.now) c.args.of in
    let before = held c.args.outside.now in
    let reads = subst (ReadsTopology g.C.Cabinet before.cabinet c.read_topology.new.cabinet names.prices names.new_topology) c.in-Err.is c.read_topology.ensures.reads in
    inl (c.in-Err.why, refl, reads, refl)
