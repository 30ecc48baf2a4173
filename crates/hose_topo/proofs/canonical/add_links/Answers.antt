use Rattle.std.proofs.Common.{◌≡◌, get_or, sym, arith}
use Rattle.std.proofs.lemmas.Option.{get_or_from_slice_get}
use Rattle.hose_graph.specs.declared.topology.Link.{Link}
use Rattle.hose_io.proofs.Gathering.{flat_map-take}
use Rattle.hose_topo.specs.Canonical.{link_line}
use Rattle.hose_topo.proofs.canonical.add_links.Goals as goal

pub loop-number-preserved : goal.loop-number-preserved
loop-number-preserved g c =
    let other : Link = record { a = 0; b = 0; capacity = 0; length = 0; cost = 0 } in
    let told : c.link-link.result ≡ get_or c.args.top.now.links c.loop-number.number other =
    sym (get_or_from_slice_get c.args.top.now.links c.loop-number.number c.link-link.result other c.link-link.ensures.value) in
    rw (flat_map-take (link_line c.args.top.now) c.args.top.now.links c.loop-number.number other (omega arith))
    (g.met.P.Pieces.next _ _ _ _ _ c.loop-number.invariant (rw told at c.add_link.ensures))
