use Rattle.hose_topo.proofs.NamesTold.{name_told}
use Rattle.hose_topo.proofs.canonical.add_ends.Goals as goal

pub returns : goal.returns
returns g c =
    let next = g.met.P.Pieces.next in
    let a = name_told c.args.top.now.nodes c.args.link.now.a _ _ c.name.ensures c.bytes.ensures.value in
    let b = name_told c.args.top.now.nodes c.args.link.now.b _ _ c.name-2.ensures c.bytes-2.ensures.value in
    next _ _ _ _ _ (next _ _ _ _ _ (next _ _ _ _ _ c.add.ensures (rw a at c.add-2.ensures)) c.add-3.ensures) (rw b at c.add-4.ensures)
