use Rattle.hose_topo.proofs.canonical.add_link.Goals as goal

pub returns : goal.returns
returns g c =
    let next = g.met.P.Pieces.next in
    let capacity = next _ _ _ _ _ (next _ _ _ _ _ c.add_ends.ensures c.add.ensures) c.add_number.ensures in
    let length = next _ _ _ _ _ (next _ _ _ _ _ capacity c.add-2.ensures) c.add_number-2.ensures in
    let cost = next _ _ _ _ _ (next _ _ _ _ _ length c.add-3.ensures) c.add_number-3.ensures in
    next _ _ _ _ _ cost c.add-4.ensures
