use Rattle.std.proofs.Common.{◌∙◌, List, ap, arith, drop, length, length-drop}
use Rattle.std.specs.List.{remove}
use Rattle.hose_graph.specs.declared.entry.Vpn.{Vpn}
use Rattle.hose_book.proofs.Moving.{drop_removed}
use Rattle.hose_book.proofs.live_vpns.LiveVpns.remove.Goals as goal

pub returns-else-place-later : goal.returns-else-place-later
returns-else-place-later c =
    let gone = c.self.inside.gone in
    let items = c.self.inside.vpns.items in
    ap (drop gone) c.remove.ensures.items
    ∙ drop_removed items gone c.args.place (omega (arith, c.requires, ap length c.self.view_is, length-drop gone items))
    ∙ ap (λ (live : List Vpn). remove live c.args.place) c.self.view_is
