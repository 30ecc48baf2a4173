use Rattle.std.proofs.Common.{◌∙◌, ◌-◌, List, ap, get_or, length, subst, sym}
use Rattle.hose_graph.specs.declared.entry.Vpn.{Vpn}
use Rattle.hose_law.specs.Answer.{IsNewest}
use Rattle.hose_law.specs.Live.{Rise}
use Rattle.hose_law.specs.steps.VpnIds.{ids_of}
use Rattle.hose_law.proofs.VpnLists.{are_vpns}
use Rattle.hose_book.proofs.Newest.{newest_last}
use Rattle.hose_book.proofs.Book.newest_of.Goals as goal

pub returns : goal.returns
returns c =
    let book = c.args.self.now.book in
    let customer = c.args.customer.now in
    let same = c.live.ensures.value in
    let rise : Rise book.live = subst Rise same c.live.ensures.rise in
    let last = c.newest_id.ensures ∙ ap (λ (live : List Vpn). get_or (ids_of customer live) (length (ids_of customer live) - 1) 0) same in
    subst (IsNewest book customer) (sym last) (newest_last book customer (ids_of customer book.live) (are_vpns customer book rise))
