use Rattle.std.proofs.Common.{◌∙◌, ap, subst, sym}
use Rattle.std.specs.List.Sorted.{IsStrictlyIncreasing}
use Rattle.hose_law.specs.Answer.{AreVpnsOf}
use Rattle.hose_law.specs.Live.{Rise}
use Rattle.hose_law.specs.steps.VpnIds.{ids_of}
use Rattle.hose_law.proofs.VpnLists.{are_vpns, ids_ascend}
use Rattle.hose_book.proofs.Book.vpns_of.Goals as goal

pub from_vec-requires : goal.from_vec-requires
from_vec-requires c = subst IsStrictlyIncreasing (sym c.in_ok-ids.ensures) (ids_ascend c.args.customer.now c.live.result.now c.live.ensures.rise)

pub returns : goal.returns
returns c =
    let book = c.args.self.now.book in
    let customer = c.args.customer.now in
    let same = c.live.ensures.value in
    let rise : Rise book.live = subst Rise same c.live.ensures.rise in
    subst (AreVpnsOf book customer) (sym (c.from_vec.ensures ∙ c.in_ok-ids.ensures ∙ ap (ids_of customer) same)) (are_vpns customer book rise)
