use Rattle.std.proofs.Common.{◌≡◌, take}
use Rattle.hose_law.specs.steps.VpnIds.{ids_of}
use Rattle.hose_book.proofs.listing.own_ids.Given as goal

abbrev pub invariant-loop-vpn : goal.invariant-loop-vpn
invariant-loop-vpn l = l.ids.items ≡ ids_of l.customer (take l.vpn-index l.live)
