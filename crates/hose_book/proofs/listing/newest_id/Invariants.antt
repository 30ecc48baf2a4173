-- The VPNs that come after those that are left are all others'.
use Rattle.std.proofs.Common.{◌≡◌}
use Rattle.hose_law.specs.steps.VpnIds.{ids_of}
use Rattle.hose_book.proofs.listing.newest_id.Given as goal

abbrev pub invariant-loop-last : goal.invariant-loop-last
invariant-loop-last l = ids_of l.customer l.live ≡ ids_of l.customer l.last-iterator.iter.rest.now
