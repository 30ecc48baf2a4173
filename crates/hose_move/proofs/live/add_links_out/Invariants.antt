-- The links so far that are out of service have an entry.
use Rattle.std.proofs.Common.{◌≡◌, ◌++◌, map}
use Rattle.hose_move.specs.Stating.{down_entry, links_out}
use Rattle.hose_move.proofs.live.add_links_out.Given as goal

abbrev pub invariant-loop-link : goal.invariant-loop-link
invariant-loop-link l = l.entries.items ≡ l.fn.entries.items ++ map down_entry (links_out l.link l.book.book)
