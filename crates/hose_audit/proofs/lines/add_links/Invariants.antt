use Rattle.std.proofs.Common.{take}
use Rattle.std.specs.List.{flat_map}
use Rattle.hose_io.specs.steps.Gather.{IsAdded}
use Rattle.hose_audit.specs.Audit.{load_line, link_numbers}
use Rattle.hose_audit.proofs.lines.add_links.Given as goal

abbrev pub invariant-loop-number : goal.invariant-loop-number
invariant-loop-number g l =
    IsAdded g.S.Sink l.fn.gather l.fn.sink l.gather l.sink
    (flat_map (load_line l.book.network l.book.book) (take l.number (link_numbers l.book.network)))
