use Rattle.std.proofs.Common.{rules}
use Rattle.hose_move.proofs.Beginnings.{kept_begun, keeps_begun, ranges_of, reads_begun, unchanged_begun}
use Rattle.hose_move.proofs.Readings.{no_ranges, states_nothing}
use Rattle.hose_move.proofs.stating.read_journal.Goals as goal

pub returns-in-Ok-true-clause-reads : goal.returns-in-Ok-true-clause-reads
returns-in-Ok-true-clause-reads g c =
    reads_begun g.D.Disk c.args.disk c.is_begun.new.disk c.in-Ok-true.ensures.only c.read_begun.result.1 c.args.old.now c.args.scope c.read_begun.result.0 c.in-Ok-true.ensures.count (g.met.D.Disk.untold c.read_begun.result.1)
    (c.in-Ok-true.ensures.begun (search rules)) c.read_begun.ensures

pub returns-in-Ok-true-clause-ranges : goal.returns-in-Ok-true-clause-ranges
returns-in-Ok-true-clause-ranges g c =
    ranges_of g.D.Disk c.args.disk c.is_begun.new.disk c.in-Ok-true.ensures.only c.read_begun.result.1 c.args.old.now c.args.scope c.read_begun.result.0 c.read_begun.ensures

pub returns-in-Ok-true-clause-unchanged : goal.returns-in-Ok-true-clause-unchanged
returns-in-Ok-true-clause-unchanged g c =
    unchanged_begun g.D.Disk c.args.disk c.is_begun.new.disk c.in-Ok-true.ensures.only c.read_begun.result.1 c.args.old.now c.args.scope c.read_begun.result.0 c.read_begun.ensures (g.met.D.Disk.untold c.read_begun.result.1)
    (c.in-Ok-true.ensures.begun (search rules))

pub returns-in-Ok-true-clause-kept : goal.returns-in-Ok-true-clause-kept
returns-in-Ok-true-clause-kept g c =
    kept_begun g.D.Disk c.args.disk c.is_begun.new.disk c.in-Ok-true.ensures.only c.read_begun.result.1 c.args.old.now c.args.scope c.read_begun.result.0 c.read_begun.ensures (c.in-Ok-true.ensures.begun (search rules))

pub returns-in-Ok-true-clause-keeps : goal.returns-in-Ok-true-clause-keeps
returns-in-Ok-true-clause-keeps g c =
    keeps_begun g.D.Disk c.args.disk c.is_begun.new.disk c.in-Ok-true.ensures.only c.read_begun.result.1 c.args.old.now c.args.scope c.read_begun.result.0 c.read_begun.ensures

pub returns-in-Ok-false-clause-reads : goal.returns-in-Ok-false-clause-reads
returns-in-Ok-false-clause-reads g c =
    states_nothing g.D.Disk c.args.disk c.args.old.now c.is_begun.new.disk c.args.scope c.state_nothing.result c.state_nothing.ensures.entries c.state_nothing.ensures.numbers
    (c.in-Ok-false.ensures.unbegun (search rules)) c.in-Ok-false.ensures.count

pub returns-in-Ok-false-clause-ranges : goal.returns-in-Ok-false-clause-ranges
returns-in-Ok-false-clause-ranges g c = no_ranges c.state_nothing.result.entries.items c.state_nothing.ensures.entries
