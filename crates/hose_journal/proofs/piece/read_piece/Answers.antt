use Rattle.std.proofs.Common.{arith}
use Rattle.std.proofs.lemmas.List.{length-take}
use Rattle.hose_journal.proofs.Pieces.{told_read}
use Rattle.hose_journal.proofs.piece.read_piece.Goals as goal

pub returns-clause-read : goal.returns-clause-read
returns-clause-read g c =
    told_read (g.D.Disk.content c.args.disk.now) (g.D.Disk.content c.read_at.new.self) c.read_at.new.into _ c.args.at _ c.args.end c.in_ok-count.count
    c.read_at.ensures.same c.in_ok-count.ensures.read c.in_ok-count.ensures.room (omega (arith, length-take c.min-room.result c.args.into.now))
