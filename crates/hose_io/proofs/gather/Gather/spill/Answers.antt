use Rattle.std.proofs.Common.{rules}
use Rattle.std.proofs.lemmas.Result.{on_err_weaker}
use Rattle.hose_io.proofs.Gathering.{GoesOut-all}
use Rattle.hose_io.proofs.Streams.{GrowsInPart-append, GrowsInPart-after}
use Rattle.hose_io.proofs.gather.Gather.spill.Goals as goal

pub returns-in_err-flush-clause-err : goal.returns-in_err-flush-clause-err
returns-in_err-flush-clause-err g c = search (rules, GrowsInPart-append)

pub returns-then-bytes-gt-GATHER_LIMIT-clause-ok : goal.returns-then-bytes-gt-GATHER_LIMIT-clause-ok
returns-then-bytes-gt-GATHER_LIMIT-clause-ok g c = search (rules, GoesOut-all)

pub returns-then-bytes-gt-GATHER_LIMIT-clause-err : goal.returns-then-bytes-gt-GATHER_LIMIT-clause-err
returns-then-bytes-gt-GATHER_LIMIT-clause-err g c =
    on_err_weaker c.write_all.result (GrowsInPart-after _ _ _ _ _ c.in_ok-flush.ensures.put.ok) c.write_all.ensures.put.err
