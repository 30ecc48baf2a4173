use Rattle.std.proofs.lemmas.Result.{err_from_is_err_and}
use Rattle.hose_codec.proofs.Entries.{no_id}
use Rattle.hose_codec.proofs.reading.release.Goals as goal

pub returns-in_err-id : goal.returns-in_err-id
returns-in_err-id c =
    let p = err_from_is_err_and c.from_residual.result c.from_residual.ensures.1 in
    rw (p.1, p.2, c.in_err-id.ensures.0) (no_id _ _ _ c.in-Some.ensures c.in_err-id.ensures.1)
