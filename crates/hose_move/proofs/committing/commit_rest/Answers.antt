use Rattle.std.proofs.Common.{length, refl, arith}
use Rattle.std.proofs.lemmas.Option.{slice_get_read}
use Rattle.std.proofs.lemmas.Result.{err_from_is_err_and}
use Rattle.hose_move.proofs.Committed.{all_moved, step_ends, step_more}
use Rattle.hose_move.proofs.committing.commit_rest.Goals as goal

pub loop-place-preserved : goal.loop-place-preserved
loop-place-preserved g c = λ was network moving.
    let there = slice_get_read c.args.entries.now (length c.args.entries.now) c.loop-place.place c.index-entries-place.result refl (omega arith) c.index-entries-place.is in
    step_more g.D.Disk was network c.args.entries.now c.loop-place.store c.commit_entry.new.store c.loop-place.place c.index-entries-place.result (c.loop-place.invariant was network moving) there c.in_ok-commit_entry.ensures

pub returns : goal.returns
returns g c = λ was network moving. all_moved g.D.Disk was network c.args.entries.now c.loop-place.store c.loop-place.place (c.loop-place.invariant was network moving) (omega arith)

pub returns-in_err-commit_entry : goal.returns-in_err-commit_entry
returns-in_err-commit_entry g c = λ was network moving.
    let there = slice_get_read c.args.entries.now (length c.args.entries.now) c.loop-place.place c.index-entries-place.result refl (omega arith) c.index-entries-place.is in
    let told = err_from_is_err_and c.from_residual.result c.from_residual.ensures.1 in
    rw (told.1, told.2) (step_ends g.D.Disk was network c.args.entries.now c.loop-place.store c.commit_entry.new.store c.loop-place.place c.index-entries-place.result _ (c.loop-place.invariant was network moving) there c.in_err-commit_entry.ensures)
