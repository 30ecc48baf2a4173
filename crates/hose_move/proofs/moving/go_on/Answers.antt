use Rattle.std.proofs.Common.{rules, subst, sym}
use Rattle.std.specs.Prelude.{Err}
use Rattle.hose_move.specs.Moving.{Moves}
use Rattle.hose_move.proofs.Committed.{moves_all}
use Rattle.hose_move.proofs.Compared.{moving_from, refused_at}
use Rattle.hose_store.specs.declared.fault.StoreFault.TheVariants as store
use Rattle.hose_move.proofs.moving.go_on.Goals as goal

pub returns-in-Err-clause-moves : goal.returns-in-Err-clause-moves
returns-in-Err-clause-moves g c = λ was network part.
    let failed = c.in-Err.ensures.failed was network _ part.replaying in
    (refused_at g.D.Disk was network c.args.entries.now c.in-Err.disk store.Disk failed.0 failed.1).0

pub returns-in-Err-clause-only : goal.returns-in-Err-clause-only
returns-in-Err-clause-only g c = λ was network part.
    let failed = c.in-Err.ensures.failed was network _ part.replaying in
    (refused_at g.D.Disk was network c.args.entries.now c.in-Err.disk store.Disk failed.0 failed.1).1

pub returns-in-Ok-commit_rest-clause-moves : goal.returns-in-Ok-commit_rest-clause-moves
returns-in-Ok-commit_rest-clause-moves g c = λ was network part.
    let moving = moving_from g.D.Disk was network c.args.entries.now c.args.replay c.args.place c.in-Ok.store part (c.in-Ok.ensures.becomes was network _ part.replaying) in
    let moved = c.in-Ok-commit_rest.ensures was network moving in
    rw c.stop.ensures (moves_all g.D.Disk was network c.args.entries.now c.commit_rest.new.store _ moved (search rules))

pub returns-in-Ok-commit_rest-clause-only : goal.returns-in-Ok-commit_rest-clause-only
returns-in-Ok-commit_rest-clause-only g c = λ was network part.
    let moving = moving_from g.D.Disk was network c.args.entries.now c.args.replay c.args.place c.in-Ok.store part (c.in-Ok.ensures.becomes was network _ part.replaying) in
    let moved = c.in-Ok-commit_rest.ensures was network moving in
    rw c.stop.ensures moved.only

pub returns-in-Err-commit_rest-clause-moves : goal.returns-in-Err-commit_rest-clause-moves
returns-in-Err-commit_rest-clause-moves g c = λ was network part.
    let moving = moving_from g.D.Disk was network c.args.entries.now c.args.replay c.args.place c.in-Ok.store part (c.in-Ok.ensures.becomes was network _ part.replaying) in
    let ends = c.in-Err-commit_rest.ensures was network moving in
    subst (λ (left : g.row.D.Denot). Moves g.D.Disk was network c.args.entries.now left (Err c.in-Err-commit_rest.fault)) (sym c.stop-in-Err-commit_rest.ensures) ends.0

pub returns-in-Err-commit_rest-clause-only : goal.returns-in-Err-commit_rest-clause-only
returns-in-Err-commit_rest-clause-only g c = λ was network part.
    let moving = moving_from g.D.Disk was network c.args.entries.now c.args.replay c.args.place c.in-Ok.store part (c.in-Ok.ensures.becomes was network _ part.replaying) in
    let ends = c.in-Err-commit_rest.ensures was network moving in
    rw c.stop-in-Err-commit_rest.ensures ends.1
