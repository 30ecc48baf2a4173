use Rattle.std.proofs.Common.{subst}
use Rattle.hose_graph.specs.Network.{Network}
use Rattle.hose_store.specs.Opening.{IsRefusedStore}
use Rattle.hose_store.specs.Replaying.{IsOnlyOpened}
use Rattle.hose_move.proofs.Compared.{refused_at, untouched}
use Rattle.hose_move.proofs.moving.move_into.Goals as goal

pub returns-in_default-clause-moves : goal.returns-in_default-clause-moves
returns-in_default-clause-moves g c = (untouched g.D.Disk c.args.disk c.args.new.now c.args.entries.now (g.met.D.Disk.only_now c.args.disk)).0

pub returns-in_default-clause-only : goal.returns-in_default-clause-only
returns-in_default-clause-only g c = (untouched g.D.Disk c.args.disk c.args.new.now c.args.entries.now (g.met.D.Disk.only_now c.args.disk)).1

pub returns-in-Err-clause-moves : goal.returns-in-Err-clause-moves
returns-in-Err-clause-moves g c =
    (refused_at g.D.Disk c.args.disk c.args.new.now c.args.entries.now c.in-Err.refused.1 c.in-Err.refused.0
    (subst (λ (n : Network). IsRefusedStore g.D.Disk c.args.disk c.in-Err.refused.1 n c.in-Err.refused.0) c.in-Ok.ensures c.in-Err.ensures.refused.0)
    (subst (λ (n : Network). IsOnlyOpened g.D.Disk c.args.disk c.in-Err.refused.1 n) c.in-Ok.ensures c.in-Err.ensures.refused.1)).0

pub returns-in-Err-clause-only : goal.returns-in-Err-clause-only
returns-in-Err-clause-only g c =
    (refused_at g.D.Disk c.args.disk c.args.new.now c.args.entries.now c.in-Err.refused.1 c.in-Err.refused.0
    (subst (λ (n : Network). IsRefusedStore g.D.Disk c.args.disk c.in-Err.refused.1 n c.in-Err.refused.0) c.in-Ok.ensures c.in-Err.ensures.refused.0)
    (subst (λ (n : Network). IsOnlyOpened g.D.Disk c.args.disk c.in-Err.refused.1 n) c.in-Ok.ensures c.in-Err.ensures.refused.1)).1
