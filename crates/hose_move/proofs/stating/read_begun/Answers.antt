use Rattle.std.proofs.Common.{refl, subst}
use Rattle.hose_graph.specs.Network.{Network}
use Rattle.hose_store.specs.steps.Becoming.{BeginsAtMost}
use Rattle.hose_journal.specs.Opening.{AddsNoRecord}
use Rattle.hose_store.specs.Opening.{IsRefusedStore}
use Rattle.hose_store.specs.Recovery.{digest_of}
use Rattle.hose_store.proofs.Begins.{nothing_begun}
use Rattle.hose_move.proofs.Readings.{no_further, refused_open}
use Rattle.hose_move.proofs.stating.read_begun.Goals as goal

pub returns-in_default : goal.returns-in_default
returns-in_default g c = no_further g.D.Disk c.args.disk c.args.old.now c.args.disk (nothing_begun g.D.Disk c.args.disk c.args.old.now (g.met.D.Disk.only_now c.args.disk)) (λ not. refl)

pub returns-in-Err : goal.returns-in-Err
returns-in-Err g c =
    refused_open g.D.Disk c.args.disk c.args.old.now c.in-Err.refused.1 c.in-Err.refused.0
    (subst (λ (n : Network). IsRefusedStore g.D.Disk c.args.disk c.in-Err.refused.1 n c.in-Err.refused.0) c.in-Ok.ensures c.in-Err.ensures.refused.0)
    (subst (λ (n : Network). BeginsAtMost g.D.Disk c.args.disk c.in-Err.refused.1 n) c.in-Ok.ensures c.in-Err.ensures.begins)
    (subst (λ (n : Network). AddsNoRecord (g.D.Disk.content c.args.disk) (g.D.Disk.content c.in-Err.refused.1) (digest_of n)) c.in-Ok.ensures c.in-Err.ensures.refused.2)
