use Rattle.std.proofs.Common.{ap, ◌∙◌}
use Rattle.hose_graph.specs.Row.{Distances}
use Rattle.hose_cert.proofs.Added.{no_roots, roots_more}
use Rattle.hose_cert.proofs.writing.add_roots.Goals as goal

pub loop-root-init : goal.loop-root-init
loop-root-init g c = no_roots g.S.Sink c.args.linked.now.top.now c.args.most c.args.gather.now c.args.sink.now

pub loop-root-preserved : goal.loop-root-preserved
loop-root-preserved g c =
    let dist = c.deref.ensures.value ∙ ap (λ (r : Distances). r.dist) c.row-in-loop-root.view_is in
    roots_more g.S.Sink c.args.linked.now.top.now c.args.most _ _ _ _ _ _ c.loop-root.root c.in_ok-row.row c.loop-root.invariant (rw c.requires at (c.in_ok-row.ensures).row) (rw dist at c.add_root.ensures)
