use Rattle.hose_cert.specs.steps.Adding.{AddsRoots}
use Rattle.hose_cert.proofs.writing.add_roots.Given as goal

abbrev pub invariant-loop-root : goal.invariant-loop-root
invariant-loop-root g l = AddsRoots g.S.Sink l.linked.top.now l.most l.fn.gather l.fn.sink l.gather l.sink l.root
