use Rattle.std.proofs.Common.{take}
use Rattle.hose_book.specs.steps.Refusal.{AreInService}
use Rattle.hose_book.proofs.checking.first_link_out.Given as goal

abbrev pub invariant-loop-link : goal.invariant-loop-link
invariant-loop-link l = AreInService l.service (take l.link-index l.amounts)
