use Rattle.std.proofs.Common.{ℕ, refl}
use Rattle.hose_move.specs.Changing.{HaveSameLink}
use Rattle.hose_move.proofs.Changes.{below_more}
use Rattle.hose_move.proofs.changing.first_change.Goals as goal

pub loop-link-preserved : goal.loop-link-preserved
loop-link-preserved c = below_more (λ (link : ℕ). HaveSameLink c.args.old.now c.args.new.now link) c.loop-link.link c.loop-link.invariant (c.if-not-link_stays.ensures.0 refl)
