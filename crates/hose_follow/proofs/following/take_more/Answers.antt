use Rattle.std.proofs.Common.{ℕ, sym, subst}
use Rattle.hose_follow.specs.steps.Exchanging.{TakesMore}
use Rattle.hose_follow.proofs.following.take_more.Goals as goal

pub returns-then-intake-eq-INPUT_LIMIT : goal.returns-then-intake-eq-INPUT_LIMIT
returns-then-intake-eq-INPUT_LIMIT g c =
    let pending = c.args.intake.now.buffer.pending in
    subst (λ (n : ℕ). TakesMore g.S.Source (record { source = c.args.source.now; pending = pending; taken = n }) (record { source = c.take_past_limit.new.source; pending = pending; taken = n }) c.take_past_limit.result) (sym c.if-intake-eq-INPUT_LIMIT.true) (c.take_past_limit.ensures pending)
