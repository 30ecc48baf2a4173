use Rattle.std.proofs.Common.{arith, refl, rules, sym, ◌∙◌}
use Rattle.std.proofs.lemmas.Bool.{false≢true}
use Rattle.hose_plan.proofs.EqualGrounds.{safe_at, safe_from}
use Rattle.hose_plan.proofs.NamedLinks.{all_settled}
use Rattle.hose_plan.proofs.since.are_safe_since.Goals as goal

pub returns-then-not-is_safe_as_before : goal.returns-then-not-is_safe_as_before
returns-then-not-is_safe_as_before c hose halves = (
  λ no. absurd (false≢true no),
  λ same.
      absurd (false≢true (sym c.if-not-is_safe_as_before.true
      ∙ c.is_safe_as_before.ensures.1 (safe_at c.args.top.now c.args.service.now c.args.loads.now hose c.requires.service c.args.grounds.now.half c.args.grounds.now.safe halves same _ (search rules)))),
)

pub returns : goal.returns
returns c hose halves = (
  λ yes.
      safe_from c.args.top.now c.args.service.now c.args.loads.now hose c.requires.service c.args.grounds.now.half c.args.grounds.now.safe halves c.requires.places
      (all_settled c.args.top.now c.args.service.now c.args.loads.now c.args.changes.now c.args.seen c.args.grounds.now.half c.args.grounds.now.safe c.requires.others (λ k below. c.loop-epoch.invariant k (omega arith))),
  λ same. refl,
)
