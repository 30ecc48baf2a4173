use Rattle.std.proofs.Common.{◌<◌, length, arith, refl, sym, ◌∙◌}
use Rattle.std.proofs.lemmas.Bool.{false≢true}
use Rattle.hose_plan.proofs.EqualGrounds.{safe_at, safe_from}
use Rattle.hose_plan.proofs.holding.are_safe.Goals as goal

pub returns-then-not-is_safe_as_before : goal.returns-then-not-is_safe_as_before
returns-then-not-is_safe_as_before c hose halves = (
  λ no. absurd (false≢true no),
  λ same.
      let inside : c.loop-link.link < length c.args.top.now.links = omega arith in
      absurd (false≢true (sym c.if-not-is_safe_as_before.true
      ∙ c.is_safe_as_before.ensures.1 (safe_at c.args.top.now c.args.service.now c.args.loads.now hose c.requires.service c.args.grounds.now.half c.args.grounds.now.safe halves same c.loop-link.link inside))),
)

pub returns : goal.returns
returns c hose halves = (
  λ yes. safe_from c.args.top.now c.args.service.now c.args.loads.now hose c.requires.service c.args.grounds.now.half c.args.grounds.now.safe halves c.requires.places (λ l inside. c.loop-link.invariant l (omega arith)),
  λ same. refl,
)
