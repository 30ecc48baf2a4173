-- The best of all places.
use Rattle.std.proofs.Common.{◌≡◌, ℕ, length, subst, arith}
use Rattle.hose_root.proofs.Best.{BestBelow, IsBestBelow, best_of_all}
use Rattle.hose_root.proofs.choose.Goals as goal

pub returns-clause-least : goal.returns-clause-least
returns-clause-least c =
    let weights = c.args.weights.now in
    let best = c.in_ok-best.field-0 in
    let all : c.loop-place.place ≡ length weights = omega arith in
    let is : IsBestBelow weights c.loop-place.place best.0 best.1 = subst (BestBelow weights c.loop-place.place) c.in_ok-best.was c.loop-place.invariant in
    best_of_all weights best.0 best.1 (subst (λ (n : ℕ). IsBestBelow weights n best.0 best.1) all is)
