-- One place more, which is the best one or not.
use Rattle.std.proofs.Common.{◌+◌, ℕ, sym, subst, arith}
use Rattle.hose_price.proofs.Best.{IsFirstBelow, less_more, same_more}
use Rattle.hose_price.proofs.priced.best_of.Goals as goal
use Rattle.hose_price.proofs.priced.best_of.Goals.{then-prices-place, else-prices-place}

pub loop-place-preserved : goal.loop-place-preserved
loop-place-preserved c =
    let prices = c.args.prices.now in
    let place = c.loop-place.place in
    let best = c.loop-place.best in
    let next : (n : ℕ) → Type 0 = λ n. IsFirstBelow prices (place + 1) n in
    elim c.if-prices-place.branch [
      | then-prices-place w ↦ subst next (sym w.best-is) (less_more prices place best c.loop-place.invariant (omega (arith, w.if-prices-place.true)))
      | else-prices-place w ↦ subst next (sym w.best-is) (same_more prices place best c.loop-place.invariant (omega (arith, w.if-prices-place.false)))
    ]
