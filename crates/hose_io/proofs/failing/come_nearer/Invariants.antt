use Rattle.std.proofs.Common.{◌≡◌, ◌-◌, ◌++◌, map, take, drop}
use Rattle.hose_io.proofs.failing.come_nearer.Given as goal

abbrev pub invariant-loop-nth : goal.invariant-loop-nth
invariant-loop-nth l =
    l.calls ≡ map (λ nth. nth - 1) (take l.nth-index l.initial.calls) ++ drop l.nth-index l.initial.calls
