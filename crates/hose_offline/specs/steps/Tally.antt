-- What the replies of a script come to together, and the line that tells it: steps of proofs.
use Rattle.std.specs.Prelude.{ℕ, ◌+◌, ◌*◌, ◌≤◌, ◌^◌}
use Rattle.hose_graph.specs.declared.command.Reply.{Reply}
use Rattle.hose_offline.specs.declared.tally.Tally.{Tally}
use Rattle.hose_offline.specs.Tally.{admitted_cost, one_if_admitted, one_if_refused, one_if_released}

-- a tally with one reply more
abbrev pub with_reply : Tally → Reply → Tally
with_reply tally reply = record tally {
  admitted = tally.admitted + one_if_admitted reply;
  refused = tally.refused + one_if_refused reply;
  released = tally.released + one_if_released reply;
  cost = tally.cost + admitted_cost reply;
}

-- the tally is of no more replies than these
pub record IsOfUpTo (count : ℕ) (tally : Tally) : Type 0 where
  pub admitted : tally.admitted ≤ count
  pub refused : tally.refused ≤ count
  pub released : tally.released ≤ count
  pub cost : tally.cost ≤ 2 ^ 64 * count
