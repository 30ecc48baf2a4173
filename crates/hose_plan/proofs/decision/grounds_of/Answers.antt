-- The first plan, whether it fits, and the safe links.
use Rattle.std.proofs.Common.{ℕ, ◌/◌, List, Bool, ap, subst, sym}
use Rattle.hose_law.specs.Decision.{AreGrounds}
use Rattle.hose_plan.specs.steps.Planning.{room_beside}
use Rattle.hose_plan.proofs.Deciding.{rests_on}
use Rattle.hose_plan.proofs.decision.grounds_of.Goals as goal

pub returns : goal.returns
returns c =
    let network = c.args.top.now in
    let room = room_beside network c.args.service.now c.args.loads.now in
    let fits = c.first_fits-first_fits.result in
    record {
      first = c.requires.first;
      half = ap (λ (n : ℕ). n / 2) c.total.ensures.sum;
      rests_on = subst (λ (service : List Bool). AreGrounds network room c.args.hose.now service fits c.in_ok-safe.safe) (sym c.in_ok-service.ensures)
          (rests_on network room c.args.hose.now c.args.first fits c.in_ok-safe.safe c.requires.network c.requires.first c.first_fits-first_fits.ensures c.in_ok-safe.ensures.none c.in_ok-safe.ensures.links);
    }
