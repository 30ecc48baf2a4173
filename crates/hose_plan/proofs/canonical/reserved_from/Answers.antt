-- The tree of the root's row.
use Rattle.std.proofs.Common.{ℕ, sym, subst}
use Rattle.hose_law.specs.CanonicalPlan.{IsCanonicalTree}
use Rattle.hose_law.specs.Row.{IsRow}
use Rattle.hose_law.proofs.Bounds.{reserved_links, reserved_few, reserved_most}
use Rattle.hose_law.proofs.CanonicalPlans.{plan_reserves}
use Rattle.hose_plan.proofs.Rooted.{row_has_ends}
use Rattle.hose_plan.proofs.canonical.reserved_from.Goals as goal

pub from_row-requires-clause-reaches : goal.from_row-requires-clause-reaches
from_row-requires-clause-reaches c =
    let best = c.requires.root in
    row_has_ends c.args.top.now c.requires.network c.args.links.now c.args.hose.now c.args.root best.0 c.args.row.now c.requires.nodes best.1.is_weight c.requires.row

pub reservations-requires : goal.reservations-requires
reservations-requires c =
    let is_row = subst (λ (root : ℕ). IsRow c.args.top.now c.args.links.now root c.args.row.now) (sym c.requires.row.rooted) c.requires.row in
    record { joins = (c.in_ok-tree.ensures c.args.links.now is_row).joins }

pub returns-clause-plan : goal.returns-clause-plan
returns-clause-plan c =
    let best = c.requires.root in
    let rooted = c.requires.row.rooted in
    let is_row = subst (λ (root : ℕ). IsRow c.args.top.now c.args.links.now root c.args.row.now) (sym rooted) c.requires.row in
    record {
      root = c.args.root;
      weight = best.0;
      is_root = best.1;
      tree = c.in_ok-tree.tree;
      is_canonical = subst (λ (root : ℕ). IsCanonicalTree c.args.top.now c.args.links.now c.args.hose.now root c.in_ok-tree.tree) rooted (c.in_ok-tree.ensures c.args.links.now is_row);
      reserves = c.in_ok-reservations.ensures.reserves;
    }

pub returns-clause-links : goal.returns-clause-links
returns-clause-links c =
    let reserved = plan_reserves c.args.top.now c.requires.network c.args.links.now c.args.hose.now c.in_ok-reservations.field-0 c.requires.hose (returns-clause-plan c) in
    reserved_links c.args.top.now c.requires.network c.args.links.now c.args.hose.now c.in_ok-reservations.field-0 reserved

pub returns-clause-few : goal.returns-clause-few
returns-clause-few c =
    let reserved = plan_reserves c.args.top.now c.requires.network c.args.links.now c.args.hose.now c.in_ok-reservations.field-0 c.requires.hose (returns-clause-plan c) in
    reserved_few c.args.top.now c.requires.network c.args.links.now c.args.hose.now c.in_ok-reservations.field-0 reserved

pub returns-clause-amounts : goal.returns-clause-amounts
returns-clause-amounts c =
    let reserved = plan_reserves c.args.top.now c.requires.network c.args.links.now c.args.hose.now c.in_ok-reservations.field-0 c.requires.hose (returns-clause-plan c) in
    reserved_most c.args.top.now c.requires.network c.args.links.now c.args.hose.now c.in_ok-reservations.field-0 c.requires.hose reserved
