-- The table has settled.
use Rattle.std.proofs.Common.{◌≡◌, ◌∙◌, length, sym, ap, subst}
use Rattle.std.proofs.lemmas.List.{with_items_is}
use Rattle.hose_paths.specs.steps.Table.{IsFound}
use Rattle.hose_paths.proofs.heap.distances_along.Goals as goal

pub settled-requires-clause-bounded : goal.settled-requires-clause-bounded
settled-requires-clause-bounded c =
    let dist = c.settle_along.new.dist in
    let long : length dist ≡ length c.in_ok-dist.dist.items = c.settle_along.auto.dist ∙ ap length c.deref_mut.ensures.value in
    rw (with_items_is c.in_ok-dist.dist dist (long ∙ sym c.in_ok-dist.dist.ok.0)) c.in_ok-settle_along.ensures.bounded

pub settled-requires-clause-found : goal.settled-requires-clause-found
settled-requires-clause-found c =
    let dist = c.settle_along.new.dist in
    let long : length dist ≡ length c.in_ok-dist.dist.items = c.settle_along.auto.dist ∙ ap length c.deref_mut.ensures.value in
    rw (with_items_is c.in_ok-dist.dist dist (long ∙ sym c.in_ok-dist.dist.ok.0)) (
    c.in_ok-settle_along.ensures.found c.args.root (subst (IsFound c.args.top.now c.args.links.now c.args.root) (sym c.deref_mut.ensures.value) (c.in_ok-dist.ensures.found c.args.links.now))
    )
