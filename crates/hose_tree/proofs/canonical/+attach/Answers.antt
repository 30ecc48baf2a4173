-- The tight link leads to a node that is nearer, and a step along it attaches the node.
use Rattle.std.proofs.Common.{◌≡◌, ◌∙◌, ◌∷◌, ℕ, ◌<◌, List, Option, Some, IsSome, length, reverse, unwrap_or, refl, sym, ap, subst, arith}
use Rattle.std.proofs.lemmas.Bool.{true≢false}
use Rattle.hose_graph.specs.declared.topology.Step.{Step}
use Rattle.hose_graph.specs.Row.{distance_of, tight_link_of}
use Rattle.hose_law.specs.Walk.{IsIn}
use Rattle.hose_tree.proofs.Attaching.{tight_is_link, tight_joins, falls, is_node, attached_by_step, reverse_push}
use Rattle.hose_tree.proofs.canonical.+attach.Goals as goal

pub other_end-nearer-requires-clause-link : goal.other_end-nearer-requires-clause-link
other_end-nearer-requires-clause-link t c =
    let there : tight_link_of c.args.row.now c.args.node ≡ Some c.in-Some.link = sym c.tight_link.ensures ∙ c.in-Some.is in
    tight_is_link c.args.top.now c.requires.network c.requires.is_row.0 c.args.row.now.root c.args.row.now c.requires.is_row.1 c.args.node c.in-Some.link c.requires.reached there

pub other_end-nearer-requires-clause-joins : goal.other_end-nearer-requires-clause-joins
other_end-nearer-requires-clause-joins t c =
    let there : tight_link_of c.args.row.now c.args.node ≡ Some c.in-Some.link = sym c.tight_link.ensures ∙ c.in-Some.is in
    tight_joins c.args.top.now c.requires.network c.requires.is_row.0 c.args.row.now.root c.args.row.now c.requires.is_row.1 c.args.node c.in-Some.link c.requires.reached there

pub attach-requires : goal.attach-requires
attach-requires t c =
    let there : tight_link_of c.args.row.now c.args.node ≡ Some c.in-Some.link = sym c.tight_link.ensures ∙ c.in-Some.is in
    let fall = falls c.args.top.now c.requires.network c.requires.is_row.0 c.args.row.now.root c.args.row.now c.requires.is_row.1 c.args.node c.in-Some.link c.other_end-nearer.result c.requires.reached there c.other_end-nearer.ensures in
    let has : IsSome (distance_of c.args.row.now c.other_end-nearer.result) = subst IsSome (sym fall.2) refl in
    let near : unwrap_or (distance_of c.args.row.now c.other_end-nearer.result) 0 ≡ fall.0 = ap (λ (o : Option ℕ). unwrap_or o 0) fall.2 in
    let far : unwrap_or (distance_of c.args.row.now c.args.node) 0 ≡ fall.1 = ap (λ (o : Option ℕ). unwrap_or o 0) fall.3 in
    let is : unwrap_or (distance_of c.args.row.now c.args.node) 0 ≡ t = c.decreases in
    (omega (arith, near, far, is, fall.4), (c.requires.network, (c.requires.is_row, (has, c.requires.places))))

pub returns : goal.returns
returns t c set is_row was =
    let row = c.args.row.now in
    let old = c.args.steps.now.items in
    let there : tight_link_of row c.args.node ≡ Some c.in-Some.link = sym c.tight_link.ensures ∙ c.in-Some.is in
    let off : ¬ IsIn c.args.on.now c.args.node = λ on. true≢false (sym on ∙ c.if-on-node.false) in
    let steps : reverse c.push.new.self.items ≡ record { link = c.in-Some.link; old = c.other_end-nearer.result; new = c.args.node } ∷ reverse c.attach.new.steps.items =
    ap (λ (s : List Step). reverse s) c.in_ok-push.ensures.items ∙ reverse_push c.attach.new.steps.items _ in
    let below : c.args.node < length c.attach.new.on =
    omega (arith, is_node c.args.top.now c.requires.network set row.root row is_row c.args.node c.requires.reached, c.requires.places, c.attach.auto.on) in
    rw steps (
    attached_by_step c.args.top.now c.requires.network set row.root row is_row c.args.node c.in-Some.link c.other_end-nearer.result c.requires.reached there
    c.other_end-nearer.ensures (reverse old) (reverse c.attach.new.steps.items) c.args.on.now c.attach.new.on was off below
    (c.in_ok-attach.ensures set is_row was)
    )
