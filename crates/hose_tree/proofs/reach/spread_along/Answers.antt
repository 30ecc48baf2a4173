use Rattle.std.proofs.Common.{◌≡◌, ◌⊎◌, ◌<◌, Bool, List, Option, refl, sym, subst, inl, inr, arith, rules}
use Rattle.std.specs.Option.{IsSomeAnd}
use Rattle.std.proofs.lemmas.Bool.{cases_Bool}
use Rattle.hose_graph.specs.declared.topology.Link.{Link}
use Rattle.hose_law.specs.Walk.{IsIn, Joins}
use Rattle.hose_tree.specs.steps.Reach.{count_on, AllReached}
use Rattle.hose_tree.proofs.Reaching.{pair_counts, pair_reached}
use Rattle.hose_tree.proofs.reach.spread_along.Goals as goal

pub returns-then-has-clause-grows : goal.returns-then-has-clause-grows
returns-then-has-clause-grows c = λ grew.
    let in_range = c.link-link.ensures.is_link.in_range in
    let link = c.link-link.result in
    subst (λ (s : List Bool). count_on c.args.side.now < count_on s) (sym (c.join.ensures.both grew))
    (pair_counts c.args.side.now link.a link.b (omega (arith, in_range.a)) (omega (arith, in_range.b)) (c.join.ensures.differ grew))

pub returns-then-has-clause-reached : goal.returns-then-has-clause-reached
returns-then-has-clause-reached c = λ from all.
    let link = c.link-link.result in
    let network = c.args.top.now in
    let joins : Joins network c.args.l link.a link.b =
    subst (λ (k : Option Link). IsSomeAnd k (λ (m : Link). ((m.a ≡ link.a) × (m.b ≡ link.b)) ⊎ ((m.a ≡ link.b) × (m.b ≡ link.a)))) (sym c.link-link.ensures.value) (inl (refl, refl)) in
    let there : IsIn c.args.links.now c.args.l = search rules in
    elim (cases_Bool c.join.result) [
      | inl grew ↦ subst (AllReached network c.args.links.now from) (sym (c.join.ensures.both grew))
          (pair_reached network c.args.links.now from c.args.side.now c.args.l link.a link.b there joins (c.join.ensures.differ grew) all)
      | inr stayed ↦ subst (AllReached network c.args.links.now from) (sym (c.join.ensures.same stayed)) all
    ]
