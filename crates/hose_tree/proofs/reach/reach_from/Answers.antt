use Rattle.std.proofs.Common.{◌≡◌, length, replicate, sym, ap, subst, arith, Bool, List, false, true, set}
use Rattle.std.proofs.lemmas.List.{get_or-set_same, length-set, length-replicate}
use Rattle.hose_law.specs.Walk.{IsIn}
use Rattle.hose_tree.specs.steps.Reach.{AllReached}
use Rattle.hose_tree.proofs.Reaching.{side_done, start_reached}
use Rattle.hose_tree.proofs.reach.reach_from.Goals as goal

pub returns : goal.returns
returns c =
    let network = c.args.top.now in
    let nodes = length network.nodes in
    let none = replicate nodes false in
    let side = c.spread_all.new.side in
    let long : length none ≡ nodes = length-replicate nodes false in
    let started : set c.args.side.now c.args.from true ≡ set none c.args.from true = ap (λ (s : List Bool). set s c.args.from true) c.requires.none in
    let start : IsIn (set none c.args.from true) c.args.from = get_or-set_same none c.args.from true false (omega (arith, long)) in
    side_done network c.args.links.now c.args.from side
    (omega (arith, c.spread_all.auto.side, length-set c.args.side.now c.args.from true, ap length c.requires.none, long))
    (c.spread_all.ensures.keeps c.args.from (subst (λ (s : List Bool). IsIn s c.args.from) (sym started) start))
    (c.spread_all.ensures.reached c.args.from (subst (AllReached network c.args.links.now c.args.from) (sym started) (start_reached network c.args.links.now c.args.from nodes)))
    c.spread_all.ensures.closed
