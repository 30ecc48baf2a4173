use Rattle.std.proofs.Common.{◌≡◌, refl, take, arith}
use Rattle.std.proofs.lemmas.List.{take_all}
use Rattle.hose_graph.proofs.Endpoints.{HasDistinctNodes-more, not_distinct}
use Rattle.hose_graph.proofs.hose.has_distinct_nodes.Goals as goal

pub returns-then-has_node : goal.returns-then-has_node
returns-then-has_node c =
    let repeated = not_distinct c.args.ends.now c.loop-place.place (0, 0) c.loop-place-test.true (c.if-has_node.ensures.0 refl) in
    (λ no. cc, λ distinct. absurd (repeated distinct))

pub loop-place-preserved : goal.loop-place-preserved
loop-place-preserved c =
    HasDistinctNodes-more c.args.ends.now c.loop-place.place (0, 0) c.loop-place-test.true c.loop-place.invariant
    (λ before. let no = c.if-has_node.ensures.1 before in cc)

pub returns : goal.returns
returns c =
    let whole : take c.loop-place.place c.args.ends.now ≡ c.args.ends.now =
    take_all c.loop-place.place c.args.ends.now (omega arith) in
    (λ _. rw whole at c.loop-place.invariant, λ _. refl)
