use Rattle.std.proofs.Common.{arith}
use Rattle.std.proofs.lemmas.Bool.{eqb-true}
use Rattle.hose_tree.proofs.Bare.{all_there, links_left, there_all}
use Rattle.hose_tree.proofs.judge.Forest.is_bare.Goals as goal

pub returns-then-self-eq0 : goal.returns-then-self-eq0
returns-then-self-eq0 c = λ question stands. (
  λ there. all_there c.args.top.now c.args.total question c.args.self.now stands c.if-self-eq0.true c.nodes.result c.nodes.ensures.count (c.has.ensures.0 there),
  λ agreed. c.has.ensures.1 (there_all c.args.top.now c.args.total question c.args.self.now stands c.if-self-eq0.true c.nodes.result c.nodes.ensures.count
      (omega (arith, c.nodes.ensures.network.few_nodes)) agreed),
)

pub returns-else-self-eq0 : goal.returns-else-self-eq0
returns-else-self-eq0 c = λ question stands. (
  λ none. absurd (c.if-self-eq0.false (eqb-true c.args.self.now.left 0 none)),
  λ agreed. absurd (links_left c.args.top.now c.args.total question c.args.self.now stands c.requires c.if-self-eq0.false agreed),
)
