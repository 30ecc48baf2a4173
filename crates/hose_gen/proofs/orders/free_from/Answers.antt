use Rattle.std.proofs.Common.{rules, ◌≡◌, ◌+◌, ◌∙◌, true, sym, arith}
use Rattle.std.proofs.Math.Nat.{mod-lt}
use Rattle.hose_gen.specs.Generated.{free_node, has_node}
use Rattle.hose_gen.proofs.Free.{free_is_free, free_more}
use Rattle.hose_gen.proofs.orders.free_from.Goals as goal

pub loop-left-preserved : goal.loop-left-preserved
loop-left-preserved c =
    let taken : has_node c.args.ends.now c.loop-left.node ≡ true = search rules in (
      sym (free_more c.args.nodes c.args.ends.now c.loop-left.node c.loop-left.left (omega (arith, c.loop-left-test.true)) taken) ∙ c.loop-left.invariant.0,
      mod-lt (c.loop-left.node + 1) (omega (arith, c.requires.some)),
    )

pub returns-after-loop-left-clause-free : goal.returns-after-loop-left-clause-free
returns-after-loop-left-clause-free c few =
    let none : c.loop-left.left ≡ 0 = omega (arith, c.loop-left-test.false) in
    let node : c.loop-left.node ≡ free_node c.args.nodes c.args.ends.now c.args.first c.args.nodes = rw none at c.loop-left.invariant.0 in
    rw node (free_is_free c.args.nodes c.args.ends.now c.args.first c.requires.some few)
