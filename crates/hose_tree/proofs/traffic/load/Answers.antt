use Rattle.std.proofs.Common.{◌∙◌, ◌≡◌, ap, length, arith}
use Rattle.hose_tree.proofs.Marks.{entry-le, marked_load}
use Rattle.hose_tree.proofs.traffic.load.Goals as goal

pub load_from-load-requires-clause-small : goal.load_from-load-requires-clause-small
load_from-load-requires-clause-small c =
    let hose = c.args.hose.now in
    λ j below. entry-le hose c.args.matrix.now c.ends.ensures.hose c.requires.within c.loop-i.i j (omega (arith, ap length c.ends.ensures.value)) below

pub returns : goal.returns
returns c =
    let all : c.loop-i.i ≡ length c.args.hose.now = omega (arith, ap length c.ends.ensures.value) in
    c.loop-i.invariant.0 ∙ marked_load c.args.tree.now c.args.hose.now c.args.link c.mark_beyond.new.marks c.mark_beyond.ensures c.args.matrix.now c.loop-i.i all
