use Rattle.std.proofs.Common.{◌≡◌, ◌∙◌, ap, arith, length, map}
use Rattle.hose_tree.proofs.Paired.{has_load, is_paired_off, is_within, rows_more, rows_square}
use Rattle.hose_tree.proofs.pairing.heaviest.Goals as goal

pub loop-i-preserved : goal.loop-i-preserved
loop-i-preserved c =
    ap (map (λ row. row.items)) c.in_ok-push.ensures.items
    ∙ rows_more (λ row. row.items) c.args.hose.now c.mark_beyond.new.marks c.loop-i.rows.items c.in_ok-heaviest_row.field-0 c.loop-i.i c.loop-i.invariant c.in_ok-heaviest_row.ensures

pub from_rows-requires : goal.from_rows-requires
from_rows-requires c =
    let all : c.loop-i.i ≡ length c.args.hose.now = omega (arith, ap length c.ends.ensures.value) in
    rows_square (λ row. row.items) c.args.hose.now c.mark_beyond.new.marks c.loop-i.rows.items c.loop-i.i all c.loop-i.invariant

pub returns-clause-within : goal.returns-clause-within
returns-clause-within c =
    let all : c.loop-i.i ≡ length c.args.hose.now = omega (arith, ap length c.ends.ensures.value) in
    is_within c.args.tree.now c.args.hose.now c.args.link c.mark_beyond.new.marks c.mark_beyond.ensures c.loop-i.i all c.from_rows.result (c.from_rows.ensures ∙ c.loop-i.invariant)

pub returns-clause-load : goal.returns-clause-load
returns-clause-load c =
    let all : c.loop-i.i ≡ length c.args.hose.now = omega (arith, ap length c.ends.ensures.value) in
    has_load c.args.tree.now c.args.hose.now c.args.link c.mark_beyond.new.marks c.mark_beyond.ensures c.loop-i.i all c.from_rows.result (c.from_rows.ensures ∙ c.loop-i.invariant)

pub returns-clause-paired : goal.returns-clause-paired
returns-clause-paired c =
    let all : c.loop-i.i ≡ length c.args.hose.now = omega (arith, ap length c.ends.ensures.value) in
    is_paired_off c.args.tree.now c.args.hose.now c.args.link c.mark_beyond.new.marks c.mark_beyond.ensures c.loop-i.i all c.from_rows.result (c.from_rows.ensures ∙ c.loop-i.invariant)
