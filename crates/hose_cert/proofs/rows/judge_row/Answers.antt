use Rattle.std.proofs.Common.{ℕ, ◌∙◌, List, get_or, refl, ap}
use Rattle.hose_cert.specs.Rules.{weighed_by}
use Rattle.hose_cert.proofs.Flags.{least_tells, where_false, where_true, zero_tells}
use Rattle.hose_cert.proofs.rows.judge_row.Goals.{then-rows, else-rows, then-rows-2, else-rows-2, then-rows-3, else-rows-3}
use Rattle.hose_cert.proofs.rows.judge_row.Goals as goal

pub returns : goal.returns
returns c =
    let row = c.as_slice-row.ensures.value in
    let zero = zero_tells _ _ (ap (λ (ns : List ℕ). get_or ns c.args.rows.now.root 0) row) in
    let kept = rw row at c.change_within-changes.ensures.within in
    let enough = least_tells _ _ _ _ c.from.ensures (c.weight.ensures ∙ ap (λ (ns : List ℕ). weighed_by ns c.args.hose.now) row) in
    record {
      root = refl;
      row = c.clear.ensures.items;
      starts = elim c.if-rows.branch [ then-rows w ↦ where_true _ _ _ _ (w.if-rows).true w.rows-is zero | else-rows w ↦ where_false _ _ _ (w.if-rows).false w.rows-is ];
      changes = elim c.if-rows-2.branch [ then-rows-2 w ↦ where_true _ _ _ _ (w.if-rows-2).true w.rows-is kept | else-rows-2 w ↦ where_false _ _ _ (w.if-rows-2).false w.rows-is ];
      weighs = elim c.if-rows-3.branch [ then-rows-3 w ↦ where_true _ _ _ _ (w.if-rows-3).true w.rows-is enough | else-rows-3 w ↦ where_false _ _ _ (w.if-rows-3).false w.rows-is ];
    }
