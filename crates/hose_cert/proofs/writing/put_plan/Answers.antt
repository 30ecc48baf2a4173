use Rattle.std.proofs.Common.{◌≡◌, ◌∙◌, Ok, Err, ap, refl}
use Rattle.std.proofs.lemmas.Result.{err_from_is_err_and}
use Rattle.hose_io.proofs.Gathering.{IsPut-finished}
use Rattle.hose_cert.proofs.Ended.{all_added, cut_in_lines, cut_in_text, end_added, ends_by_lines, ends_whole}
use Rattle.hose_cert.specs.declared.fault.ProveFault.TheVariants.{Write}
use Rattle.hose_cert.proofs.writing.put_plan.Goals as goal

pub returns-in_err-finish-clause-writes : goal.returns-in_err-finish-clause-writes
returns-in_err-finish-clause-writes g c =
    let r = c.requires in
    let hose = c.args.planned.now.hose.now in
    let plan = c.args.planned.now.amounts.now in
    let made = c.in-Err.ensures in
    let added = all_added g.S.Sink c.args.linked.now.top.now r.network hose plan r.hose r.nodes r.plan _ _ _ _ _ _ c.pairs.result.now c.cost-cost.result made.0 c.new-gather.ensures c.pairs.ensures.value c.cost-cost.ensures c.add_first_lines.ensures made.2 in
    let told = err_from_is_err_and c.from_residual.result c.from_residual.ensures.1 in
    let is : c.from_residual.result ≡ Err Write = told.1 ∙ ap Err told.2 in
    rw is
    (cut_in_lines g.S.Sink c.args.linked.now.top.now r.network hose plan r.hose r.nodes r.plan made.2.row_of made.0 made.1 made.2.rows _ _ c.in_err-finish.field-0.0 (IsPut-finished (Err c.in_err-finish.field-0.0) added c.in_err-finish.ensures))

pub returns-in-Err-clause-writes : goal.returns-in-Err-clause-writes
returns-in-Err-clause-writes g c =
    let r = c.requires in
    let hose = c.args.planned.now.hose.now in
    let plan = c.args.planned.now.amounts.now in
    let made = c.in-Err.ensures in
    let added = all_added g.S.Sink c.args.linked.now.top.now r.network hose plan r.hose r.nodes r.plan _ _ _ _ _ _ c.pairs.result.now c.cost-cost.result made.0 c.new-gather.ensures c.pairs.ensures.value c.cost-cost.ensures c.add_first_lines.ensures made.2 in
    rw c.from.ensures (ends_by_lines g.S.Sink c.args.linked.now.top.now r.network hose plan r.hose r.nodes r.plan made.2.row_of made.0 made.1 made.2.rows _ _ (IsPut-finished (Ok tt) added c.in_ok-finish.ensures))

pub returns-in_err-finish-2-clause-writes : goal.returns-in_err-finish-2-clause-writes
returns-in_err-finish-2-clause-writes g c =
    let r = c.requires in
    let hose = c.args.planned.now.hose.now in
    let plan = c.args.planned.now.amounts.now in
    let made = c.in_default.ensures in
    let added = end_added g.S.Sink c.args.linked.now.top.now r.network hose plan r.hose r.nodes r.plan _ _ _ _ _ _ c.pairs.result.now c.cost-cost.result _ c.new-gather.ensures c.pairs.ensures.value c.cost-cost.ensures c.add_first_lines.ensures made refl _ _ c.add.ensures in
    let told = err_from_is_err_and c.from_residual-in_err-finish-2.result c.from_residual-in_err-finish-2.ensures.1 in
    let is : c.from_residual-in_err-finish-2.result ≡ Err Write = told.1 ∙ ap Err told.2 in
    rw is
    (cut_in_text g.S.Sink c.args.linked.now.top.now r.network hose plan r.hose r.nodes r.plan made.row_of made.rows _ _ c.in_err-finish-2.field-0.0 (IsPut-finished (Err c.in_err-finish-2.field-0.0) added c.in_err-finish-2.ensures))

pub returns-clause-writes : goal.returns-clause-writes
returns-clause-writes g c =
    let r = c.requires in
    let hose = c.args.planned.now.hose.now in
    let plan = c.args.planned.now.amounts.now in
    let made = c.in_default.ensures in
    let added = end_added g.S.Sink c.args.linked.now.top.now r.network hose plan r.hose r.nodes r.plan _ _ _ _ _ _ c.pairs.result.now c.cost-cost.result _ c.new-gather.ensures c.pairs.ensures.value c.cost-cost.ensures c.add_first_lines.ensures made refl _ _ c.add.ensures in
    ends_whole g.S.Sink c.args.linked.now.top.now r.network hose plan r.hose r.nodes r.plan made.row_of made.rows _ _ (IsPut-finished (Ok tt) added c.in_ok-finish-2.ensures)
