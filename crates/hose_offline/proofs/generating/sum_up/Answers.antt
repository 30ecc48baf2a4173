use Rattle.std.proofs.Common.{◌≡◌, ◌∙◌, Err, refl, ap, true}
use Rattle.std.proofs.lemmas.Result.{err_from_is_err_and}
use Rattle.hose_offline.specs.Tally.{tally_line}
use Rattle.hose_outside.specs.declared.fault.Fault.TheVariants.{Write}
use Rattle.hose_offline.proofs.OrdersAnswered.{summary_made}
use Rattle.hose_offline.proofs.generating.sum_up.Goals as goal

pub returns-in_err-put : goal.returns-in_err-put
returns-in_err-put g c =
    let made = c.in_ok-made.ensures.made in
    let tally = c.in_ok-tally.tally in
    let summary = summary_made c.args.sizes c.in_ok-made.made.top c.in_ok-made.made.script.items tally made.0 made.1 c.in_ok-tally.ensures.network c.in_ok-tally.ensures.tally in
    let put = c.in_err-put.ensures in
    let told = err_from_is_err_and c.from_residual-in_err-put.result c.from_residual-in_err-put.ensures.1 in
    let is : c.from_residual-in_err-put.result ≡ Err Write = told.1 ∙ ap Err told.2 in
    rw is (record { came = (tally_line c.args.sizes.seed c.args.sizes.hoses tally, summary, put.err, put.met.failed (refl {a = true})); stays = put.met.stays })

pub returns : goal.returns
returns g c =
    let made = c.in_ok-made.ensures.made in
    let tally = c.in_ok-tally.tally in
    let summary = summary_made c.args.sizes c.in_ok-made.made.top c.in_ok-made.made.script.items tally made.0 made.1 c.in_ok-tally.ensures.network c.in_ok-tally.ensures.tally in
    let put = c.in_ok-put.ensures in
    record { came = (tally_line c.args.sizes.seed c.args.sizes.hoses tally, summary, put.ok, put.met.ok); stays = put.met.stays }
