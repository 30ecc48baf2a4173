use Rattle.std.proofs.Common.{◌≡◌, ◌∙◌, Err, ap}
use Rattle.std.proofs.lemmas.Result.{err_from_is_err_and}
use Rattle.hose_outside.specs.steps.Fault.{of_json}
use Rattle.hose_outside.proofs.JsonLemmas.{whole_refused}
use Rattle.hose_outside.proofs.json_text.read_whole_json.Goals as goal

pub returns-in_err-topology-clause-json : goal.returns-in_err-topology-clause-json
returns-in_err-topology-clause-json g c =
    let why = c.in_err-topology.field-0.0 in
    let value = c.deref.ensures.value in
    let told = err_from_is_err_and c.from_residual-in_err-topology.result c.from_residual-in_err-topology.ensures.1 in
    let is : c.from_residual-in_err-topology.result ≡ Err (of_json why) = told.1 ∙ ap Err told.2 in
    rw is (whole_refused (g.S.Source.content c.args.source.now) (g.S.Source.content c.take_all.new.source) c.in_ok-bytes.bytes.items c.in_ok-bytes.ensures.bytes c.in_ok-bytes.ensures.whole why
    (rw value at c.in_err-topology.ensures.refused) (rw value at c.in_err-topology.ensures.accepts))
