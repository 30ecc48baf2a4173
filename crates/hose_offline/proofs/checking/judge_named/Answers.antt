use Rattle.std.proofs.Common.{◌≡◌, ◌∙◌, Err, ap, inl, inr, refl, subst}
use Rattle.std.proofs.lemmas.Result.{err_from_is_err_and}
use Rattle.hose_outside.specs.Reading.{ReadsTopology}
use Rattle.hose_offline.proofs.checking.judge_named.Goals as goal

pub returns-in_err-top-clause-judges : goal.returns-in_err-top-clause-judges
returns-in_err-top-clause-judges g c =
    let why = c.in_err-top.field-0.0 in
    let told = err_from_is_err_and c.from_residual.result c.from_residual.ensures.1 in
    let is : c.from_residual.result ≡ Err why = told.1 ∙ ap Err told.2 in
    let reads = subst (ReadsTopology g.C.Cabinet c.args.outside.now.cabinet.now c.read_topology.new.cabinet (g.P.Prices.prices c.args.costs.now) c.args.topology.now) c.in_err-top.was c.read_topology.ensures.reads in
    inr (why, is, reads, refl, refl)

pub returns-clause-judges : goal.returns-clause-judges
returns-clause-judges g c =
    let reads = subst (ReadsTopology g.C.Cabinet c.args.outside.now.cabinet.now c.read_topology.new.cabinet (g.P.Prices.prices c.args.costs.now) c.args.topology.now) c.in_ok-top.was c.read_topology.ensures.reads in
    inl (c.in_ok-top.top, reads, c.judge.ensures)
