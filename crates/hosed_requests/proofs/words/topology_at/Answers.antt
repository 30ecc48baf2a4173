use Rattle.std.proofs.Common.{◌≡◌, Err, inl, inr, rules}
use Rattle.hosed_requests.proofs.words.topology_at.Goals as goal

pub returns-in_err-tariff-clause-wrong : goal.returns-in_err-tariff-clause-wrong
returns-in_err-tariff-clause-wrong g c =
    let is : c.from_residual.result ≡ Err c.in_err-tariff.field-0.0 = search rules in
    rw is (inl c.in_err-tariff.ensures.wrong)

pub returns-in_err-topology-clause-wrong : goal.returns-in_err-topology-clause-wrong
returns-in_err-topology-clause-wrong g c =
    let is : c.from_residual-in_err-topology.result ≡ Err c.in_err-topology.field-0.0 = search rules in
    rw is (inr (_, _, c.in_ok-tariff.ensures.ok, c.in_err-topology.ensures.wrong))
