use Rattle.std.proofs.Common.{◌≡◌, Err, map, rules}
use Rattle.std.specs.String.{string_bytes}
use Rattle.hosed_requests.proofs.HostCommands.{are_host_words, host_no_operator, host_no_standby, host_no_tariff, host_not_hosted}
use Rattle.hosed_requests.proofs.HostShapes.{reads_host, unfit_wrong_of_host}
use Rattle.hosed_requests.proofs.host_line.host_words.Goals as goal

pub returns-in_err-tariff-clause-wrong : goal.returns-in_err-tariff-clause-wrong
returns-in_err-tariff-clause-wrong g c =
    let is : c.from_residual.result ≡ Err c.in_err-tariff.field-0.0 = search rules in
    rw is (unfit_wrong_of_host _ _ _ (host_no_tariff _ (map string_bytes c.args.words.now) _ c.requires c.in_err-tariff.ensures.wrong))

pub returns-in_err-operator-clause-wrong : goal.returns-in_err-operator-clause-wrong
returns-in_err-operator-clause-wrong g c =
    let is : c.from_residual-in_err-operator.result ≡ Err c.in_err-operator.field-0.0 = search rules in
    rw is (unfit_wrong_of_host _ _ _ (host_no_operator _ (map string_bytes c.args.words.now) c.in_ok-tariff.tariff c.in_ok-tariff.from _ c.requires c.in_ok-tariff.ensures.ok c.in_err-operator.ensures.wrong))

pub returns-in_err-standby-clause-wrong : goal.returns-in_err-standby-clause-wrong
returns-in_err-standby-clause-wrong g c =
    let is : c.from_residual-in_err-standby.result ≡ Err c.in_err-standby.field-0.0 = search rules in
    rw is (unfit_wrong_of_host _ _ _ (host_no_standby _ (map string_bytes c.args.words.now) c.in_ok-tariff.tariff c.in_ok-operator.operator _ c.in_ok-tariff.from c.in_ok-operator.later _ _ c.requires c.in_ok-tariff.ensures.ok c.in_ok-operator.ensures.ok c.quiet_at-quiet.ensures.chooses c.in_err-standby.ensures.wrong))

pub returns-in_err-topology-clause-wrong : goal.returns-in_err-topology-clause-wrong
returns-in_err-topology-clause-wrong g c =
    let is : c.from_residual-in_err-topology.result ≡ Err c.in_err-topology.field-0.0 = search rules in
    rw is (unfit_wrong_of_host _ _ _ (host_not_hosted _ (map string_bytes c.args.words.now) c.in_ok-tariff.tariff c.in_ok-operator.operator _ c.in_ok-standby.standby c.in_ok-tariff.from c.in_ok-operator.later _ c.in_ok-standby.at _ c.requires c.in_ok-tariff.ensures.ok c.in_ok-operator.ensures.ok c.quiet_at-quiet.ensures.chooses c.in_ok-standby.ensures.ok c.in_err-topology.ensures.wrong))

pub returns-clause-ok : goal.returns-clause-ok
returns-clause-ok g c = reads_host _ (map string_bytes c.args.words.now) _ (are_host_words _ (map string_bytes c.args.words.now) _ c.in_ok-tariff.from c.in_ok-operator.later _ c.in_ok-standby.at c.requires c.in_ok-tariff.ensures.ok c.in_ok-operator.ensures.ok c.quiet_at-quiet.ensures.chooses c.in_ok-standby.ensures.ok c.in_ok-topology.ensures.ok (search rules))
