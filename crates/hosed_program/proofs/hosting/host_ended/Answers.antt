use Rattle.std.proofs.Common.{ap, map, refl, rules}
use Rattle.std.specs.String.{string_bytes}
use Rattle.hose_tariff.specs.contracts.prices.TariffPrices.TheImpl.{prices-value}
use Rattle.hose_outside.specs.Reading.{priced_names}
use Rattle.hose_outside.specs.Parts.{tellings}
use Rattle.hose_outside.specs.steps.Parts.{held}
use Rattle.hosed_requests.specs.HostNaming.{asked_of}
use Rattle.hosed_requests.specs.ProgramWords.{costs_at}
use Rattle.hosed_requests.proofs.HostShapes.{none_wrong_of_host, of_one_host}
use Rattle.hose_lead.specs.LedStore.{LedState}
use Rattle.hosed_host.specs.HostBook.{door_tellings}
use Rattle.hosed_program.specs.HostCommand.{doors_of}
use Rattle.hosed_program.proofs.HostAsked.{host_fails_of, hosted_of, same_doors}
use Rattle.hosed_program.proofs.hosting.host_ended.Goals as goal

pub returns-in-Ok-clause-outcome : goal.returns-in-Ok-clause-outcome
returns-in-Ok-clause-outcome g c =
    let names = map (λ tariff. tariff.name) c.args.tariffs.now in
    let words = map string_bytes c.args.words.now in
    let reads = c.in-Ok.ensures.ok in
    let right = c.host_by_names.ensures.not_words in
    record {
      words_at_1 = ((λ one. absurd (right one)), λ none. absurd (none (asked_of c.in-Ok.said) reads.asked));
      wrong_words = λ one. absurd (right one);
      hosts = of_one_host names words _ (asked_of c.in-Ok.said) reads.asked (hosted_of (held c.host_by_names.new.outside) (ap held c.of-outside.ensures) (search rules) (search rules) (search rules)
          (rw (c.costs_of-costs.ensures, c.plan_of.ensures, same_doors names words c.in-Ok.said reads) at c.host_by_names.ensures.outcome));
    }

pub returns-in-Err-clause-outcome : goal.returns-in-Err-clause-outcome
returns-in-Err-clause-outcome g c =
    let wrong = c.in-Err.ensures.wrong in
    record {
      words_at_1 = ((λ one asked are. none_wrong_of_host _ _ asked _ are wrong), λ none. c.end.ensures.status);
      wrong_words = λ one. (record { input = refl; cabinet = refl; door = refl }, (_, wrong, c.end.ensures.last_line));
      hosts = λ asked are. absurd (none_wrong_of_host _ _ asked _ are wrong);
    }

pub returns-in-Ok-clause-fails : goal.returns-in-Ok-clause-fails
returns-in-Ok-clause-fails g c =
    let names = map (λ tariff. tariff.name) c.args.tariffs.now in
    let words = map string_bytes c.args.words.now in
    let reads = c.in-Ok.ensures.ok in
    let tells = tellings g.I.Source g.O.Sink g.C.Cabinet g.C.Disk.Disk in
    let by = door_tellings g.D.Doors g.D.Network.Connections.did (g.D.Network.Connections.saw (LedState _)) in
    let asked = asked_of c.in-Ok.said in
    let named = priced_names (costs_at (prices-value g.dyn-1).it c.args.tariffs.now asked.tariff) asked.topology asked.journal in
    of_one_host names words _ asked reads.asked (host_fails_of tells by named (doors_of names asked) c.args.host.now.doors c.host_by_names.new.doors c.host_by_names.result (held c.host_by_names.new.outside) {input = c.input-1.given.0} {output = c.output-1.given.0} {cabinet = c.cabinet-1.given.0} (ap held c.of-outside.ensures) (search rules) (search rules) (search rules)
    (rw (c.costs_of-costs.ensures, c.plan_of.ensures, same_doors names words c.in-Ok.said reads) at c.host_by_names.ensures.fails))

pub host_by_names-requires-clause-doors : goal.host_by_names-requires-clause-doors
host_by_names-requires-clause-doors g c = λ _ _. record { named = search rules; few = search rules; numbers = search rules; socket = c.in-Ok.ensures.ok.asked.may.1.1.0 }

pub returns-in-Err-clause-fails : goal.returns-in-Err-clause-fails
returns-in-Err-clause-fails g c = λ asked are. absurd (none_wrong_of_host _ _ asked _ are c.in-Err.ensures.wrong)
