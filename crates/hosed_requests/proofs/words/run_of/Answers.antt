use Rattle.std.proofs.Common.{◌≡◌, Err, arith, map, rules}
use Rattle.std.proofs.lemmas.List.{length-map}
use Rattle.std.specs.String.{string_bytes}
use Rattle.hosed_requests.specs.declared.verb.ProgramVerb.TheVariants as command
use Rattle.hosed_requests.proofs.Commands.{run_no_journal, run_no_tariff, run_too_long, some_left, verb_wrong}
use Rattle.hosed_requests.proofs.words.run_of.Goals as goal

pub returns-in_err-tariff : goal.returns-in_err-tariff
returns-in_err-tariff g c =
    let words = map string_bytes c.args.words.now in
    let is : c.from_residual.result ≡ Err c.in_err-tariff.field-0.0 = search rules in
    rw is (verb_wrong _ command.Run words _ tt c.requires (run_no_tariff _ words _ c.in_err-tariff.ensures.wrong))

pub returns-in_err-journal : goal.returns-in_err-journal
returns-in_err-journal g c =
    let words = map string_bytes c.args.words.now in
    let is : c.from_residual-in_err-journal.result ≡ Err c.in_err-journal.field-0.0 = search rules in
    let at = c.in_ok-tariff.at in
    rw is (verb_wrong _ command.Run words _ tt c.requires (run_no_journal _ words c.in_ok-tariff.tariff at _ c.in_ok-tariff.ensures.ok
    (some_left words at (omega (arith, c.in_ok-tariff.ensures.at)) (omega (arith, length-map c.args.words.now string_bytes)))
    c.in_err-journal.ensures.wrong))

pub returns-in_err-none_at : goal.returns-in_err-none_at
returns-in_err-none_at g c =
    let words = map string_bytes c.args.words.now in
    let is : c.from_residual-in_err-none_at.result ≡ Err c.in_err-none_at.field-0.0 = search rules in
    let at = c.in_ok-tariff.at in
    rw is (verb_wrong _ command.Run words _ tt c.requires (run_too_long _ words c.in_ok-tariff.tariff at _ _ c.in_ok-tariff.ensures.ok
    c.in_ok-journal.ensures.ok c.in_ok-journal.ensures.named c.in_err-none_at.ensures.wrong))
