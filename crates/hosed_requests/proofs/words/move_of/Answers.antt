use Rattle.std.proofs.Common.{◌≡◌, Err, map, rules}
use Rattle.std.specs.String.{string_bytes}
use Rattle.hosed_requests.specs.declared.verb.ProgramVerb.TheVariants as command
use Rattle.hosed_requests.proofs.Commands.{are_move_words, live_then, move_no_tariff, move_then, moved_then, verb_wrong}
use Rattle.hosed_requests.proofs.words.move_of.Goals as goal

pub returns-in_err-tariff : goal.returns-in_err-tariff
returns-in_err-tariff g c =
    let words = map string_bytes c.args.words.now in
    let is : c.from_residual.result ≡ Err c.in_err-tariff.field-0.0 = search rules in
    rw is (verb_wrong _ command.Move words _ tt c.requires (move_no_tariff _ words _ c.in_err-tariff.ensures.wrong))

pub returns-in_err-of : goal.returns-in_err-of
returns-in_err-of g c =
    let words = map string_bytes c.args.words.now in
    let is : c.from_residual-in_err-of.result ≡ Err c.in_err-of.field-0.0 = search rules in
    rw is (verb_wrong _ command.Move words _ tt c.requires (move_then _ words c.in_ok-tariff.tariff c.in_ok-tariff.from _ c.in_ok-tariff.ensures.ok
    (live_then words c.in_ok-tariff.from _ _ _ c.live_at-live.ensures.chooses c.in_err-of.ensures.wrong)))

pub returns-in_err-none_at : goal.returns-in_err-none_at
returns-in_err-none_at g c =
    let words = map string_bytes c.args.words.now in
    let is : c.from_residual-in_err-none_at.result ≡ Err c.in_err-none_at.field-0.0 = search rules in
    rw is (verb_wrong _ command.Move words _ tt c.requires (move_then _ words c.in_ok-tariff.tariff c.in_ok-tariff.from _ c.in_ok-tariff.ensures.ok
    (live_then words c.in_ok-tariff.from _ _ _ c.live_at-live.ensures.chooses (moved_then words _ _ _ _ _ c.in_ok-of.ensures.ok c.in_err-none_at.ensures.wrong))))

pub returns : goal.returns
returns g c =
    let words = map string_bytes c.args.words.now in
    are_move_words _ words c.in_ok-tariff.tariff c.in_ok-tariff.from _ _ _ _ _ c.requires c.in_ok-tariff.ensures.ok c.live_at-live.ensures.chooses c.in_ok-of.ensures.ok c.in_ok-none_at.ensures.ok
