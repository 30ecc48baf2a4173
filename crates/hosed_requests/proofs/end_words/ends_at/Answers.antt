use Rattle.std.proofs.Common.{◌∙◌, ◌-◌, map, sym, ap}
use Rattle.std.specs.String.{string_bytes}
use Rattle.std.proofs.lemmas.List.{drop-map, take_rest}
use Rattle.hosed_requests.proofs.EndsSeen.{wrong_from}
use Rattle.hosed_requests.proofs.end_words.ends_at.Goals as goal

pub returns-in-None-clause-ok : goal.returns-in-None-clause-ok
returns-in-None-clause-ok c = ap (map string_bytes) (take_rest c.args.words.now (c.args.at - 1)) ∙ sym (drop-map string_bytes (c.args.at - 1) c.args.words.now)

pub returns-in-Some-clause-wrong : goal.returns-in-Some-clause-wrong
returns-in-Some-clause-wrong c =
    wrong_from (map string_bytes c.args.words.now) _ c.args.at c.in-Some.place c.requires.some
    (ap (map string_bytes) (take_rest c.args.words.now (c.args.at - 1)) ∙ sym (drop-map string_bytes (c.args.at - 1) c.args.words.now)) c.in-Some.ensures.some
