use Rattle.std.proofs.Common.{◌∙◌, ◌-◌, arith, drop, map, sym, ap, length, take}
use Rattle.std.proofs.lemmas.List.{drop-map, length-map, take_rest}
use Rattle.std.specs.String.{string_bytes}
use Rattle.hosed_requests.proofs.HostDoors.{all_doors, door_wrong, no_door_there}
use Rattle.hosed_requests.proofs.host_line.doors_at.Goals as goal

pub returns-then-count-doors-clause-wrong : goal.returns-then-count-doors-clause-wrong
returns-then-count-doors-clause-wrong c =
    let rest = take (length c.args.words.now - (c.args.at - 1)) (drop (c.args.at - 1) c.args.words.now) in
    door_wrong (map string_bytes c.args.words.now) (map string_bytes rest) c.args.at _ c.requires.some
    (ap (map string_bytes) (take_rest c.args.words.now (c.args.at - 1)) ∙ sym (drop-map string_bytes (c.args.at - 1) c.args.words.now)) c.doors_named-count.ensures (omega (arith, length-map rest string_bytes))

pub returns-then-count-lt1-clause-wrong : goal.returns-then-count-lt1-clause-wrong
returns-then-count-lt1-clause-wrong c =
    let rest = take (length c.args.words.now - (c.args.at - 1)) (drop (c.args.at - 1) c.args.words.now) in
    no_door_there (map string_bytes c.args.words.now) (map string_bytes rest) c.args.at c.requires.some
    (ap (map string_bytes) (take_rest c.args.words.now (c.args.at - 1)) ∙ sym (drop-map string_bytes (c.args.at - 1) c.args.words.now)) (omega (arith, length-map rest string_bytes))

pub returns-else-count-lt1-clause-ok : goal.returns-else-count-lt1-clause-ok
returns-else-count-lt1-clause-ok c = ap (map string_bytes) (take_rest c.args.words.now (c.args.at - 1)) ∙ sym (drop-map string_bytes (c.args.at - 1) c.args.words.now)

pub returns-else-count-lt1-clause-are : goal.returns-else-count-lt1-clause-are
returns-else-count-lt1-clause-are c =
    let rest = take (length c.args.words.now - (c.args.at - 1)) (drop (c.args.at - 1) c.args.words.now) in
    all_doors (map string_bytes rest) _ c.doors_named-count.ensures (omega (arith, length-map rest string_bytes))
