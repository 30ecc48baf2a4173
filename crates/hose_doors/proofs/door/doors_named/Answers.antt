use Rattle.std.proofs.Common.{◌≡◌, ◌∙◌, [], rules, map, arith, get_or, subst, sym, ap}
use Rattle.std.specs.String.{string_bytes}
use Rattle.std.proofs.lemmas.List.{get_or-map}
use Rattle.hose_doors.specs.Doors.{NamesDoor}
use Rattle.hose_doors.proofs.NoDoor.{named_more, names_told}
use Rattle.hose_doors.proofs.door.doors_named.Goals as goal

pub loop-place-preserved : goal.loop-place-preserved
loop-place-preserved c =
    let words = map string_bytes c.args.words.now in
    let place = c.loop-place.place in
    let word : c.deref.result.now ≡ get_or words place [] = c.deref.ensures ∙ ap string_bytes c.index-words-place.is ∙ sym (get_or-map string_bytes c.args.words.now place c.index-words-place.result [] (omega arith)) in
    (omega arith, omega arith, named_more words place c.loop-place.invariant.2 (subst NamesDoor word (names_told c.names_door.result c.deref.result.now c.names_door.ensures (search rules))))
