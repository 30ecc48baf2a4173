use Rattle.std.proofs.Common.{◌≡◌, ◌∙◌, ◌-◌, ◌<◌, Some, length, sym, ap, arith}
use Rattle.std.specs.List.{slice_get}
use Rattle.std.specs.Option.{option_copied}
use Rattle.std.proofs.lemmas.Bool.{lt-ltb, ltb-true}
use Rattle.std.proofs.lemmas.Option.{slice_get_within}
use Rattle.hose_replies.proofs.Rising.{firsts_push, firsts_last}
use Rattle.hose_replies.proofs.lists.comes_after.Goals as goal

pub returns-in-Some : goal.returns-in-Some
returns-in-Some c =
    let pairs = c.args.pairs.now in
    let last = c.in-Some.last.now in
    let there : slice_get pairs (length pairs - 1) ≡ Some last = sym c.last.ensures.value ∙ ap option_copied c.in-Some.is in
    let some : 0 < length pairs = omega (arith, slice_get_within pairs (length pairs - 1) last there) in (
      λ above. firsts_push pairs last there c.args.pair c.requires (ltb-true last.0 c.args.pair.0 above),
      λ rises. lt-ltb last.0 c.args.pair.0 (firsts_last pairs last there c.args.pair some rises),
    )
