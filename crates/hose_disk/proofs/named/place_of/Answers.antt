use Rattle.std.proofs.Common.{rules, sym}
use Rattle.hose_disk.proofs.Items.{place_is, none_is, none_left}
use Rattle.hose_disk.proofs.named.place_of.Goals as goal

pub returns-then-is_named-clause-first : goal.returns-then-is_named-clause-first
returns-then-is_named-clause-first g c =
    place_is c.args.name.now c.args.items.now _ c.index-items-place.result (search rules) c.index-items-place.is (sym c.if-is_named.ensures) (search rules)

pub returns-clause-none : goal.returns-clause-none
returns-clause-none g c = none_is c.args.name.now c.args.items.now (search rules)

pub returns-clause-none_left : goal.returns-clause-none_left
returns-clause-none_left g c = none_left c.args.name.now c.args.items.now (search rules)
