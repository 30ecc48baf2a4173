use Rattle.std.proofs.Common.{refl, rules}
use Rattle.hose_store.proofs.OneMeaning.{recovered_once}
use Rattle.hose_outside.specs.Parts.{parts, tellings}
use Rattle.hose_outside.specs.steps.Parts.{held}
use Rattle.hose_outside.proofs.PutBack.{unopened}
use Rattle.hose_copying.proofs.ShipEnds.{none_shipped, ships_in}
use Rattle.hose_copying.proofs.StreamsStay.{shipped_stays}
use Rattle.hose_outside.proofs.Lending.{lent_alone}
use Rattle.hose_copying.proofs.shipping.ship_journal.Goals as goal

pub returns-in_default-clause-ships : goal.returns-in_default-clause-ships
returns-in_default-clause-ships g c =
    let before = held c.args.outside.now in
    none_shipped (tellings g.I.Source g.O.Sink g.C.Cabinet g.C.Disk.Disk) c.args.name.now c.args.from before (parts before.input before.output c.disk.new.self) c.args.top.now c.in_default.ensures.same (c.in_default.ensures.call.met.failed refl) refl

pub returns-clause-ships : goal.returns-clause-ships
returns-clause-ships g c =
    let before = held c.args.outside.now in
    let taken = c.in-Ok.ensures in
    let back = c.back.ensures in
    let shipped = c.ship-shipped in
    rw c.as_done.ensures (ships_in (tellings g.I.Source g.O.Sink g.C.Cabinet g.C.Disk.Disk) c.args.name.now c.args.from before (parts before.input shipped.new.sink c.back.new.self) c.args.top.now c.disk.new.self c.in-Ok.disk shipped.result.1
    (record { out = record { content = taken.content; images = taken.images; moment = taken.moment; fresh = taken.opened; call = taken.call }; in_place = record { held = back.held; never_falls = back.never_falls; call = back.call } }) (recovered_once c.args.top.now)
    shipped.ensures.any_moment shipped.result.0 shipped.ensures.ships)

pub returns-clause-unopened : goal.returns-clause-unopened
returns-clause-unopened g c =
    let taken = c.in-Ok.ensures in
    let back = c.back.ensures in
    unopened g.C.Cabinet g.C.Disk.Disk c.args.name.now (held c.args.outside.now).cabinet c.disk.new.self c.back.new.self c.args.top.now c.in-Ok.disk c.ship-shipped.result.1
    (record { out = record { content = taken.content; images = taken.images; moment = taken.moment; fresh = taken.opened; call = taken.call }; in_place = record { held = back.held; never_falls = back.never_falls; call = back.call } }) c.ship-shipped.ensures.any_moment

pub returns-clause-beside : goal.returns-clause-beside
returns-clause-beside g c =
    let shipped = c.ship-shipped in
    let output = shipped_stays g.O.Sink _ _ g.C.Disk.Disk _ _ shipped.result.0 shipped.ensures.ships in
    search rules

pub returns-clause-alone : goal.returns-clause-alone
returns-clause-alone g c =
    let taken = c.in-Ok.ensures in
    let back = c.back.ensures in
    lent_alone g.C.Cabinet g.C.Disk.Disk c.args.name.now (held c.args.outside.now).cabinet c.disk.new.self c.back.new.self c.in-Ok.disk c.ship-shipped.result.1
    (record { content = taken.content; images = taken.images; moment = taken.moment; fresh = taken.opened; call = taken.call }) c.disk.ensures.others (record { held = back.held; never_falls = back.never_falls; call = back.call }) back.others
