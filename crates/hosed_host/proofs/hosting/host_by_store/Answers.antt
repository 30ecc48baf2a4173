use Rattle.std.proofs.Common.{Bool, ◌≡◌, ◌∙◌, ap, inl, refl, rules, subst, sym, take}
use Rattle.hosed_host.specs.HostDoors.{AreOpenedAt}
use Rattle.hose_lead.specs.LedStore.{LedState}
use Rattle.hose_core.specs.steps.Holding.{State}
use Rattle.hose_outside.specs.Parts.{tellings}
use Rattle.hosed_host.specs.HostBook.{door_tellings}
use Rattle.hosed_host.specs.steps.HostOutcome.{asked_of}
use Rattle.hosed_host.specs.declared.hosting.NotHosted.TheVariants as none
use Rattle.hose_clerk.specs.steps.Linking.{goes_alone, is_required, link_state, path_at}
use Rattle.hosed_host.proofs.Hosted.{alone_without, begun, ended_for, led_grows, hosts_doors, not_hosted}
use Rattle.hosed_host.proofs.hosting.host_by_store.Goals as goal

-- there was no memory for the rows
pub returns-in_default-clause-hosts : goal.returns-in_default-clause-hosts
returns-in_default-clause-hosts g c = λ name before network is opens of.
    let closed = c.close_journal in
    let closes = rw c.into_store.ensures at closed.ensures.closes in
    not_hosted (tellings g.I.Source g.O.Sink g.C.Cabinet g.C.Disk.Disk) (door_tellings g.D.Doors g.D.Network.Connections.did (g.D.Network.Connections.saw (LedState _))) name (asked_of c.args.request.doors) before c.args.outside.now.cabinet.now closed.new.cabinet network is c.args.led.store opens closed.result.0 closes c.args.doors.now c.args.doors.now none.Memory (inl refl)

-- or for the doors
pub returns-in_default-opened_as-clause-hosts : goal.returns-in_default-opened_as-clause-hosts
returns-in_default-opened_as-clause-hosts g c = λ name before network is opens of.
    let closed = c.close_journal-in_default-opened_as in
    let closes = rw c.into_store-in_default-opened_as.ensures at closed.ensures.closes in
    not_hosted (tellings g.I.Source g.O.Sink g.C.Cabinet g.C.Disk.Disk) (door_tellings g.D.Doors g.D.Network.Connections.did (g.D.Network.Connections.saw (LedState _))) name (asked_of c.args.request.doors) before c.args.outside.now.cabinet.now closed.new.cabinet network is c.args.led.store opens closed.result.0 closes c.args.doors.now c.args.doors.now none.Memory (inl refl)

-- or for the standby's path
pub returns-in_default-awaited_by-clause-hosts : goal.returns-in_default-awaited_by-clause-hosts
returns-in_default-awaited_by-clause-hosts g c = λ name before network is opens of.
    let closed = c.close_journal-in_default-awaited_by in
    let closes = rw c.into_store-in_default-awaited_by.ensures at closed.ensures.closes in
    not_hosted (tellings g.I.Source g.O.Sink g.C.Cabinet g.C.Disk.Disk) (door_tellings g.D.Doors g.D.Network.Connections.did (g.D.Network.Connections.saw (LedState _))) name (asked_of c.args.request.doors) before c.args.outside.now.cabinet.now closed.new.cabinet network is c.args.led.store opens closed.result.0 closes c.args.doors.now c.args.doors.now none.Memory (inl refl)

-- the doors were not opened
pub returns-in-Err-clause-hosts : goal.returns-in-Err-clause-hosts
returns-in-Err-clause-hosts g c = λ name before network is opens of.
    let closed = c.close_journal-in-Err in
    let closes = rw c.into_store-in-Err.ensures at closed.ensures.closes in
    not_hosted (tellings g.I.Source g.O.Sink g.C.Cabinet g.C.Disk.Disk) (door_tellings g.D.Doors g.D.Network.Connections.did (g.D.Network.Connections.saw (LedState _))) name (asked_of c.args.request.doors) before c.args.outside.now.cabinet.now closed.new.cabinet network is c.args.led.store opens closed.result.0 closes c.args.doors.now c.open_doors.new.doors c.in-Err.why (c.in-Err.ensures.left c.in-Ok-opened_as.opened.rules.items (search rules))

pub returns-in_default-clause-left : goal.returns-in_default-clause-left
returns-in_default-clause-left g c = inl refl

pub returns-in_default-opened_as-clause-left : goal.returns-in_default-opened_as-clause-left
returns-in_default-opened_as-clause-left g c = inl refl

pub returns-in_default-awaited_by-clause-left : goal.returns-in_default-awaited_by-clause-left
returns-in_default-awaited_by-clause-left g c = inl refl

pub returns-in-Err-clause-left : goal.returns-in-Err-clause-left
returns-in-Err-clause-left g c = c.in-Err.ensures.left c.in-Ok-opened_as.opened.rules.items (search rules)

-- connections were hosted
pub new-clerk-requires : goal.new-clerk-requires
new-clerk-requires g c = record { grows = led_grows g.C.Disk.Disk }

pub host-why-requires-clause-alone : goal.host-why-requires-clause-alone
host-why-requires-clause-alone g c = alone_without c.new-clerk.result.awaited

pub returns-clause-hosts : goal.returns-clause-hosts
returns-clause-hosts g c = λ name before network is opens of.
    let tells = tellings g.I.Source g.O.Sink g.C.Cabinet g.C.Disk.Disk in
    let by = door_tellings g.D.Doors g.D.Network.Connections.did (g.D.Network.Connections.saw (LedState _)) in
    let asked = asked_of c.args.request.doors in
    let all = take c.len.result c.in-Ok-opened_as.opened.addresses in
    let opened : AreOpenedAt asked all c.in-Ok-opened_as.opened.rules.items = search rules in
    let core = c.with_rows-core in
    let made = c.new-clerk in
    let closed = c.close_journal-closing in
    let last = c.host-why.new.answers in
    let first : made.result.desk.core.books ≡ core.result.books = ap (λ (s : State (LedState _)). s.books) made.ensures.core in
    let closes = rw (c.into_store-2.ensures ∙ ap (λ (led : LedState _). led.store) c.into_books.ensures) at closed.ensures.closes in
    let start = begun tells by name asked before c.args.outside.now.cabinet.now closed.new.cabinet network is c.args.led.store last.desk.core.books.store opens closed.result.0 closes (λ (required : Bool). record { required = required; standby = made.result.standby; fence = made.result.fence }) (is_required made.result.awaited) (is_required c.in-Ok-awaited_by.awaited) (ap is_required made.ensures.awaited) c.args.led refl of
    core.result.books core.ensures.books made.result.desk.core.books first made.result.sessions.items made.result.desk.is_ending made.result.desk.figures.tally made.ensures.ending made.ensures.tally made.ensures.hosted in
    let is_store = ap (λ (led : LedState _). led.store) (first ∙ core.ensures.books) in
    hosts_doors tells by name asked before c.args.outside.now.cabinet.now closed.new.cabinet network is c.args.led.store last.desk.core.books.store opens closed.result.0 closes
    c.args.doors.now c.open_doors.new.doors c.close.new.self c.in-Ok-open_doors.network c.host-why.new.network _ all made.result.doors.items made.result.desk.core.books last.desk.core.books last.sessions.items last.desk.is_ending last.desk.figures.tally (link_state last.awaited last.standby last.fence)
    (path_at made.result.awaited) (goes_alone made.result.awaited) is_store refl (ap path_at made.ensures.awaited ∙ c.in-Ok-awaited_by.ensures.path) (ap goes_alone made.ensures.awaited ∙ c.in-Ok-awaited_by.ensures.alone)
    (subst (AreOpenedAt asked all) (sym made.ensures.doors) opened) (ended_for c.host-why.result last.desk.is_ending c.host-why.ensures.asked c.host-why.ensures.told)
    (c.host-why.ensures.hosted (opens.opens.opened.history, made.result) start) c.in-Ok-open_doors.ensures.opened c.close.ensures refl (search rules)
