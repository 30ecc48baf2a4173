use Rattle.std.proofs.Common.{◌≡◌, ◌+◌, ◌++◌, take, drop, ap, refl, subst, arith}
use Rattle.std.proofs.lemmas.List.{length-take}
use Rattle.std.proofs.lemmas.Result.{err_from_is_err_and}
use Rattle.hose_io.specs.Stream.{Gives, IsAtEnd}
use Rattle.hose_outside.specs.CabinetText.{text_stream}
use Rattle.hose_outside.specs.steps.CabinetText.{TextState, text_left}
use Rattle.hose_outside.proofs.Texts.{HasAsked-none, asked_once, at_end, at_limit, gives_text, read_before, same_stream, texts_read}
use Rattle.hose_outside.proofs.cabinet_text.CabinetTextSource.take.Goals as goal

pub returns-then-room-eq0-clause-none_only_at_end : goal.returns-then-room-eq0-clause-none_only_at_end
returns-then-room-eq0-clause-none_only_at_end g c = λ none.
    let now = c.args.self.now in
    at_limit now.from (g.C.Cabinet.frame now.cabinet.now).tells (g.C.Cabinet.text now.cabinet.now now.name)
    (omega (arith, ap (λ (r : TextState g.row.C.Denot). r.from) c.self.view_is, c.min-room.ensures, c.if-room-eq0.true, c.requires))

pub returns-then-room-eq0-clause-went : goal.returns-then-room-eq0-clause-went
returns-then-room-eq0-clause-went g c = HasAsked-none g.C.Cabinet c.args.self.now

pub returns-in_err-count-clause-taken : goal.returns-in_err-count-clause-taken
returns-in_err-count-clause-taken g c =
    let inside = c.self.inside in
    let place = inside.cabinet.now in
    let only = texts_read g.C.Cabinet place c.text.new.self c.text.result c.text.ensures.texts c.text.ensures.disks c.text.ensures.call in
    let told = err_from_is_err_and c.from_residual.result c.from_residual.ensures.1 in
    rw told.1 (subst (λ (r : TextState g.row.C.Denot). text_stream g.C.Cabinet c.text.new.self inside.name.now inside.from ≡ text_left g.C.Cabinet r) c.self.view_is (same_stream g.C.Cabinet place c.text.new.self inside.name.now inside.from only))

pub returns-in_err-count-clause-went : goal.returns-in_err-count-clause-went
returns-in_err-count-clause-went g c =
    rw (← c.self.view_is) (asked_once g.C.Cabinet _ _ c.text.result refl c.text.ensures.texts c.text.ensures.disks c.text.ensures.call c.text.ensures.absent c.self.invariant.0)

pub returns-clause-went : goal.returns-clause-went
returns-clause-went g c =
    rw (← c.self.view_is) (asked_once g.C.Cabinet _ _ c.text.result refl c.text.ensures.texts c.text.ensures.disks c.text.ensures.call c.text.ensures.absent c.self.invariant.0)

pub returns-clause-taken : goal.returns-clause-taken
returns-clause-taken g c =
    let inside = c.self.inside in
    let place = inside.cabinet.now in
    let name = inside.name.now in
    let text = c.in_ok-count.ensures in
    let count = c.in_ok-count.count in
    let got = c.text.new.into ++ drop c.min-room.result c.args.into.now in
    let tells = (g.C.Cabinet.frame place).tells in
    let found = g.C.Cabinet.text place name in
    let read = read_before inside.from count c.text.new.into (drop c.min-room.result c.args.into.now) tells found text.room text.read in
    let gives = gives_text inside.from count got tells found read (omega (arith, text.room, c.min-room.ensures, length-take c.min-room.result c.args.into.now)) in
    let only = texts_read g.C.Cabinet place c.text.new.self c.text.result c.text.ensures.texts c.text.ensures.disks c.text.ensures.call in
    subst (λ (r : TextState g.row.C.Denot). Gives (text_left g.C.Cabinet r) (text_stream g.C.Cabinet c.text.new.self name (inside.from + count)) (take count got)) c.self.view_is
    (rw (same_stream g.C.Cabinet place c.text.new.self name (inside.from + count) only) gives)

pub returns-clause-none_only_at_end : goal.returns-clause-none_only_at_end
returns-clause-none_only_at_end g c = λ none.
    let inside = c.self.inside in
    let place = inside.cabinet.now in
    let name = inside.name.now in
    let text = c.in_ok-count.ensures in
    let count = c.in_ok-count.count in
    let tells = (g.C.Cabinet.frame place).tells in
    let found = g.C.Cabinet.text place name in
    let none_read : count ≡ 0 = cc none in
    subst (λ (r : TextState g.row.C.Denot). IsAtEnd (text_left g.C.Cabinet r)) c.self.view_is (at_end inside.from count c.text.new.into tells found text.read none_read)
