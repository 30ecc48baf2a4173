use Rattle.std.proofs.Common.{◌≡◌, ◌∙◌, inl, inr, Err, refl, ap, rules}
use Rattle.std.proofs.lemmas.Result.{err_from_is_err_and}
use Rattle.hose_outside.specs.Parts.{parts, tellings}
use Rattle.hose_outside.specs.steps.Parts.{held}
use Rattle.hose_law.specs.History.{IsSoundAt}
use Rattle.hose_copying.specs.Following.{IsBrought}
use Rattle.hose_copying.proofs.Followed.{followed_in}
use Rattle.hose_outside.proofs.Journals.{opened_for}
use Rattle.hose_copying.proofs.StreamsStay.{input_stays, output_stays}
use Rattle.hose_outside.proofs.Lending.{others_then}
use Rattle.hose_copying.proofs.following.follow_journal.Goals as goal

pub returns-in_err-store-clause-follows : goal.returns-in_err-store-clause-follows
returns-in_err-store-clause-follows g c =
    let told = err_from_is_err_and c.from_residual.result c.from_residual.ensures.1 in
    let is : c.from_residual.result ≡ Err c.in_err-store.field-0.0 = told.1 ∙ ap Err told.2 in
    rw is (inl (c.in_err-store.ensures.refused, refl, refl))

pub returns-clause-follows : goal.returns-clause-follows
returns-clause-follows g c =
    let before = held c.args.outside.now in
    let followed = c.follow-ended in
    let closed = c.close_journal-closed in
    let after = parts followed.new.source followed.new.sink closed.new.cabinet in
    let opens = c.in_ok-store.ensures.opens in
    let has = followed_in (tellings g.I.Source g.O.Sink g.C.Cabinet g.C.Disk.Disk) c.args.name.now before after c.open_journal.new.cabinet c.args.topology c.in_ok-store.store followed.new.store followed.result closed.result.0
    followed.ensures
    (record { was = opens.was; taken = opens.taken; opens = opened_for g.C.Disk.Disk IsSoundAt (IsBrought followed.ensures.packets) c.args.topology opens.was c.in_ok-store.store opens.opens }) closed.ensures.closes in
    inr (followed.result, closed.result.0, has, rw c.done_of_end.ensures at c.first_fault.ensures)

pub returns-clause-beside : goal.returns-clause-beside
returns-clause-beside g c =
    let followed = c.follow-ended in
    let input = input_stays g.I.Source _ _ _ _ followed.result followed.ensures.input in
    let output = output_stays g.O.Sink _ _ _ followed.result followed.ensures.output in
    search rules

pub returns-clause-alone : goal.returns-clause-alone
returns-clause-alone g c =
    let opened = c.in_ok-store.ensures in
    let closed = c.close_journal-closed in
    record {
      absent = closed.ensures.closes.absent ∙ opened.call.absent;
      others = others_then g.C.Cabinet c.args.name.now (held c.args.outside.now).cabinet c.open_journal.new.cabinet closed.new.cabinet opened.call.out c.open_journal.ensures.others closed.ensures.others;
    }
