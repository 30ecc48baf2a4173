use Rattle.std.proofs.Common.{◌≡◌, ◌↔◌, ◌<◌, inl, inr, Err, List, refl, arith}
use Rattle.hose_io.proofs.Frames.{Stays-none}
use Rattle.hose_words.proofs.OnReading.{ReadsOn-start}
use Rattle.hose_graph.specs.declared.command.Reply.{Reply}
use Rattle.hose_law.specs.History.{IsDecidedAt}
use Rattle.hose_law.specs.Script.{ReadLine}
use Rattle.hose_store.specs.steps.Commit.{store_books}
use Rattle.hose_words.specs.declared.lines.TheConstants.{INPUT_LIMIT}
use Rattle.hose_outside.specs.declared.fault.Fault.TheVariants.{Memory, TooLong}
use Rattle.hose_outside.specs.Parts.{tellings}
use Rattle.hose_offline.proofs.BookTalks.{talks_told}
use Rattle.hose_offline.proofs.Exchanges.{answered_none}
use Rattle.hose_offline.proofs.TalksTold.{too_long_told}
use Rattle.hose_offline.proofs.Talked.{first_long, first_sound, talked_in}
use Rattle.hose_outside.proofs.Journals.{unused_in}
use Rattle.hose_offline.proofs.RunKept.{kept_closed}
use Rattle.hose_offline.proofs.answering.answer_by_journal.Goals as goal

pub returns-in_default-clause-talks : goal.returns-in_default-clause-talks
returns-in_default-clause-talks g c = λ name before network opens.
    inl (unused_in g.C.Cabinet g.C.Disk.Disk name before c.args.cabinet.now c.close_journal.new.cabinet network c.args.store IsDecidedAt c.close_journal.result.0 opens c.close_journal.ensures.closes, refl, refl)

pub returns-in_default-clause-keeps : goal.returns-in_default-clause-keeps
returns-in_default-clause-keeps g c =
    let closed = c.close_journal in
    let lines = c.args.lines.now in
    kept_closed (tellings g.S.Source g.O.Sink g.C.Cabinet g.C.Disk.Disk) lines lines c.args.output.now c.args.output.now (Err Memory) (ReadsOn-start g.S.Source lines) (omega (arith, c.requires.limit))
    ((λ is. absurd (cc is)), (λ more. absurd (omega (arith, more, c.requires.limit)))) (Stays-none (g.O.Sink.frame c.args.output.now)) c.args.cabinet.now closed.new.cabinet c.args.store closed.result.0 closed.ensures.closes closed.ensures.others

pub returns-clause-talks : goal.returns-clause-talks
returns-clause-talks g c = λ name before network opens.
    let since = opens.opens.opened.history in
    let first = c.core_over in
    let held = c.converse in
    let answered = c.done_of_talk-answered in
    let closed = c.close_journal-closed in
    let sound = first_sound first.result.books c.args.store since first.ensures.books opens.opens.opened.has.sound in
    let asked = λ (lines : List ReadLine) (replies : List Reply). first.ensures.leaves lines replies opens.was network opens.opens in
    let begun = record held.new.answers { core = first.result } in
    let talks = talks_told g.S.Source g.O.Sink (store_books g.C.Disk.Disk) since first.result (λ clerk. clerk.core) c.args.lines.now held.new.lines c.args.output.now held.new.output held.new.answers held.new.answers answered.result held.result answered.ensures held.ensures.fault
    (held.ensures.talks (since, begun) (answered_none (store_books g.C.Disk.Disk) since first.result sound (first.ensures.fits since opens.opens.opened.has.book))) in
    let has = talked_in g.C.Cabinet g.C.Disk.Disk name before c.args.cabinet.now closed.new.cabinet network c.args.store g.S.Source g.O.Sink c.args.lines.now held.new.lines c.args.output.now held.new.output first.result.books held.new.answers.core.books answered.result closed.result.0
    opens (rw c.into_books.ensures at closed.ensures.closes) asked first.ensures.books talks in
    inr (answered.result, closed.result.0, has, c.first_fault.ensures)

pub returns-clause-keeps : goal.returns-clause-keeps
returns-clause-keeps g c =
    let held = c.converse in
    let answered = c.done_of_talk-answered in
    let closed = c.close_journal-closed in
    let long = first_long answered.result closed.result.0 in
    let told : (answered.result ≡ Err TooLong) ↔ (INPUT_LIMIT < held.new.lines.taken) =
    rw answered.ensures (too_long_told held.result (INPUT_LIMIT < held.new.lines.taken) held.ensures.too_long) in
    kept_closed (tellings g.S.Source g.O.Sink g.C.Cabinet g.C.Disk.Disk) c.args.lines.now held.new.lines c.args.output.now held.new.output c.first_fault.result held.ensures.reads_on held.ensures.limit
    (rw c.first_fault.ensures ((λ is. told.0 (long.0 is)), (λ more. long.1 (told.1 more)))) held.ensures.output c.args.cabinet.now closed.new.cabinet held.new.answers.core.books closed.result.0 (rw c.into_books.ensures at closed.ensures.closes) closed.ensures.others
