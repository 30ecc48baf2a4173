use Rattle.std.specs.Prelude.{⊤, option_map}
use Rattle.std.proofs.Common.{◌≡◌, ◌∙◌, ◌↔◌, ◌<◌, ℕ, List, [], Option, Err, inl, inr, refl, sym, ap, subst, arith}
use Rattle.std.proofs.lemmas.Result.{err_from_is_err_and}
use Rattle.hose_words.proofs.OnReading.{ReadsOn-start, ReadsOn-then}
use Rattle.hose_outside.specs.steps.Fault.{of_topology}
use Rattle.hose_outside.specs.declared.fault.Fault.TheVariants.{Memory, Read, TooLong}
use Rattle.hose_outside.specs.Parts.{parts, tellings}
use Rattle.hose_offline.specs.RunOutcome.{RunLeaves}
use Rattle.hose_topo.specs.steps.Reading.{KeepsLineFault}
use Rattle.hose_offline.proofs.Leaving.{leaves_in_cabinet, leaves_in_memory, starved}
use Rattle.hose_offline.proofs.Running.{leaves_topology}
use Rattle.hose_outside.proofs.TextsRead.{not_read, stopped_told, wrong_told}
use Rattle.hose_words.proofs.Saying.{rose_now}
use Rattle.hose_words.specs.declared.lines.TheConstants.{INPUT_LIMIT}
use Rattle.hose_book.specs.Ledger.{Ledger}
use Rattle.hose_book.specs.declared.books.Plain.{Plain}
use Rattle.hose_graph.specs.Network.{Network}
use Rattle.hose_talk.specs.Talk.{talk}
use Rattle.hose_offline.specs.steps.Talking.{Talks, plain_books, talk_tellings}
use Rattle.hose_offline.proofs.BookTalks.{talks_told}
use Rattle.hose_offline.proofs.Exchanges.{answered_none}
use Rattle.hose_offline.proofs.TalksTold.{too_long_told}
use Rattle.hose_io.proofs.Frames.{Stays-none}
use Rattle.hose_offline.specs.steps.Answering.{KeepsRun}
use Rattle.hose_offline.proofs.RunKept.{kept_beside, kept_starved, kept_then, kept_unopened, long_topology, not_long}
use Rattle.hose_offline.proofs.answering.run_lines.Goals as goal

pub returns-in_err-told-clause-leaves : goal.returns-in_err-told-clause-leaves
returns-in_err-told-clause-leaves g c =
    let topology = c.in_err-told.field-0.0 in
    let read = c.read.ensures in
    let at = c.in_err-told.was in
    let start = c.args.lines.now in
    let last = c.read.new.lines in
    let told = err_from_is_err_and c.from_residual.result c.from_residual.ensures.1 in
    let is : c.from_residual.result ≡ Err (of_topology Read topology) = told.1 ∙ ap Err told.2 in
    rw is (leaves_topology ⊤ (tellings g.S.Source g.O.Sink g.C.Cabinet g.C.Disk.Disk) (g.P.Prices.prices c.args.costs.now) (option_map (λ name. name.now) c.args.journal) start last c.args.output.now c.args.cabinet.now topology
    (λ line word wrong. wrong_told g.S.Source start last line word c.requires.pending (read.wrong line word (at ∙ ap Err wrong)) (read.no_text line word (at ∙ ap Err wrong)))
    (λ fault stopped. stopped_told g.S.Source start last fault c.requires.pending (read.front c.requires.fault fault (at ∙ ap Err stopped)))
    (λ failed. rose_now g.S.Source start last c.requires.fault (read.read (at ∙ ap Err failed)))
    (λ other. read.reads_on.unfailed (not_read topology start.fault last.fault c.requires.fault (subst (KeepsLineFault start.fault last.fault) at read.fault) other))
    (λ none. read.memory (at ∙ ap Err none)))

pub returns-in_err-told-clause-keeps : goal.returns-in_err-told-clause-keeps
returns-in_err-told-clause-keeps g c =
    let read = c.read.ensures in
    let output = c.args.output.now in
    let told = err_from_is_err_and c.from_residual.result c.from_residual.ensures.1 in
    let long = long_topology c.read.result c.in_err-told.field-0.0 c.from_residual.result _ c.in_err-told.was (told.1 ∙ ap Err told.2) (read.too_long (omega (arith, c.requires.taken))) in
    kept_beside (tellings g.S.Source g.O.Sink g.C.Cabinet g.C.Disk.Disk) c.args.lines.now c.read.new.lines output output c.from_residual.result read.reads_on (read.limit (omega (arith, c.requires.taken))) long (Stays-none (g.O.Sink.frame output)) (option_map (λ name. name.now) c.args.journal) c.args.cabinet.now c.requires.none_out

-- there was no memory for the costs of the network
pub returns-in_err-topology-clause-leaves : goal.returns-in_err-topology-clause-leaves
returns-in_err-topology-clause-leaves g c =
    let read = c.in_ok-told.ensures in
    let gives = c.from_residual-in_err-topology in
    let told = err_from_is_err_and gives.result gives.ensures.1 in
    let is : gives.result ≡ Err Memory = told.1 ∙ ap Err told.2 in
    rw is (starved (g.P.Prices.prices c.args.costs.now) g.S.Source g.O.Sink g.C.Cabinet g.C.Disk.Disk (option_map (λ name. name.now) c.args.journal) c.args.lines.now c.read.new.lines c.in_ok-told.told c.args.output.now c.args.cabinet.now c.requires.pending read.topology c.read.ensures.reads_on read.fault.1)

pub returns-in_err-topology-clause-keeps : goal.returns-in_err-topology-clause-keeps
returns-in_err-topology-clause-keeps g c =
    let read = c.read.ensures in
    let gives = c.from_residual-in_err-topology in
    let told = err_from_is_err_and gives.result gives.ensures.1 in
    kept_starved (tellings g.S.Source g.O.Sink g.C.Cabinet g.C.Disk.Disk) (option_map (λ name. name.now) c.args.journal) c.args.lines.now c.read.new.lines c.args.output.now c.args.cabinet.now c.read.result c.in_ok-told.told gives.result c.in_ok-told.was (told.1 ∙ ap Err told.2) read.reads_on (read.limit (omega (arith, c.requires.taken))) (read.too_long (omega (arith, c.requires.taken))) c.requires.none_out

-- there was none for a book in memory
pub returns-in_err-book-in-None-clause-leaves : goal.returns-in_err-book-in-None-clause-leaves
returns-in_err-book-in-None-clause-leaves g c =
    let read = c.in_ok-told.ensures in
    let gives = c.from_residual-in_err-book-in-None in
    let told = err_from_is_err_and gives.result gives.ensures.1 in
    let is : gives.result ≡ Err Memory = told.1 ∙ ap Err told.2 in
    rw is (starved (g.P.Prices.prices c.args.costs.now) g.S.Source g.O.Sink g.C.Cabinet g.C.Disk.Disk (option_map (λ name. name.now) c.args.journal) c.args.lines.now c.read.new.lines c.in_ok-told.told c.args.output.now c.args.cabinet.now c.requires.pending read.topology c.read.ensures.reads_on read.fault.1)

pub returns-in_err-book-in-None-clause-keeps : goal.returns-in_err-book-in-None-clause-keeps
returns-in_err-book-in-None-clause-keeps g c =
    let read = c.read.ensures in
    let gives = c.from_residual-in_err-book-in-None in
    let told = err_from_is_err_and gives.result gives.ensures.1 in
    kept_starved (tellings g.S.Source g.O.Sink g.C.Cabinet g.C.Disk.Disk) (option_map (λ name. name.now) c.args.journal) c.args.lines.now c.read.new.lines c.args.output.now c.args.cabinet.now c.read.result c.in_ok-told.told gives.result c.in_ok-told.was (told.1 ∙ ap Err told.2) read.reads_on (read.limit (omega (arith, c.requires.taken))) (read.too_long (omega (arith, c.requires.taken))) c.requires.none_out

-- there was no memory for the rows of a book in memory
pub returns-in_err-table-in-None-clause-leaves : goal.returns-in_err-table-in-None-clause-leaves
returns-in_err-table-in-None-clause-leaves g c =
    let read = c.in_ok-told.ensures in
    let place = c.args.cabinet.now in
    let gives = c.from_residual-in_err-table-in-None in
    let told = err_from_is_err_and gives.result gives.ensures.1 in
    let is : gives.result ≡ Err Memory = told.1 ∙ ap Err told.2 in
    subst (λ (journal : Option (List ℕ)). RunLeaves (tellings g.S.Source g.O.Sink g.C.Cabinet g.C.Disk.Disk) (g.P.Prices.prices c.args.costs.now) journal (parts c.args.lines.now.source c.args.output.now place) (parts c.read.new.lines.source c.args.output.now place) gives.result)
    (sym (ap (option_map (λ name. name.now)) c.in-None.is))
    (leaves_in_memory (g.P.Prices.prices c.args.costs.now) g.S.Source g.O.Sink g.C.Cabinet g.C.Disk.Disk c.args.lines.now c.read.new.lines c.read.new.lines c.in_ok-told.told c.in_ok-topology.topology c.in_ok-topology.ensures.priced c.args.output.now c.args.output.now place place
    c.in_ok-topology.ensures.network c.requires.pending read.topology read.alone c.read.ensures.reads_on read.fault.1 gives.result (ReadsOn-start g.S.Source c.read.new.lines) (inl (is, refl, refl)))

pub returns-in_err-table-in-None-clause-keeps : goal.returns-in_err-table-in-None-clause-keeps
returns-in_err-table-in-None-clause-keeps g c =
    let read = c.read.ensures in
    let gives = c.from_residual-in_err-table-in-None in
    let told = err_from_is_err_and gives.result gives.ensures.1 in
    kept_starved (tellings g.S.Source g.O.Sink g.C.Cabinet g.C.Disk.Disk) (option_map (λ name. name.now) c.args.journal) c.args.lines.now c.read.new.lines c.args.output.now c.args.cabinet.now c.read.result c.in_ok-told.told gives.result c.in_ok-told.was (told.1 ∙ ap Err told.2) read.reads_on (read.limit (omega (arith, c.requires.taken))) (read.too_long (omega (arith, c.requires.taken))) c.requires.none_out

-- the book is in memory
pub returns-in_ok-table-in-None-clause-leaves : goal.returns-in_ok-table-in-None-clause-leaves
returns-in_ok-table-in-None-clause-leaves g c =
    let read = c.in_ok-told.ensures in
    let place = c.args.cabinet.now in
    let book = c.in_ok-book-in-None.ensures.value in
    let first = c.with_rows.result in
    let network = ap (λ (p : Plain). p.book.network) c.with_rows.ensures.books ∙ ap (λ (l : Ledger). l.network) book in
    let held = c.converse in
    let done = c.done_of_talk in
    let fits = c.with_rows.ensures.fits 0 [] (ap (λ (l : Ledger). l.book) book) in
    let begun = record held.new.answers { core = first } in
    let talks = talks_told g.S.Source g.O.Sink plain_books [] first (λ clerk. clerk.core) c.read.new.lines held.new.lines c.args.output.now held.new.output held.new.answers held.new.answers done.result held.result done.ensures held.ensures.fault
    (held.ensures.talks ([], begun) (answered_none plain_books [] first tt fits)) in
    subst (λ (journal : Option (List ℕ)). RunLeaves (tellings g.S.Source g.O.Sink g.C.Cabinet g.C.Disk.Disk) (g.P.Prices.prices c.args.costs.now) journal (parts c.args.lines.now.source c.args.output.now place) (parts held.new.lines.source held.new.output place) done.result)
    (sym (ap (option_map (λ name. name.now)) c.in-None.is))
    (leaves_in_memory (g.P.Prices.prices c.args.costs.now) g.S.Source g.O.Sink g.C.Cabinet g.C.Disk.Disk c.args.lines.now c.read.new.lines held.new.lines c.in_ok-told.told c.in_ok-topology.topology c.in_ok-topology.ensures.priced c.args.output.now held.new.output place place
    c.in_ok-topology.ensures.network c.requires.pending read.topology read.alone c.read.ensures.reads_on read.fault.1 done.result held.ensures.reads_on (inr (
      first.books,
      held.new.answers.core.books,
      subst (λ (n : Network). Talks (talk_tellings g.S.Source g.O.Sink plain_books) n [] (talk c.read.new.lines c.args.output.now first.books) (talk held.new.lines held.new.output held.new.answers.core.books) done.result) network talks,
    )))

pub returns-in_ok-table-in-None-clause-keeps : goal.returns-in_ok-table-in-None-clause-keeps
returns-in_ok-table-in-None-clause-keeps g c =
    let held = c.converse in
    let start = c.args.lines.now in
    let reads = ReadsOn-then g.S.Source start c.read.new.lines held.new.lines c.read.ensures.reads_on held.ensures.reads_on in
    let long : (c.done_of_talk.result ≡ Err TooLong) ↔ (INPUT_LIMIT < held.new.lines.taken) = rw c.done_of_talk.ensures (too_long_told held.result (INPUT_LIMIT < held.new.lines.taken) held.ensures.too_long) in
    kept_beside (tellings g.S.Source g.O.Sink g.C.Cabinet g.C.Disk.Disk) start held.new.lines c.args.output.now held.new.output c.done_of_talk.result reads held.ensures.limit long held.ensures.output (option_map (λ name. name.now) c.args.journal) c.args.cabinet.now c.requires.none_out

pub returns-in_err-store-in-Some-clause-leaves : goal.returns-in_err-store-in-Some-clause-leaves
returns-in_err-store-in-Some-clause-leaves g c =
    let read = c.in_ok-told.ensures in
    let told = err_from_is_err_and c.from_residual-in_err-store-in-Some.result c.from_residual-in_err-store-in-Some.ensures.1 in
    let is : c.from_residual-in_err-store-in-Some.result ≡ Err c.in_err-store-in-Some.field-0.0 = told.1 ∙ ap Err told.2 in
    rw is (subst (λ (journal : Option (List ℕ)). RunLeaves (tellings g.S.Source g.O.Sink g.C.Cabinet g.C.Disk.Disk) (g.P.Prices.prices c.args.costs.now) journal (parts c.args.lines.now.source c.args.output.now c.args.cabinet.now) (parts c.read.new.lines.source c.args.output.now c.open_journal.new.cabinet) {T = ⊤} (Err c.in_err-store-in-Some.field-0.0))
    (sym (ap (option_map (λ name. name.now)) c.in-Some.is))
    (leaves_in_cabinet (g.P.Prices.prices c.args.costs.now) g.S.Source g.O.Sink g.C.Cabinet g.C.Disk.Disk c.args.lines.now c.read.new.lines c.read.new.lines c.in_ok-told.told c.in_ok-topology.topology c.in_ok-topology.ensures.priced c.args.output.now c.args.output.now c.args.cabinet.now c.open_journal.new.cabinet
    c.in_ok-topology.ensures.network c.requires.pending read.topology read.alone c.read.ensures.reads_on read.fault.1 c.in-Some.name.now (Err c.in_err-store-in-Some.field-0.0) (ReadsOn-start g.S.Source c.read.new.lines) (inl (c.in_err-store-in-Some.ensures.refused, refl, refl))))

pub returns-in_ok-store-in-Some-clause-leaves : goal.returns-in_ok-store-in-Some-clause-leaves
returns-in_ok-store-in-Some-clause-leaves g c =
    let read = c.in_ok-told.ensures in
    let served = c.answer_by_journal in
    subst (λ (journal : Option (List ℕ)). RunLeaves (tellings g.S.Source g.O.Sink g.C.Cabinet g.C.Disk.Disk) (g.P.Prices.prices c.args.costs.now) journal (parts c.args.lines.now.source c.args.output.now c.args.cabinet.now) (parts served.new.lines.source served.new.output served.new.cabinet) served.result)
    (sym (ap (option_map (λ name. name.now)) c.in-Some.is))
    (leaves_in_cabinet (g.P.Prices.prices c.args.costs.now) g.S.Source g.O.Sink g.C.Cabinet g.C.Disk.Disk c.args.lines.now c.read.new.lines served.new.lines c.in_ok-told.told c.in_ok-topology.topology c.in_ok-topology.ensures.priced c.args.output.now served.new.output c.args.cabinet.now served.new.cabinet
    c.in_ok-topology.ensures.network c.requires.pending read.topology read.alone c.read.ensures.reads_on read.fault.1 c.in-Some.name.now served.result served.ensures.keeps.reads_on (served.ensures.talks c.in-Some.name.now c.args.cabinet.now c.in_ok-topology.topology c.in_ok-store-in-Some.ensures.opens))

pub returns-in_err-store-in-Some-clause-keeps : goal.returns-in_err-store-in-Some-clause-keeps
returns-in_err-store-in-Some-clause-keeps g c =
    let read = c.read.ensures in
    let refused = c.in_err-store-in-Some in
    let gives = c.from_residual-in_err-store-in-Some in
    let told = err_from_is_err_and gives.result gives.ensures.1 in
    let start = c.args.lines.now in
    let output = c.args.output.now in
    let place = c.args.cabinet.now in
    let long = not_long c.read.result c.in_ok-told.told refused.field-0.0 gives.result _ c.in_ok-told.was (told.1 ∙ ap Err told.2) (λ long. rw long at refused.ensures.refused) (read.too_long (omega (arith, c.requires.taken))) in
    subst (λ (journal : Option (List ℕ)). KeepsRun (tellings g.S.Source g.O.Sink g.C.Cabinet g.C.Disk.Disk) journal (parts start output place) (parts c.read.new.lines output c.open_journal.new.cabinet) gives.result)
    (sym (ap (option_map (λ name. name.now)) c.in-Some.is))
    (kept_unopened (tellings g.S.Source g.O.Sink g.C.Cabinet g.C.Disk.Disk) start c.read.new.lines output output gives.result read.reads_on (read.limit (omega (arith, c.requires.taken))) long (Stays-none (g.O.Sink.frame output)) c.in-Some.name.now place c.open_journal.new.cabinet c.open_journal.result
    c.open_journal.ensures.others c.open_journal.ensures.call refused.ensures.call.back)

pub returns-in_ok-store-in-Some-clause-keeps : goal.returns-in_ok-store-in-Some-clause-keeps
returns-in_ok-store-in-Some-clause-keeps g c =
    let served = c.answer_by_journal in
    let start = c.args.lines.now in
    let output = c.args.output.now in
    let place = c.args.cabinet.now in
    subst (λ (journal : Option (List ℕ)). KeepsRun (tellings g.S.Source g.O.Sink g.C.Cabinet g.C.Disk.Disk) journal (parts start output place) (parts served.new.lines served.new.output served.new.cabinet) served.result)
    (sym (ap (option_map (λ name. name.now)) c.in-Some.is))
    (kept_then (tellings g.S.Source g.O.Sink g.C.Cabinet g.C.Disk.Disk) c.in-Some.name.now start c.read.new.lines served.new.lines output served.new.output place c.open_journal.new.cabinet served.new.cabinet c.open_journal.result served.result
    c.read.ensures.reads_on c.open_journal.ensures.others c.open_journal.ensures.call c.in_ok-store-in-Some.ensures.call.out served.ensures.keeps)
