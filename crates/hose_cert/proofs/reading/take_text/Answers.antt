use Rattle.std.proofs.Common.{subst}
use Rattle.hose_words.specs.Words.{words_of}
use Rattle.hose_cert.specs.steps.CertLine.{statement_line}
use Rattle.hose_cert.specs.steps.Draft.{IsRefusedLine}
use Rattle.hose_cert.proofs.Spelling.{spelled_once}
use Rattle.hose_cert.proofs.reading.take_text.Goals as goal

pub take_line-requires-clause-said : goal.take_line-requires-clause-said
take_line-requires-clause-said c =
    let says = rw c.in-Some.is at c.in_ok-told.ensures.told in
    (words_of c.args.line.now, says.spelled)

pub returns-in-Some-2-clause-step : goal.returns-in-Some-2-clause-step
returns-in-Some-2-clause-step c =
    let says = rw c.in-Some.is at c.in_ok-told.ensures.told in
    let takes = rw c.in-Some-2.is at c.in_ok-more.ensures.takes in
    (statement_line c.in-Some.told, says, takes)

pub returns-in-None-clause-step : goal.returns-in-None-clause-step
returns-in-None-clause-step c = λ lines stands line there.
    let says = rw c.in-Some.is at c.in_ok-told.ensures.told in
    let takes = rw c.in-None.is at c.in_ok-more.ensures.takes in
    subst (IsRefusedLine c.args.top.now lines) (spelled_once c.args.top.now c.requires.network (words_of c.args.line.now) (statement_line c.in-Some.told) line says.spelled there.spelled)
    (takes lines stands)
