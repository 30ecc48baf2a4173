use Rattle.hose_cert.specs.steps.Taking.{fault_in}
use Rattle.hose_cert.proofs.Checked.{none_all, none_cheapest, none_found, none_valid, some_cheapest, some_found, valid_found}
use Rattle.hose_cert.proofs.LinesRead.{up_to_then}
use Rattle.hose_cert.proofs.Once.{lines_once}
use Rattle.hose_cert.proofs.check_certificate.Goals as goal

pub returns-in_err-body-clause-alone : goal.returns-in_err-body-clause-alone
returns-in_err-body-clause-alone g c = λ text some others is is'. lines_once c.args.top.now c.read_text.ensures.network text some others is.are is'.are

pub returns-in-Some-clause-alone : goal.returns-in-Some-clause-alone
returns-in-Some-clause-alone g c = λ text some others is is'. lines_once c.args.top.now c.read_text.ensures.network text some others is.are is'.are

pub returns-in-None-clause-alone : goal.returns-in-None-clause-alone
returns-in-None-clause-alone g c = λ text some others is is'. lines_once c.args.top.now c.read_text.ensures.network text some others is.are is'.are

pub returns-in-Some-clause-found : goal.returns-in-Some-clause-found
returns-in-Some-clause-found g c =
    some_found c.args.top.now c.read_text.ensures.network g.S.Source c.args.lines.now c.args.lines.now c.read_text.new.lines c.in-Some.body c.judge.result c.judge.ensures
    (rw c.in-Some.is at c.in_ok-body.ensures.text)

pub returns-in-Some-clause-valid : goal.returns-in-Some-clause-valid
returns-in-Some-clause-valid g c =
    valid_found c.args.top.now c.read_text.ensures.network g.S.Source c.args.lines.now c.args.lines.now c.read_text.new.lines c.judge.result
    (some_found c.args.top.now c.read_text.ensures.network g.S.Source c.args.lines.now c.args.lines.now c.read_text.new.lines c.in-Some.body c.judge.result c.judge.ensures
    (rw c.in-Some.is at c.in_ok-body.ensures.text))

pub returns-in-Some-clause-cheapest : goal.returns-in-Some-clause-cheapest
returns-in-Some-clause-cheapest g c =
    some_cheapest c.args.top.now c.read_text.ensures.network g.S.Source c.args.lines.now c.args.lines.now c.read_text.new.lines c.in-Some.body c.judge.result c.judge.ensures
    (rw c.in-Some.is at c.in_ok-body.ensures.text)

pub returns-in-None-clause-found : goal.returns-in-None-clause-found
returns-in-None-clause-found g c =
    none_found c.args.top.now c.read_text.ensures.network g.S.Source c.args.lines.now c.read_text.new.lines c.refuse.new.lines (rw c.in-None.is at c.in_ok-body.ensures.text) c.in_ok-body.ensures.reads
    c.refuse.result c.refuse.ensures.no c.refuse.ensures.all

pub returns-in-None-clause-valid : goal.returns-in-None-clause-valid
returns-in-None-clause-valid g c =
    none_valid c.args.top.now c.read_text.ensures.network g.S.Source c.args.lines.now c.read_text.new.lines c.refuse.new.lines (rw c.in-None.is at c.in_ok-body.ensures.text) c.in_ok-body.ensures.reads
    c.refuse.result c.refuse.ensures.all

pub returns-in-None-clause-all : goal.returns-in-None-clause-all
returns-in-None-clause-all g c =
    none_all c.args.top.now c.read_text.ensures.network g.S.Source c.args.lines.now c.read_text.new.lines c.refuse.new.lines (rw c.in-None.is at c.in_ok-body.ensures.text) c.in_ok-body.ensures.reads
    c.refuse.result c.refuse.ensures.all

pub returns-in-None-clause-cheapest : goal.returns-in-None-clause-cheapest
returns-in-None-clause-cheapest g c =
    none_cheapest c.args.top.now c.read_text.ensures.network g.S.Source c.args.lines.now c.read_text.new.lines c.refuse.new.lines c.refuse.result c.refuse.ensures.no

pub returns-in-None-clause-reads : goal.returns-in-None-clause-reads
returns-in-None-clause-reads g c =
    up_to_then g.S.Source c.args.lines.now c.read_text.new.lines c.refuse.new.lines (fault_in c.refuse.result) c.in_ok-body.ensures.reads c.refuse.ensures.reads
