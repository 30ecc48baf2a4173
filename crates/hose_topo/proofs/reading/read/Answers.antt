use Rattle.std.proofs.Common.{◌≡◌, Ok, Err, rules}
use Rattle.std.specs.Prelude.{⊤}
use Rattle.std.proofs.lemmas.Result.{err_from_is_err_and}
use Rattle.hose_words.proofs.OnReading.{ReadsOn-start}
use Rattle.hose_topo.proofs.TopologyReading.{HasRead-start, fault_of_is, reads_on, added, ended, ended_alone, no_text, stopped, told_all, wrong}
use Rattle.hose_topo.proofs.reading.read.Goals as goal

pub returns-in_err-top-clause-reads_on : goal.returns-in_err-top-clause-reads_on
returns-in_err-top-clause-reads_on g c = ReadsOn-start g.S.Source c.args.lines.now

pub loop-top-init : goal.loop-top-init
loop-top-init g c = rw c.in_ok-top.ensures.empty (HasRead-start g.S.Source c.args.lines.now)

pub loop-top-preserved : goal.loop-top-preserved
loop-top-preserved g c =
    let l = c.loop-top in
    added g.S.Source c.args.lines.now l.lines c.take_next.new.lines l.line l.top c.take_next.new.top l.invariant (rw c.in-Added.is at c.in_ok-take_next.ensures.takes)

pub returns-in_err-take_next-clause-reads_on : goal.returns-in_err-take_next-clause-reads_on
returns-in_err-take_next-clause-reads_on g c =
    let l = c.loop-top in
    reads_on g.S.Source c.args.lines.now l.lines c.take_next.new.lines l.line l.top c.take_next.new.top (Err c.in_err-take_next.field-0.0) l.invariant c.in_err-take_next.ensures.takes

pub returns-in-End-clause-reads_on : goal.returns-in-End-clause-reads_on
returns-in-End-clause-reads_on g c =
    let l = c.loop-top in
    reads_on g.S.Source c.args.lines.now l.lines c.take_next.new.lines l.line l.top c.take_next.new.top (Ok c.in_ok-take_next.field-0) l.invariant c.in_ok-take_next.ensures.takes

pub returns-in-Wrong-clause-reads_on : goal.returns-in-Wrong-clause-reads_on
returns-in-Wrong-clause-reads_on g c =
    let l = c.loop-top in
    reads_on g.S.Source c.args.lines.now l.lines c.take_next.new.lines l.line l.top c.take_next.new.top (Ok c.in_ok-take_next.field-0) l.invariant c.in_ok-take_next.ensures.takes

pub returns-in-End-clause-alone : goal.returns-in-End-clause-alone
returns-in-End-clause-alone g c =
    let l = c.loop-top in
    ended_alone g.S.Source c.args.lines.now l.lines c.take_next.new.lines l.line l.top c.take_next.new.top l.invariant (rw c.in-End.is at c.in_ok-take_next.ensures.takes)

pub returns-in-Wrong-clause-no_text : goal.returns-in-Wrong-clause-no_text
returns-in-Wrong-clause-no_text g c _ _ _ =
    let l = c.loop-top in
    no_text g.S.Source c.args.lines.now l.lines c.take_next.new.lines l.line c.in-Wrong.word l.top c.take_next.new.top c.in_ok-take_next.ensures.network l.invariant
    (rw c.in-Wrong.is at c.in_ok-take_next.ensures.takes)

pub returns-in-End-clause-topology : goal.returns-in-End-clause-topology
returns-in-End-clause-topology g c =
    let l = c.loop-top in
    ended g.S.Source c.args.lines.now l.lines c.take_next.new.lines l.line l.top c.take_next.new.top l.invariant (rw c.in-End.is at c.in_ok-take_next.ensures.takes)

pub returns-in-Wrong-clause-wrong : goal.returns-in-Wrong-clause-wrong
returns-in-Wrong-clause-wrong g c line word is =
    let l = c.loop-top in
    let told = wrong g.S.Source c.args.lines.now l.lines c.take_next.new.lines l.line c.in-Wrong.word l.top c.take_next.new.top c.in_ok-take_next.ensures.network l.invariant (rw c.in-Wrong.is at c.in_ok-take_next.ensures.takes) in
    search rules

pub returns-in_err-take_next-clause-topology : goal.returns-in_err-take_next-clause-topology
returns-in_err-take_next-clause-topology g c =
    let told = err_from_is_err_and c.from_residual-in_err-take_next.result c.from_residual-in_err-take_next.ensures.1 in
    rw told.1 (told_all (g.S.Source.content c.args.lines.now.source) (g.S.Source.content c.take_next.new.lines.source) (λ _ _. ⊤) (λ before after. tt))

pub returns-in_err-take_next-clause-alone : goal.returns-in_err-take_next-clause-alone
returns-in_err-take_next-clause-alone g c =
    let told = err_from_is_err_and c.from_residual-in_err-take_next.result c.from_residual-in_err-take_next.ensures.1 in
    rw told.1 (told_all (g.S.Source.content c.args.lines.now.source) (g.S.Source.content c.take_next.new.lines.source) (λ _ _. ⊤) (λ before after. tt))

pub returns-in_err-take_next-clause-front : goal.returns-in_err-take_next-clause-front
returns-in_err-take_next-clause-front g c none fault is =
    let l = c.loop-top in
    let met = c.in_err-take_next.field-0.0 in
    let told = err_from_is_err_and c.from_residual-in_err-take_next.result c.from_residual-in_err-take_next.ensures.1 in
    let same : met ≡ fault = fault_of_is met fault (cc (is, told.1, told.2)) in
    rw (← same) (stopped g.S.Source c.args.lines.now l.lines c.take_next.new.lines l.line l.top c.take_next.new.top met l.invariant c.in_err-take_next.ensures.takes none)
