use Rattle.std.proofs.Common.{◌≡◌, ◌≤◌, ◌∙◌, ℕ, Ok, Err, Some, false, refl, ap, subst, true}
use Rattle.std.proofs.lemmas.Result.{err_from_is_err_and}
use Rattle.hose_io.specs.Stream.{Grows}
use Rattle.hose_io.specs.Writing.{GrowsInPart}
use Rattle.hose_words.specs.steps.Lines.{IsNext}
use Rattle.hose_words.specs.steps.Saying.{IsOver}
use Rattle.hose_words.specs.declared.lines.LineFault.TheVariants as line_fault
use Rattle.hose_words.proofs.OnReading.{ReadsOn-next, ReadsOn-then}
use Rattle.hose_talk.specs.Talk.{most_ahead, talk}
use Rattle.hose_talk.specs.steps.TalkFaults.{of_line}
use Rattle.hose_talk.specs.declared.talking.TalkFault.TheVariants as talk_fault
use Rattle.hose_talk.proofs.StillReading.{reading_begun, reading_more}
use Rattle.hose_talk.proofs.Talks.{answered_line, exchanges_read, nothing_talked, one_past, talked_more, talks_all, talks_fault, talks_over, within_limit}
use Rattle.hose_talk.proofs.talking.converse.Goals as goal

pub loop-lines-init : goal.loop-lines-init
loop-lines-init g c = record {
  talked = λ from begins. nothing_talked g.A.Answers g.S.Source g.O.Sink from (talk c.args.lines.now c.args.output.now c.args.answers.now) begins;
  about = refl;
  fits = c.requires.fits;
  below = c.requires.limit;
  still = reading_begun g.S.Source g.O.Sink c.args.lines.now c.args.output.now c.requires.no_fault (one_past c.args.lines.now.taken c.requires.limit);
}

pub loop-lines-preserved : goal.loop-lines-preserved
loop-lines-preserved g c =
    let before = c.loop-lines.invariant in
    let was = c.loop-lines in
    let new = c.next.follows.lender-at-none in
    let goes_on : g.A.Answers.over was.answers ≡ false = cc (c.is_over.ensures, c.loop-lines-test.true) in
    let next = subst (IsNext g.S.Source was.lines new) (c.in_ok-line.was ∙ ap Ok c.in-Some.is) c.next.follows.holds-at-none in
    let put = c.in-Ok.ensures in
    let line = answered_line g.A.Answers g.S.Source g.O.Sink (talk was.lines was.output was.answers) (talk new c.put.new.output c.answer-reply.new.self) c.in-Some.line c.answer-reply.result (Grows (g.O.Sink.content was.output) (g.O.Sink.content c.put.new.output)) next
    c.answer-reply.ensures.answers c.answer-reply.ensures.about put.ok in
    record {
      talked = λ from begins. talked_more g.A.Answers g.S.Source g.O.Sink from (talk c.args.lines.now c.args.output.now c.args.answers.now) (talk was.lines was.output was.answers) (talk new c.put.new.output c.answer-reply.new.self) before.about (before.talked from begins) before.still goes_on line;
      about = c.answer-reply.ensures.about ∙ before.about;
      fits = c.answer-reply.ensures.fits;
      below = within_limit (Some c.in-Some.line) line_fault.TooLong new.taken next.too_long;
      still = reading_more g.S.Source g.O.Sink c.args.lines.now was.lines c.args.output.now was.output before.still new c.put.new.output (ReadsOn-next g.S.Source was.lines new _ next) next.fault.1 next.limit put.met.ok;
    }

pub returns-in_err-line-clause-talks : goal.returns-in_err-line-clause-talks
returns-in_err-line-clause-talks g c = λ from begins.
    let before = c.loop-lines.invariant in
    let was = c.loop-lines in
    let met = c.in_err-line.field-0.0 in
    let new = c.next.follows.lender-at-none in
    let goes_on : g.A.Answers.over was.answers ≡ false = cc (c.is_over.ensures, c.loop-lines-test.true) in
    let next = subst (IsNext g.S.Source was.lines new) c.in_err-line.was c.next.follows.holds-at-none in
    let told = err_from_is_err_and c.from_residual.result c.from_residual.ensures.1 in
    let is : c.from_residual.result ≡ Err (of_line met) = told.1 ∙ ap Err told.2 in
    rw is (talks_fault g.A.Answers g.S.Source g.O.Sink from (talk c.args.lines.now c.args.output.now c.args.answers.now) (talk was.lines was.output was.answers) (talk new was.output was.answers) before.about (before.talked from begins) before.still goes_on (of_line met)
    (ReadsOn-next g.S.Source was.lines new _ next) (exchanges_read g.A.Answers g.S.Source g.O.Sink (talk was.lines was.output was.answers) new met before.still.none next))

pub returns-in_default-clause-talks : goal.returns-in_default-clause-talks
returns-in_default-clause-talks g c = λ from begins.
    let before = c.loop-lines.invariant in
    let was = c.loop-lines in
    let new = c.next.follows.lender-at-none in
    let goes_on : g.A.Answers.over was.answers ≡ false = cc (c.is_over.ensures, c.loop-lines-test.true) in
    let next = subst (IsNext g.S.Source was.lines new) (c.in_ok-line.was ∙ ap Ok c.in_default.is) c.next.follows.holds-at-none in
    let over : IsOver g.S.Source was.lines new = record { ended = next.answer before.still.none } in
    talks_all g.A.Answers g.S.Source g.O.Sink from (talk c.args.lines.now c.args.output.now c.args.answers.now) (talk was.lines was.output was.answers) (talk new was.output was.answers) before.about (before.talked from begins) before.still goes_on
    (ReadsOn-next g.S.Source was.lines new _ next) (over, next.fault.1, refl, refl)

pub returns-in_default-put-clause-talks : goal.returns-in_default-put-clause-talks
returns-in_default-put-clause-talks g c = λ from begins.
    let before = c.loop-lines.invariant in
    let was = c.loop-lines in
    let new = c.next.follows.lender-at-none in
    let goes_on : g.A.Answers.over was.answers ≡ false = cc (c.is_over.ensures, c.loop-lines-test.true) in
    let next = subst (IsNext g.S.Source was.lines new) (c.in_ok-line.was ∙ ap Ok c.in-Some.is) c.next.follows.holds-at-none in
    let put = c.in_default-put.ensures in
    let line = answered_line g.A.Answers g.S.Source g.O.Sink (talk was.lines was.output was.answers) (talk new c.put.new.output c.answer-reply.new.self) c.in-Some.line c.answer-reply.result (GrowsInPart (g.O.Sink.content was.output) (g.O.Sink.content c.put.new.output)) next
    c.answer-reply.ensures.answers c.answer-reply.ensures.about put.err in
    talks_fault g.A.Answers g.S.Source g.O.Sink from (talk c.args.lines.now c.args.output.now c.args.answers.now) (talk was.lines was.output was.answers) (talk new c.put.new.output c.answer-reply.new.self) before.about (before.talked from begins) before.still goes_on talk_fault.Write
    (ReadsOn-next g.S.Source was.lines new _ next) (line, next.fault.1, put.met.failed (refl {a = true}), subst (λ (n : ℕ). n ≤ most_ahead) c.pending-ahead.ensures.count c.pending-ahead.ensures.limit)

pub returns-clause-talks : goal.returns-clause-talks
returns-clause-talks g c = λ from begins.
    let before = c.loop-lines.invariant in
    let was = c.loop-lines in
    talks_over g.A.Answers g.S.Source g.O.Sink from (talk c.args.lines.now c.args.output.now c.args.answers.now) (talk was.lines was.output was.answers) (before.talked from begins) before.still (cc (c.is_over.ensures, c.loop-lines-test.false)) (subst (λ (n : ℕ). n ≤ most_ahead) c.pending-ahead-2.ensures.count c.pending-ahead-2.ensures.limit)

pub returns-in_err-line-clause-reads_on : goal.returns-in_err-line-clause-reads_on
returns-in_err-line-clause-reads_on g c = ReadsOn-then g.S.Source c.args.lines.now c.loop-lines.lines c.next.follows.lender-at-none c.loop-lines.invariant.still.reads (ReadsOn-next g.S.Source c.loop-lines.lines c.next.follows.lender-at-none _ c.next.follows.holds-at-none)

pub returns-in_default-clause-reads_on : goal.returns-in_default-clause-reads_on
returns-in_default-clause-reads_on g c = ReadsOn-then g.S.Source c.args.lines.now c.loop-lines.lines c.next.follows.lender-at-none c.loop-lines.invariant.still.reads (ReadsOn-next g.S.Source c.loop-lines.lines c.next.follows.lender-at-none _ c.next.follows.holds-at-none)

pub returns-in_default-put-clause-reads_on : goal.returns-in_default-put-clause-reads_on
returns-in_default-put-clause-reads_on g c = ReadsOn-then g.S.Source c.args.lines.now c.loop-lines.lines c.next.follows.lender-at-none c.loop-lines.invariant.still.reads (ReadsOn-next g.S.Source c.loop-lines.lines c.next.follows.lender-at-none _ c.next.follows.holds-at-none)
