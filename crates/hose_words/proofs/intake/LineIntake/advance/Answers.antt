use Rattle.std.proofs.Common.{◌≤◌, ◌∙◌, nat_lt, length, refl, sym, ap, arith, rules, ⊎_elim}
use Rattle.std.proofs.lemmas.Bool.{MatchBool-at_true, cases_lt}
use Rattle.std.proofs.lemmas.Result.{err_from_is_err_and}
use Rattle.hose_io.specs.steps.Calls.{none_yet}
use Rattle.hose_words.specs.steps.Intake.{reader_of, TakesBytes, MeetsEnd}
use Rattle.hose_words.specs.steps.Kept.{ReaderState}
use Rattle.hose_words.specs.declared.lines.TheConstants.{INPUT_LIMIT}
use Rattle.hose_words.proofs.Coming.{HasPassed, HasPassed-from, HasCome-more, HasCome-none, IsNext-line, IsNext-last, IsNext-fault}
use Rattle.hose_words.proofs.intake.LineIntake.advance.Goals.{After-drop_long-is_long}
use Rattle.hose_words.proofs.intake.LineIntake.advance.Goals as goal

pub returns-in-Some-clause-next : goal.returns-in-Some-clause-next
returns-in-Some-clause-next g c = search (rules, none_yet)

pub loop-self-init : goal.loop-self-init
loop-self-init g c =
    let none = c.in_default.is in
    let few : c.self.inside.taken ≤ INPUT_LIMIT = ⊎_elim (λ more. absurd (cc (c.self.invariant.1.1 more, none))) (λ within. within) (cases_lt INPUT_LIMIT c.self.inside.taken) in
    let kept = c.self.view_is in
    HasCome-none g.S.Source (reader_of c.args.source.now c.args.self.now) (ap (λ (k : ReaderState). k.fault) (sym kept) ∙ none) (omega (arith, ap (λ (k : ReaderState). k.taken) kept, few)) c.requires.at_end

pub returns-then-cut_line-clause-next : goal.returns-then-cut_line-clause-next
returns-then-cut_line-clause-next g c = λ shown shows.
    let old = reader_of c.args.source.now c.args.self.now in
    let r = reader_of c.loop-self.source c.loop-self.self in
    let now = reader_of c.loop-self.source c.cut_line.new.self in
    IsNext-line g.S.Source old r now c.loop-self.is_long c.cut_line.new.self.line shown c.loop-self.invariant c.if-cut_line.ensures.cuts refl c.cut_line.ensures.taken c.cut_line.ensures.fault c.cut_line.ensures.ended (rw c.found.ensures at shows)

-- before more is taken, no line is pending whole and nothing that is too long
passed : (g : _) (c : After-drop_long-is_long g) → HasPassed g.S.Source (reader_of c.args.source.now c.args.self.now) (reader_of c.loop-self.source c.drop_long-is_long.new.self) c.drop_long-is_long.result
passed g c =
    let old = reader_of c.args.source.now c.args.self.now in
    let r = reader_of c.loop-self.source c.loop-self.self in
    let now = reader_of c.loop-self.source c.drop_long-is_long.new.self in
    let cuts = c.if-cut_line.ensures.cuts in
    let pending = c.cut_line.new.self.pending in
    let drops = c.drop_long-is_long.ensures in
    HasPassed-from g.S.Source old r now c.loop-self.is_long c.drop_long-is_long.result (nat_lt 4096 (length pending)) pending c.loop-self.invariant cuts.0 cuts.1 refl drops.drops refl (drops.taken ∙ c.cut_line.ensures.taken) (drops.fault ∙ c.cut_line.ensures.fault) (drops.ended ∙ c.cut_line.ensures.ended)

pub returns-in_err-take_more-clause-next : goal.returns-in_err-take_more-clause-next
returns-in_err-take_more-clause-next g c =
    let old = reader_of c.args.source.now c.args.self.now in
    let r = reader_of c.loop-self.source c.drop_long-is_long.new.self in
    let now = reader_of c.take_more.new.source c.take_more.new.self in
    let e = err_from_is_err_and c.from_residual.result c.from_residual.ensures.1 in
    rw (e.1, e.2) (IsNext-fault g.S.Source old r now c.drop_long-is_long.result _ (passed g (goal.at.returns-in_err-take_more-clause-next g c).After-drop_long-is_long) c.in_err-take_more.ensures)

pub returns-then-not-branch-clause-next : goal.returns-then-not-branch-clause-next
returns-then-not-branch-clause-next g c = λ shown shows.
    let old = reader_of c.args.source.now c.args.self.now in
    let r = reader_of c.loop-self.source c.drop_long-is_long.new.self in
    let m = reader_of c.take_more.new.source c.take_more.new.self in
    let now = reader_of c.take_more.new.source c.cut_rest.new.self in
    IsNext-last g.S.Source old r m now c.drop_long-is_long.result shown (passed g (goal.at.returns-then-not-branch-clause-next g c).After-drop_long-is_long) (rw c.if-not-branch.true at c.in_ok-take_more.ensures) (rw c.cut_rest.ensures refl) (rw (c.last.ensures, c.cut_rest.ensures) at shows)

pub loop-self-preserved : goal.loop-self-preserved
loop-self-preserved g c =
    let old = reader_of c.args.source.now c.args.self.now in
    let r = reader_of c.loop-self.source c.drop_long-is_long.new.self in
    let now = reader_of c.take_more.new.source c.take_more.new.self in
    let turn = c.in_ok-take_more.ensures in
    let took = MatchBool-at_true (TakesBytes g.S.Source r now) (MeetsEnd g.S.Source r now) c.if-not-branch.false turn in
    HasCome-more g.S.Source old r now c.drop_long-is_long.result (passed g (goal.at.loop-self-preserved g c).After-drop_long-is_long) took
