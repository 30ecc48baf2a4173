use Rattle.std.proofs.Common.{◌≡◌, ◌∙◌, ◌<◌, Err, List, false, length, map, ap, inr, refl}
use Rattle.std.proofs.lemmas.Result.{err_from_is_err_and}
use Rattle.hose_words.specs.declared.lines.TheConstants.{INPUT_LIMIT}
use Rattle.hose_talk.specs.Talk.{IsCutNear, TellsOf}
use Rattle.hose_talk.proofs.Retold.{talks_as}
use Rattle.hose_proto.specs.ReplyText.{line_of}
use Rattle.hose_outside.specs.Parts.{tellings}
use Rattle.hose_outside.specs.steps.Parts.{held}
use Rattle.hose_offline.specs.SheetLine.{AnswersSheet, answer_text}
use Rattle.hose_outside.specs.declared.fault.Fault.TheVariants.{Memory}
use Rattle.hose_offline.specs.declared.sheet_answer.SheetAnswer.{SheetAnswer}
use Rattle.hose_offline.proofs.Priced.{starved}
use Rattle.hose_offline.proofs.TalksTold.{too_long_told}
use Rattle.hose_offline.proofs.pricing.price_input.Goals as goal

pub returns-in_err-sheet-clause-prices : goal.returns-in_err-sheet-clause-prices
returns-in_err-sheet-clause-prices g c =
    let told = err_from_is_err_and c.from_residual.result c.from_residual.ensures.1 in
    let is : c.from_residual.result ≡ Err Memory = told.1 ∙ ap Err told.2 in
    rw is (starved (tellings g.I.Source g.O.Sink g.C.Cabinet g.C.Disk.Disk) _ (held c.args.outside.now) c.args.top.now)

pub returns-in_err-tables-clause-prices : goal.returns-in_err-tables-clause-prices
returns-in_err-tables-clause-prices g c =
    let told = err_from_is_err_and c.from_residual-in_err-tables.result c.from_residual-in_err-tables.ensures.1 in
    let is : c.from_residual-in_err-tables.result ≡ Err Memory = told.1 ∙ ap Err told.2 in
    rw is (starved (tellings g.I.Source g.O.Sink g.C.Cabinet g.C.Disk.Disk) _ (held c.args.outside.now) c.args.top.now)

pub returns-clause-prices : goal.returns-clause-prices
returns-clause-prices g c =
    let talk = c.hold_talk in
    let takes = talk.ensures.takes in
    let made = c.in_ok-sheet.ensures in
    let names = map (λ tariff. tariff.name) c.args.tariffs.now in
    let before = c.args.outside.now in
    let tells = TellsOf (λ _. AnswersSheet c.in_ok-sheet.sheet) (g.I.Source.content before.input.now) (g.I.Source.content talk.new.source) in
    let answers = talks_as g.I.Source g.O.Sink (record { tells = tells; cut = IsCutNear g.I.Source talk.new.source; comes = λ (said : List SheetAnswer) (answers : List SheetAnswer) _. said ≡ answers; over = λ _. false; text = λ answer. line_of (answer_text names answer) }) tells (λ (said : List SheetAnswer) (answers : List SheetAnswer) _. said ≡ answers) (λ _. false)
    before.input.now talk.new.source before.output.now talk.new.output talk.new.answers talk.new.answers (tt {0}) (tt {0}) (λ stops lines says. says) (λ said answers same. same) refl talk.result (talk.ensures.talks (tt {0}) refl) in
    record {
      taken = takes.0;
      gives = takes.1;
      limit = takes.2;
      too_long = rw c.done_of_talk.ensures (too_long_told talk.result (INPUT_LIMIT < length takes.0) takes.3);
      answers = inr (c.in_ok-sheet.sheet, record { of = made.network; is_sheet = made.sheet; places = made.places; columns = made.columns }, talk.result, c.done_of_talk.ensures, answers);
    }
