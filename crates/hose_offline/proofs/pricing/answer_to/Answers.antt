use Rattle.std.proofs.Common.{◌∙◌, Err, ap, subst}
use Rattle.hose_words.specs.steps.Lines.{Shows}
use Rattle.hose_words.specs.declared.lines.Line.{Line}
use Rattle.hose_offline.proofs.Sheets.{bad_shown, priced_shown}
use Rattle.hose_offline.proofs.pricing.answer_to.Goals as goal

pub returns-in-Err-Bad : goal.returns-in-Err-Bad
returns-in-Err-Bad g c = λ bytes shows.
    let shown = subst (λ (l : Line). Shows l bytes) c.in-Text.is shows in
    let word = c.in-Err-Bad.word in
    let is = c.in-Err-Bad.is ∙ ap Err c.in-Err-Bad.field-0-is in
    let bad = bad_shown c.args.sheet.now.network c.topology.result.now c.in-Text.text.now bytes word c.topology.ensures shown.1
    (c.read_sheet_line.ensures.bad word is, c.read_sheet_line.ensures.asked word is) in
    rw c.in-Err-Bad.word-is (shown.0, bad.0, bad.1)

pub returns-in-Ok : goal.returns-in-Ok
returns-in-Ok g c = λ bytes shows.
    let shown = subst (λ (l : Line). Shows l bytes) c.in-Text.is shows in
    priced_shown c.args.sheet.now c.topology.result.now c.in-Text.text.now bytes c.in-Ok.asked.0 c.in-Ok.asked.1 c.price_hose.result c.topology.ensures shown.1 shown.0 c.in-Ok.ensures.ok c.price_hose.ensures
