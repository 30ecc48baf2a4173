use Rattle.std.proofs.Common.{◌∷◌, [], ◌++◌, List, ap}
use Rattle.hose_offline.specs.declared.sheet_answer.SheetAnswer.{SheetAnswer}
use Rattle.hose_offline.proofs.pricing.PricerAnswers.answer.Goals as goal

pub returns-clause-answers : goal.returns-clause-answers
returns-clause-answers g c = λ from said answers same.
    let answer = c.answer_to.result in
    (answer, c.answer_to.ensures, ap (λ (a : List SheetAnswer). a ++ answer ∷ []) same)
