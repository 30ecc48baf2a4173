use Rattle.std.proofs.Common.{◌≡◌, ◌<◌, ◌==◌, length, rules, tests}
use Rattle.std.proofs.lemmas.Iterator.{cases_from_all}
use Rattle.std.proofs.lemmas.Iterator.Splits.{YieldsList-from_slice_split}
use Rattle.hose_cert.proofs.Spelling.{spaced_judged}
use Rattle.hose_cert.proofs.parsing.is_spaced.Goals as goal

pub returns : goal.returns
returns c =
    spaced_judged c.all.result _
    (cases_from_all _ _ _ (λ part. 0 < length part) (λ part. length part ≡ 0) c.all.ensures.ran
    (YieldsList-from_slice_split _ (λ byte. byte == 32) c.args.line.now c.split.ensures.rest c.split.ensures.done c.split.ensures.closure (λ x b q k. search (rules, tests)))
    (λ x q k. search (rules, tests)) (λ x q k. search (rules, tests)))
