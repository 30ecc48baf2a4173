use Rattle.hose_words.proofs.DecimalLemmas.{is_text}
use Rattle.hose_words.proofs.words.number.Goals as goal

pub returns-in_default-from_utf8-clause-none : goal.returns-in_default-from_utf8-clause-none
returns-in_default-from_utf8-clause-none c = λ n _ is. c.in_default-from_utf8.ensures.cases.0 (is_text _ n is)
